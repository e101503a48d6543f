-- An act on the words that a history gives is an act on the history.
use Rattle.std.proofs.Common.{◌≡◌, ℕ, ◌<◌, List, length, get_or, arith, sym, ◌∙◌}
use Rattle.std.proofs.lemmas.List.{get_or_default}
use Rattle.rv_model.specs.declared.entry.Entry.{Entry}
use Rattle.rv_model.specs.Setups.{Setup}
use Rattle.rv_core.specs.Core.{IsCore}
use Rattle.rv_core.specs.Following.{IsActedOn, WordsFollowActs}
use Rattle.rv_core.specs.Setup.{word_index}
use Rattle.rv_core.proofs.ActLemmas.{place-below}
use Rattle.rv_core.proofs.CoreLemmas.{core-after, core-answer}

module _ (s : Setup) (words : List ℕ) (h : List Entry) (e : Entry) (k : IsCore s words h) (a : IsActedOn s words e) where
  -- the entry's word is one of the words
  in_words : word_index e.act < length words
  in_words = let b = place-below s e.act a.fits in let c = k.count in omega arith

  -- it was read there
  read : e.before ≡ get_or words (word_index e.act) e.before
  read = a.found ∙ sym (get_or_default words (word_index e.act) e.before 0 in_words)

-- both of the law
pub words_follow_acts : WordsFollowActs
words_follow_acts = record {
  words = λ s words h e k a. core-after s words h k e.seat e.act e.before e.after a.fits a.bits (read s words h e k a) a.left a.range;
  answers = λ s words h e k a. core-answer s words h k e.seat e.act e.before e.after a.fits a.bits (read s words h e k a) a.left a.range;
}
