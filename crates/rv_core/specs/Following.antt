-- A law: a step on the word that a history gives is the step on what the history says.
use Rattle.std.specs.Prelude.{◌≡◌, ℕ, ◌^◌, ◌<◌, List, [], ◌∷◌, ◌++◌, reverse, slice_index, slice_set}
use Rattle.rv_model.specs.declared.entry.Entry.{Entry}
use Rattle.rv_model.specs.Setups.{Setup}
use Rattle.rv_model.specs.SharedWords.{answer_at}
use Rattle.rv_core.specs.Advance.{acted}
use Rattle.rv_core.specs.Core.{IsCore}
use Rattle.rv_core.specs.Setup.{FitsAct, ActFits, judges_of, word_index, table_of_act, start_of_act}

-- the entry's act fits the setup, with numbers that fit the words; it found its word among the words, and left what the act makes of it
pub record IsActedOn (s : Setup) (words : List ℕ) (e : Entry) : Type 0 where
  pub fits : FitsAct s e.act
  pub bits : ActFits s e.act
  pub found : e.before ≡ slice_index words (word_index e.act)
  pub left : e.after ≡ (acted (table_of_act s e.act) (start_of_act s e.act) e.before e.act).1
  pub range : e.after < 2 ^ 64

-- a law: from the words that a history gives, the word that an act leaves is the one that the history gives with the entry, and so is the answer
pub record WordsFollowActs : Type 0 where
  pub words : (s : Setup) (words : List ℕ) (h : List Entry) (e : Entry) → IsCore s words h → IsActedOn s words e → IsCore s (slice_set words (word_index e.act) e.after) (h ++ e ∷ [])
  pub answers : (s : Setup) (words : List ℕ) (h : List Entry) (e : Entry) → IsCore s words h → IsActedOn s words e → (acted (table_of_act s e.act) (start_of_act s e.act) e.before e.act).0 ≡ answer_at s (judges_of s) (reverse h) e e.act
