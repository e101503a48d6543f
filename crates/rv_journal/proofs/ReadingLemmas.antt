-- The line of an entry is read as it, and no other line is.
use Rattle.std.proofs.Common.{◌≡◌, ◌≢◌, ℕ, ◌<◌, true, List, [], ◌∷◌, ◌++◌, length, get_or, Option, Some, None, refl, sym, ap, ◌∙◌, arith}
use Rattle.std.specs.Prelude.{decimal, IfSome}
use Rattle.rv_model.specs.declared.entry.Act.{Act}
use Rattle.rv_model.specs.declared.entry.Act.TheVariants.{Deliver, Stop, Look, Raise, Lower, Clear, End}
use Rattle.rv_model.specs.declared.entry.Entry.{Entry}
use Rattle.rv_model.specs.declared.hit.Mode.{Mode}
use Rattle.rv_model.specs.declared.hit.Mode.TheVariants as modes
use Rattle.rv_model.specs.declared.hit.What.{What}
use Rattle.rv_model.specs.declared.hit.What.TheVariants.{Da, Ltl, Nothing}
use Rattle.rv_journal.specs.EntryTexts.{mode_word, what_words, act_words, entry_words, one_apart, entry_text, IsWhat, IsAct, IsEntry}
use Rattle.rv_text.specs.Pieces.{pieces_by}
use Rattle.rv_journal.specs.inner.EntryReadings.{entry_from}
use Rattle.rv_journal.proofs.PieceLemmas.{all_above, AreWords, words-append, pieces-text, pieces-words, above-at, words-above}
use Rattle.rv_journal.proofs.NumberLemmas.{decimal-word}
use Rattle.rv_journal.proofs.EntryReadLemmas.{entry-read}
use Rattle.rv_journal.proofs.EntrySpelledLemmas.{entry-spelled}
use Rattle.rv_journal.proofs.EntryFitLemmas.{entry-fits}

-- what is run has no word with a blank
what-are-words : (what : What) → IsWhat what → AreWords (what_words what)
what-are-words (Da event) is = (refl, (decimal-word event (omega arith), tt))
what-are-words (Ltl on off pulse) is =
    let a = is.0 in
    let b = is.1 in
    let c = is.2 in
    (refl, (decimal-word on (omega arith), (decimal-word off (omega arith), (decimal-word pulse (omega arith), tt))))
what-are-words Nothing is = tt

-- nor has a mode
mode-is-word : (mode : Mode) → all_above 32 (mode_word mode) ≡ true
mode-is-word modes.Event = refl
mode-is-word modes.Start = refl
mode-is-word modes.StartRun = refl
mode-is-word modes.End = refl

-- nor has an act
act-are-words : (act : Act) → IsAct act → AreWords (act_words act)
act-are-words (Deliver slot hit) is = (refl, (decimal-word slot (let l = is.0 in omega arith), (mode-is-word hit.mode, what-are-words hit.what is.1)))
act-are-words (Stop slot) is = (refl, (decimal-word slot (omega arith), tt))
act-are-words Look is = (refl, tt)
act-are-words (Raise bits) is = (refl, (decimal-word bits (omega arith), tt))
act-are-words (Lower bits) is = (refl, (decimal-word bits (omega arith), tt))
act-are-words (Clear slot) is = (refl, (decimal-word slot (omega arith), tt))
act-are-words (End slot) is = (refl, (decimal-word slot (omega arith), tt))

-- nor has an entry
entry-are-words : (e : Entry) → IsEntry e → AreWords (entry_words e)
entry-are-words e is =
    let low = is.seat in (
      decimal-word e.seat (omega arith),
      words-append (act_words e.act) (decimal e.before ∷ decimal e.after ∷ []) (act-are-words e.act is.act) (decimal-word e.before is.before, (decimal-word e.after is.after, tt)),
    )

-- the pieces of an entry's text are its words
entry-pieces : (e : Entry) → IsEntry e → pieces_by 32 (entry_text e) ≡ entry_words e
entry-pieces e is = let are = entry-are-words e is in pieces-words (decimal e.seat) (act_words e.act ++ decimal e.before ∷ decimal e.after ∷ []) are.0 are.1

-- the text of an entry has no line end
pub entry-unended : (e : Entry) → IsEntry e → (k : ℕ) → k < length (entry_text e) → get_or (entry_text e) k 0 ≢ 10
entry-unended e is k inside = λ same. let past : 10 < get_or (entry_text e) k 0 = above-at 10 (entry_text e) k (words-above (entry_words e) (entry-are-words e is)) inside in absurd (omega arith)

-- what is read of a line has it as its text
pub line-is : (line : List ℕ) (result : Option Entry) → result ≡ entry_from (pieces_by 32 line) → IfSome result (λ e. entry_text e ≡ line)
line-is line None is = tt
line-is line (Some e) is = ap one_apart (sym (entry-spelled (pieces_by 32 line) e (sym is))) ∙ pieces-text line

-- what is read of a line is an entry
pub line-fits : (line : List ℕ) (result : Option Entry) → result ≡ entry_from (pieces_by 32 line) → IfSome result IsEntry
line-fits line None is = tt
line-fits line (Some e) is = entry-fits (pieces_by 32 line) e (sym is)

-- the line of an entry is read as it
pub line-reads : (line : List ℕ) (e : Entry) → IsEntry e → entry_text e ≡ line → entry_from (pieces_by 32 line) ≡ Some e
line-reads line e is same = ap (λ (l : List ℕ). entry_from (pieces_by 32 l)) (sym same) ∙ ap entry_from (entry-pieces e is) ∙ entry-read e is
