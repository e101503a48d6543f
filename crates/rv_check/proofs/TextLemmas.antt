-- The text of an entry is short and has no line end, so that a journal's text is that of one history.
use Rattle.std.proofs.Common.{◌≡◌, ℕ, ◌+◌, ◌^◌, ◌<◌, ◌≤◌, true, List, [], ◌∷◌, ◌++◌, length, Some, codes, refl, sym, ap, ◌∙◌, subst, arith, append_assoc, length-append}
use Rattle.std.specs.Prelude.{decimal}
use Rattle.std.proofs.lemmas.Fmt.{length-decimal-le}
use Rattle.rv_model.specs.declared.entry.Act.{Act}
use Rattle.rv_model.specs.declared.entry.Act.TheVariants.{Deliver, Stop, Look, Raise, Lower, Clear, End}
use Rattle.rv_model.specs.declared.entry.Entry.{Entry}
use Rattle.rv_model.specs.declared.hit.Mode.{Mode}
use Rattle.rv_model.specs.declared.hit.Mode.TheVariants as modes
use Rattle.rv_model.specs.declared.hit.What.{What}
use Rattle.rv_model.specs.declared.hit.What.TheVariants.{Da, Ltl, Nothing}
use Rattle.rv_journal.specs.EntryTexts.{mode_word, what_words, act_words, behind_blanks, entry_text, IsWhat, IsAct, IsEntry}
use Rattle.rv_journal.proofs.ReadingLemmas.{line-reads}
use Rattle.rv_journal.proofs.ReadingLemmas as journal
use Rattle.rv_check.specs.Readings.{has_no_end}
use Rattle.rv_check.proofs.LineEndLemmas.{no_end-each}

-- at most so many bytes
abbrev Fits : ℕ → List ℕ → Type 0
Fits most text = length text ≤ most

-- one behind the other
fits-append : (m n : ℕ) (a b : List ℕ) → Fits m a → Fits n b → Fits (m + n) (a ++ b)
fits-append m n a b left right = omega (arith, length-append a b)

-- behind a blank
fits-blank : (m n : ℕ) (word : List ℕ) (words : List (List ℕ)) → Fits m word → Fits n (behind_blanks words) → Fits (m + 1 + n) (behind_blanks (word ∷ words))
fits-blank m n word words left right = fits-append (m + 1) n (32 ∷ word) (behind_blanks words) (omega arith) right

-- no word
fits-none : Fits 0 (behind_blanks [])
fits-none = omega arith

-- with room to spare
fits-more : (m n : ℕ) (text : List ℕ) → Fits m text → m ≤ n → Fits n text
fits-more m n text fits low = omega arith

-- a number of 32 bits
fits-32 : (n : ℕ) → n < 2 ^ 32 → Fits 10 (decimal n)
fits-32 n low = length-decimal-le 10 n (omega arith) (omega arith) (omega arith)

-- a number of 64 bits
fits-64 : (n : ℕ) → n < 2 ^ 64 → Fits 20 (decimal n)
fits-64 n low = length-decimal-le 20 n (omega arith) (omega arith) low

-- a mode
fits-mode : (mode : Mode) → Fits 9 (mode_word mode)
fits-mode modes.Event = omega arith
fits-mode modes.Start = omega arith
fits-mode modes.StartRun = omega arith
fits-mode modes.End = omega arith

-- what is run
fits-what : (what : What) → IsWhat what → Fits 41 (behind_blanks (what_words what))
fits-what (Da event) is =
    fits-more 19 41 (behind_blanks (codes "da" ∷ decimal event ∷ [])) (fits-blank 7 11 (codes "da") (decimal event ∷ []) (omega arith)
    (fits-blank 10 0 (decimal event) [] (fits-32 event (omega arith)) fits-none)) (omega arith)
fits-what (Ltl on off pulse) (a, b, c) =
    fits-blank 7 33 (codes "ltl") (decimal on ∷ decimal off ∷ decimal pulse ∷ []) (omega arith)
    (fits-blank 10 22 (decimal on) (decimal off ∷ decimal pulse ∷ []) (fits-32 on a)
    (fits-blank 10 11 (decimal off) (decimal pulse ∷ []) (fits-32 off b)
    (fits-blank 10 0 (decimal pulse) [] (fits-32 pulse c) fits-none)))
fits-what Nothing is = fits-more 0 41 (behind_blanks []) fits-none (omega arith)

-- a name and a number
fits-named : (name : List ℕ) (n : ℕ) → Fits 7 name → n < 2 ^ 64 → Fits 70 (behind_blanks (name ∷ decimal n ∷ []))
fits-named name n low small =
    fits-more 29 70 (behind_blanks (name ∷ decimal n ∷ [])) (fits-blank 7 21 name (decimal n ∷ []) low (fits-blank 20 0 (decimal n) [] (fits-64 n small) fits-none)) (omega arith)

-- an act
fits-act : (act : Act) → IsAct act → Fits 70 (behind_blanks (act_words act))
fits-act (Deliver slot hit) (low, what) =
    fits-blank 7 62 (codes "deliver") (decimal slot ∷ mode_word hit.mode ∷ what_words hit.what) (omega arith)
    (fits-blank 10 51 (decimal slot) (mode_word hit.mode ∷ what_words hit.what) (fits-32 slot low)
    (fits-blank 9 41 (mode_word hit.mode) (what_words hit.what) (fits-mode hit.mode) (fits-what hit.what what)))
fits-act (Stop slot) is = fits-named (codes "stop") slot (omega arith) (omega arith)
fits-act Look is = fits-more 8 70 (behind_blanks (codes "look" ∷ [])) (fits-blank 7 0 (codes "look") [] (omega arith) fits-none) (omega arith)
fits-act (Raise bits) is = fits-named (codes "raise") bits (omega arith) is
fits-act (Lower bits) is = fits-named (codes "lower") bits (omega arith) is
fits-act (Clear slot) is = fits-named (codes "clear") slot (omega arith) (omega arith)
fits-act (End slot) is = fits-named (codes "end") slot (omega arith) (omega arith)

-- two lists of words
blanks-append : (xs ys : List (List ℕ)) → behind_blanks (xs ++ ys) ≡ behind_blanks xs ++ behind_blanks ys
blanks-append [] ys = refl
blanks-append (x ∷ xs) ys = ap (λ (t : List ℕ). (32 ∷ x) ++ t) (blanks-append xs ys) ∙ sym (append_assoc (32 ∷ x) (behind_blanks xs) (behind_blanks ys))

-- an entry
fits-entry : (e : Entry) → IsEntry e → Fits 122 (entry_text e)
fits-entry e is =
    let words = decimal e.before ∷ decimal e.after ∷ [] in
    let last : Fits 42 (behind_blanks words) = fits-blank 20 21 (decimal e.before) (decimal e.after ∷ []) (fits-64 e.before is.before) (fits-blank 20 0 (decimal e.after) [] (fits-64 e.after is.after) fits-none) in
    let rest : Fits 112 (behind_blanks (act_words e.act ++ words)) = subst (Fits 112) (sym (blanks-append (act_words e.act) words)) (fits-append 70 42 (behind_blanks (act_words e.act)) (behind_blanks words) (fits-act e.act is.act) last) in
    fits-append 10 112 (decimal e.seat) (behind_blanks (act_words e.act ++ words)) (fits-32 e.seat is.seat) rest

-- its text has no line end
pub entry-unended : (e : Entry) → IsEntry e → has_no_end (entry_text e) ≡ true
entry-unended e is = no_end-each (entry_text e) (journal.entry-unended e is)

-- and at most 200 bytes
pub entry-short : (e : Entry) → IsEntry e → length (entry_text e) ≤ 200
entry-short e is = let short : length (entry_text e) ≤ 122 = fits-entry e is in omega arith

-- and is no other entry's
pub entry-one : (e f : Entry) → IsEntry e → IsEntry f → entry_text e ≡ entry_text f → e ≡ f
entry-one e f is_e is_f same =
    let both : Some e ≡ Some f = sym (line-reads (entry_text f) e is_e same) ∙ line-reads (entry_text f) f is_f refl in
    cc
