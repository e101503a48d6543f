-- A journal's reader as contracts see it, and what it keeps.
use Rattle.std.specs.Prelude.{◌≡◌, ◌≢◌, ℕ, suc, ◌≤◌, Bool, true, not, ◌&&◌, ◌==◌, List, [], ◌∷◌, ◌++◌, length, flat_map, MatchBool}
use Rattle.std.specs.Coded.{Coded, code_by, coded×, coded_ℕ, coded_list, coded_bool}
use Rattle.std.proofs.Common.{refl}
use Rattle.rv_model.specs.declared.entry.Entry.{Entry}
use Rattle.rv_model.specs.Setups.{Setup, coded_setup}
use Rattle.rv_model.specs.Works.{Work}
use Rattle.rv_check.specs.Checker.{CheckerValue, IsBegun}
use Rattle.rv_check.specs.Verdicts.{Journal, BeginsUpTo, IsStuck}

-- what it judges, so far, and whether it has stopped
pub record ReaderValue : Type 0 where
  pub journal : Journal
  pub stopped : Bool

-- its parts, from the code of a work
abbrev pub coded_reader : Coded Work → Coded ReaderValue
coded_reader work =
    code_by (Setup × (ℕ × (List Work × (List ℕ × Bool)))) (coded× coded_setup (coded× coded_ℕ (coded× (coded_list work) (coded× (coded_list coded_ℕ) coded_bool))))
    (λ r. (r.journal.setup, (r.journal.panics, (r.journal.works, (r.journal.text, r.stopped)))))
    (λ p. record { journal = record { setup = p.0; panics = p.1.0; works = p.1.1.0; text = p.1.1.1.0 }; stopped = p.1.1.1.1 }) (λ _. refl)

-- the pieces, one behind the other
abbrev pub pieces_joined : List (List ℕ) → List ℕ
pieces_joined pieces = flat_map (λ piece. piece) pieces

-- what a checker was made with, and a text
abbrev pub journal_by : CheckerValue → List ℕ → Journal
journal_by c text = record { setup = c.setup; panics = c.panics; works = c.works; text = text }

-- the same, and more text
abbrev pub with_more_text : Journal → List ℕ → Journal
with_more_text j more = record j { text = j.text ++ more }

-- a reader whose text has grown
abbrev pub grown : ReaderValue → List ℕ → Bool → ReaderValue
grown r more stopped = record { journal = with_more_text r.journal more; stopped = stopped }

-- the text has grown by a front of the piece
abbrev pub IsFed : ReaderValue → ReaderValue → List ℕ → Type 0
IsFed r new piece = (front : List ℕ) × (rest : List ℕ) × (piece ≡ front ++ rest) × (new ≡ grown r front new.stopped)

-- no byte is a line end
abbrev pub has_no_end : List ℕ → Bool
has_no_end [] = true
has_no_end (byte ∷ bytes) = not (byte == 10) && has_no_end bytes

-- each line with its line end
abbrev pub with_line_ends : List (List ℕ) → List ℕ
with_line_ends lines = flat_map (λ line. line ++ 10 ∷ []) lines

-- the line of this number is stuck, whatever stands behind the text
pub record IsStopped (j : Journal) (line : ℕ) : Type 0 where
  pub front : List Entry
  pub back : List ℕ
  pub up_to : BeginsUpTo j line front back
  pub some : back ≢ []
  pub stuck : (more : List ℕ) → IsStuck j front (back ++ more)

-- the text is the checker's lines, which have begun, and a line of this number that is not ended
pub record IsOpen (c : CheckerValue) (tail : List ℕ) (line : ℕ) (text : List ℕ) : Type 0 where
  pub begun : IsBegun c
  pub text_is : text ≡ with_line_ends c.lines ++ tail
  pub count : line ≡ suc (length c.lines)
  pub unended : has_no_end tail ≡ true
  pub short : length tail ≤ 200

-- the one or the other
abbrev pub IsReader : CheckerValue → List ℕ → ℕ → Bool → List ℕ → Type 0
IsReader c tail line stopped text = MatchBool stopped (IsStopped (journal_by c text) line) (IsOpen c tail line text)
