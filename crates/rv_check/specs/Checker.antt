-- The checker as contracts see it, and what it keeps.
use Rattle.std.specs.Prelude.{◌≡◌, ℕ, Bool, List, [], map, All, MatchBool}
use Rattle.std.specs.Coded.{Coded, code_by, coded×, coded_ℕ, coded_list}
use Rattle.std.proofs.Common.{refl}
use Rattle.rv_model.specs.declared.entry.Entry.{Entry}
use Rattle.rv_model.specs.declared.formula.Spec.{Spec}
use Rattle.rv_model.specs.Histories.{input_with, IsLegal}
use Rattle.rv_model.specs.Numbers.{has_bit}
use Rattle.rv_model.specs.Setups.{Setup, coded_setup}
use Rattle.rv_model.specs.Works.{Work}
use Rattle.rv_core.specs.Setup.{judges_of}
use Rattle.rv_journal.specs.EntryTexts.{entry_text, IsEntry}
use Rattle.rv_check.specs.Beginnings.{IsBeginning}
use Rattle.rv_check.specs.Run.{RunValue, BeginsRun}

-- the lines are the texts of these entries, in order
pub record IsJournalOf (lines : List (List ℕ)) (h : List Entry) : Type 0 where
  pub entries : All IsEntry h
  pub texts : map entry_text h ≡ lines

-- what it was made with, and the lines so far
pub record CheckerValue : Type 0 where
  pub setup : Setup
  pub panics : ℕ
  pub works : List Work
  pub lines : List (List ℕ)

-- its parts, from the code of a work
abbrev pub coded_checker : Coded Work → Coded CheckerValue
coded_checker work =
    code_by (Setup × (ℕ × (List Work × List (List ℕ)))) (coded× coded_setup (coded× coded_ℕ (coded× (coded_list work) (coded_list (coded_list coded_ℕ)))))
    (λ c. (c.setup, (c.panics, (c.works, c.lines)))) (λ p. record { setup = p.0; panics = p.1.0; works = p.1.1.0; lines = p.1.1.1 }) (λ _. refl)

-- the lines are the journal of a beginning, by the setup's tables as judges
abbrev pub IsBegun : CheckerValue → Type 0
IsBegun c = (h : List Entry) × IsJournalOf c.lines h × IsBeginning c.setup (judges_of c.setup) (has_bit c.panics) c.works h

-- the lines are the journal of a legal history, by the setup's tables as judges
abbrev pub IsWhole : CheckerValue → List Spec → Type 0
IsWhole c specs = (h : List Entry) × IsJournalOf c.lines h × IsLegal (input_with c.setup specs (has_bit c.panics) c.works []) (judges_of c.setup) h

-- ---- what it keeps

-- the lines are the journal of the run's history, which has begun, and of no other
pub record IsGoodJournal (r : RunValue) (lines : List (List ℕ)) : Type 0 where
  pub journal : IsJournalOf lines r.history
  pub only : (h : List Entry) → IsJournalOf lines h → h ≡ r.history
  pub begins : BeginsRun r r.history

-- the lines are the journal of no beginning
abbrev pub IsBad : RunValue → List (List ℕ) → Type 0
IsBad r lines = (h : List Entry) → IsJournalOf lines h → BeginsRun r h → ⊥

-- the one or the other
abbrev pub IsChecker : RunValue → Bool → List (List ℕ) → Type 0
IsChecker r good lines = MatchBool good (IsGoodJournal r lines) (IsBad r lines)
