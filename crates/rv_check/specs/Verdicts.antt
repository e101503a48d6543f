-- What the text of a journal comes to.
use Rattle.std.specs.Prelude.{◌≡◌, ◌≢◌, ◌⊎◌, ℕ, suc, List, [], ◌∷◌, ◌++◌, length, All}
use Rattle.rv_model.specs.declared.entry.Entry.{Entry}
use Rattle.rv_model.specs.declared.formula.Spec.{Spec}
use Rattle.rv_model.specs.Histories.{input_with, IsLegal}
use Rattle.rv_model.specs.Numbers.{has_bit}
use Rattle.rv_model.specs.Setups.{Setup}
use Rattle.rv_model.specs.Works.{Work}
use Rattle.rv_core.specs.Setup.{judges_of}
use Rattle.rv_journal.specs.EntryTexts.{entry_text, journal_of, IsEntry}
use Rattle.rv_check.specs.declared.reading.Verdict.{Verdict}
use Rattle.rv_check.specs.declared.reading.Verdict.TheVariants.{Yes, No}
use Rattle.rv_check.specs.Beginnings.{IsBeginning}

-- what is judged: the text, and what its history is a history of
pub record Journal : Type 0 where
  pub setup : Setup
  pub panics : ℕ
  pub works : List Work
  pub text : List ℕ

-- the history has begun, by the setup's tables as judges
abbrev pub Begins : Journal → List Entry → Type 0
Begins j h = IsBeginning j.setup (judges_of j.setup) (has_bit j.panics) j.works h

-- the history is legal, by the setup's tables as judges
abbrev pub Legal : Journal → List Spec → List Entry → Type 0
Legal j specs h = IsLegal (input_with j.setup specs (has_bit j.panics) j.works []) (judges_of j.setup) h

-- the text is the journal of a legal history
pub record IsYes (j : Journal) (specs : List Spec) : Type 0 where
  pub history : List Entry
  pub entries : All IsEntry history
  pub text : j.text ≡ journal_of history
  pub legal : Legal j specs history

-- no entry whose line these bytes begin with goes on with the history
abbrev pub IsStuck : Journal → List Entry → List ℕ → Type 0
IsStuck j front back = (e : Entry) (rest : List ℕ) → IsEntry e → back ≡ entry_text e ++ 10 ∷ rest → Begins j (front ++ e ∷ []) → ⊥

-- up to this line it is the journal of a history that has begun, and these bytes stand behind that
pub record BeginsUpTo (j : Journal) (line : ℕ) (front : List Entry) (back : List ℕ) : Type 0 where
  pub entries : All IsEntry front
  pub text : j.text ≡ journal_of front ++ back
  pub begins : Begins j front
  pub count : line ≡ suc (length front)

-- it begins with the lines before this one; here it is stuck, or it is over and not legal
pub record IsNo (j : Journal) (specs : List Spec) (line : ℕ) : Type 0 where
  pub front : List Entry
  pub back : List ℕ
  pub up_to : BeginsUpTo j line front back
  pub why : ((back ≡ []) × (Legal j specs front → ⊥)) ⊎ ((back ≢ []) × IsStuck j front back)

-- the verdict holds of the text
abbrev pub VerdictHolds : Journal → List Spec → Verdict → Type 0
VerdictHolds j specs Yes = IsYes j specs
VerdictHolds j specs (No line) = IsNo j specs line

-- no text has two verdicts
abbrev pub OneVerdict : Type 0
OneVerdict = (j : Journal) (specs : List Spec) (v w : Verdict) → VerdictHolds j specs v → VerdictHolds j specs w → v ≡ w
