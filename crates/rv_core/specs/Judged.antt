-- Where tables mean specifications, judging by the tables is judging by the specifications.
use Rattle.std.specs.Prelude.{◌≡◌, ◌≢◌, ◌↔◌, List, [], ◌∷◌, IsTrue}
use Rattle.rv_model.specs.declared.entry.Entry.{Entry}
use Rattle.rv_model.specs.declared.formula.Spec.{Spec}
use Rattle.rv_model.specs.declared.hit.Letter.{Letter}
use Rattle.rv_model.specs.Table.{Table}
use Rattle.rv_model.specs.Judging.{Judge, JudgesBySpec, Means}
use Rattle.rv_model.specs.Histories.{AreJudges, Input, IsLegal}
use Rattle.rv_model.specs.Phases.{rows_of}
use Rattle.rv_model.specs.Setups.{Setup}
use Rattle.rv_model.specs.Stepping.{IsTable, start_set, rows_after}
use Rattle.rv_core.specs.Setup.{IsSetup, judges_of}

-- each table means its specification
abbrev pub AllMean : List Spec → List Table → Type 0
AllMean [] [] = Unit {0}
AllMean (spec ∷ specs) (t ∷ tables) = Means t spec × AllMean specs tables
AllMean _ _ = ⊥

-- the tables that judge are then judges by the specifications
abbrev pub JudgesBySpecs : Setup → Type 0
JudgesBySpecs s = (specs : List Spec) → AllMean specs s.tables → AreJudges specs s.tables (judges_of s)

-- a law: a judge by a specification that the table means is the table. The rows of its words are those that the table's
-- steps come to, letters hold where these are some, and so a history is legal by the judges of the specifications
-- exactly where it is legal by the tables
pub record TablesAreJudges : Type 0 where
  pub rows : (t : Table) (spec : Spec) (j : Judge) → IsTable t → Means t spec → JudgesBySpec spec t j → (letters : List Letter) → rows_of j letters ≡ rows_after t (start_set t) letters
  pub holds : (t : Table) (spec : Spec) (j : Judge) → IsTable t → Means t spec → JudgesBySpec spec t j → (letters : List Letter) → IsTrue (j.holds letters) ↔ rows_after t (start_set t) letters ≢ 0
  pub legal : (input : Input) (js : List Judge) (h : List Entry) → IsSetup input.setup → AllMean input.specs input.setup.tables → AreJudges input.specs input.setup.tables js → IsLegal input js h ↔ IsLegal input (judges_of input.setup) h
