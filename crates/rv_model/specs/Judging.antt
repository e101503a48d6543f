-- What judges a list of letters: a specification, or a table.
use Rattle.std.specs.Prelude.{ℕ, ◌<◌, Bool, ◌↔◌, List, map, length, IsTrue}
use Rattle.rv_model.specs.declared.hit.Letter.{Letter}
use Rattle.rv_model.specs.declared.formula.Spec.{Spec}
use Rattle.rv_model.specs.declared.formula.Spec.TheVariants.{Da, Ltl}
use Rattle.rv_model.specs.Letters.{atoms_in}
use Rattle.rv_model.specs.Language.{Accepts}
use Rattle.rv_model.specs.Truth.{Weak, Satisfies}
use Rattle.rv_model.specs.Table.{Table, Reaches}

-- letters are good by an automaton where they are in its language, and by a rule where they satisfy its formula weakly
abbrev pub IsGood : Spec → List Letter → Type 0
IsGood (Da automaton) letters = Accepts automaton letters
IsGood (Ltl rule) letters = Satisfies Weak (map atoms_in letters) rule.formula

-- a table holds on letters where they reach some row
abbrev pub ReachesSome : Table → List Letter → Type 0
ReachesSome t letters = (row : ℕ) × Reaches t letters row

-- the table holds exactly where the specification does, for one letter or more
abbrev pub Means : Table → Spec → Type 0
Means t spec = (letters : List Letter) → 0 < length letters → ReachesSome t letters ↔ IsGood spec letters

-- whether letters hold, and which rows the table reaches by them
pub record Judge : Type 0 where
  pub holds : List Letter → Bool
  pub reaches : List Letter → ℕ → Bool

-- the judge's tests are these facts
pub record Judges (Holds : List Letter → Type 0) (t : Table) (j : Judge) : Type 0 where
  pub holds : (letters : List Letter) → IsTrue (j.holds letters) ↔ Holds letters
  pub reaches : (letters : List Letter) (row : ℕ) → IsTrue (j.reaches letters row) ↔ Reaches t letters row

-- it judges the letters by the specification, and the rows by the table
abbrev pub JudgesBySpec : Spec → Table → Judge → Type 0
JudgesBySpec spec = Judges (IsGood spec)

-- it judges the letters by the rows that they reach in the table
abbrev pub JudgesByTable : Table → Judge → Type 0
JudgesByTable t = Judges (ReachesSome t) t
