-- Stepping through a table by sets of rows, as a number with a bit for each row, and the judge that steps so.
use Rattle.std.specs.Prelude.{◌≡◌, ℕ, zero, suc, ◌<◌, ◌≤◌, ◌==◌, ◌&&◌, ◌||◌, not, Bool, false, true, List, [], ◌∷◌, if◌then◌else◌}
use Rattle.rv_model.specs.declared.hit.Letter.{Letter}
use Rattle.rv_model.specs.declared.formula.Spec.{Spec}
use Rattle.rv_model.specs.Numbers.{has_bit, number_of}
use Rattle.rv_model.specs.Table.{Table, follows, first_row}
use Rattle.rv_model.specs.Judging.{Judge, JudgesBySpec, JudgesByTable}

-- every next row is one from 1 to 31
pub record IsTable (t : Table) : Type 0 where
  pub in_range : (row : ℕ) (x : Letter) (next : ℕ) → follows t row x next ≡ true → (1 ≤ next) × (next < 32)
  pub first : first_row t ≤ 1

-- whether some row of the set below n is followed by the row
unfoldable pub some_follows : Table → ℕ → Letter → ℕ → ℕ → Bool
some_follows t set x zero next = false
some_follows t set x (suc row) next = some_follows t set x row next || (has_bit set row && follows t row x next)

-- the rows that follow a row of the set
abbrev pub step_set : Table → ℕ → Letter → ℕ
step_set t set x = number_of (some_follows t set x 32) 32

-- the start row alone
abbrev pub start_set : Table → ℕ
start_set t = if first_row t == 1 then 2 else 1

-- the rows after letters, from a set of rows
abbrev pub rows_after : Table → ℕ → List Letter → ℕ
rows_after t set [] = set
rows_after t set (x ∷ letters) = rows_after t (step_set t set x) letters

-- steps from the start row alone
abbrev pub table_judge : Table → Judge
table_judge t = record { holds = λ letters. not (rows_after t (start_set t) letters == 0); reaches = λ letters row. has_bit (rows_after t (start_set t) letters) row }

-- a law: every table has a judge by its paths
abbrev pub EveryTableIsJudged : Type 0
EveryTableIsJudged = (t : Table) → IsTable t → JudgesByTable t (table_judge t)

-- a law: a table has one judge at most by a specification, and one by its own paths
pub record JudgesAreOne : Type 0 where
  pub by_spec : (spec : Spec) (t : Table) (j k : Judge) → JudgesBySpec spec t j → JudgesBySpec spec t k → j ≡ k
  pub by_table : (t : Table) (j k : Judge) → JudgesByTable t j → JudgesByTable t k → j ≡ k
