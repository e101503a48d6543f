-- Which runs can be numbered: a word with a count has 32 bits for an instance's rows and levels, and nothing raises the halt (this project's choice: docs/DECISIONS.md, "Counted words").
use Rattle.std.specs.Prelude.{ℕ, ◌+◌, nat_le, Bool, true, false, ◌&&◌, not, List, [], ◌∷◌, length}
use Rattle.rv_model.specs.declared.formula.Spec.{Spec}
use Rattle.rv_model.specs.declared.formula.Spec.TheVariants as specs
use Rattle.rv_model.specs.Reactors.{is_panic}
use Rattle.rv_model.specs.Table.{Table}
use Rattle.rv_table.specs.Rows.{row_count}
use Rattle.rv_bind.specs.declared.bindings.Monitor.{Monitor}

-- how many atoms a specification has
abbrev pub atom_count : Spec → ℕ
atom_count (specs.Da automaton) = 0
atom_count (specs.Ltl rule) = length rule.atoms

-- the rows of the monitor's table, row 0 too, and its atoms are 32 together at most, and its reactor is not panic
abbrev pub monitor_fits_counts : Monitor → Table → Bool
monitor_fits_counts m t = nat_le (row_count t + atom_count m.spec) 32 && not (is_panic m.reactor)

-- each monitor is so with its table, whether it is on or off
abbrev pub monitors_fit_counts : List Monitor → List Table → Bool
monitors_fit_counts [] [] = true
monitors_fit_counts [] (t ∷ tables) = false
monitors_fit_counts (m ∷ monitors) [] = false
monitors_fit_counts (m ∷ monitors) (t ∷ tables) = monitor_fits_counts m t && monitors_fit_counts monitors tables
