-- The lists of numbers of a monitor: of its rows, edges and atoms.
use Rattle.std.specs.Prelude.{ℕ, ◌+◌, ◌-◌, List, [], length, map, slice_index_or}
use Rattle.rv_model.specs.declared.automaton.Edge.{Edge}
use Rattle.rv_model.specs.declared.formula.Spec.{Spec}
use Rattle.rv_model.specs.declared.formula.Spec.TheVariants as spec
use Rattle.rv_model.specs.declared.entry.Entry.{Entry}
use Rattle.rv_model.specs.Judging.{Judge}
use Rattle.rv_model.specs.Numbers.{list_of}
use Rattle.rv_model.specs.Setups.{Setup}
use Rattle.rv_model.specs.Table.{of_labels}
use Rattle.rv_table.specs.Rows.{row_count}
use Rattle.rv_reach.specs.Reached.{atom_true, edge_taken, row_reached}

-- ---- a specification

-- its edges, of which a rule has none
abbrev pub edges_of : Spec → List Edge
edges_of (spec.Da a) = a.edges
edges_of (spec.Ltl rule) = []

-- how many atoms it has, which is none where it is an automaton
abbrev pub atom_count : Spec → ℕ
atom_count (spec.Da a) = 0
atom_count (spec.Ltl rule) = length rule.atoms

-- ---- a monitor

-- the first n places
abbrev pub places : ℕ → List ℕ
places n = list_of (λ place. place) n

-- how many rows the monitor has from 1 on: those of an automaton's states, or of a rule's nodes
abbrev pub rows_from_one : Setup → ℕ → ℕ
rows_from_one s monitor = row_count (slice_index_or s.tables monitor (of_labels [])) - 1

-- how often each of them was reached
abbrev pub rows_reached : Setup → List Judge → List Entry → ℕ → List ℕ
rows_reached s js h monitor = map (λ k. row_reached s js h monitor (k + 1)) (places (rows_from_one s monitor))

-- how often each edge was taken
abbrev pub edges_taken : Setup → List Judge → List Entry → ℕ → Spec → List ℕ
edges_taken s js h monitor of = map (edge_taken s js h monitor) (edges_of of)

-- in how many letters each atom is true
abbrev pub atoms_true : Setup → List Judge → List Entry → ℕ → Spec → List ℕ
atoms_true s js h monitor of = map (atom_true s js h monitor) (places (atom_count of))
