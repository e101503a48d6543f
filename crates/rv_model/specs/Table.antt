-- Tables of both kinds, and the rows that letters reach in them.
use Rattle.std.specs.Prelude.{◌≡◌, ◌⊎◌, ℕ, ◌+◌, ◌&&◌, Bool, true, false, ◌==◌, List, [], ◌∷◌, length, find, Option, Some, None, option_map, option_and_then, slice_get, slice_index_or, nat_lt}
use Rattle.std.specs.List.{list_all}
use Rattle.std.specs.Coded.{Coded, code_by, coded×, coded⊎, coded_ℕ, coded_list, coded_option}
use Rattle.std.proofs.Common.{refl, inl, inr}
use Rattle.rv_model.specs.Numbers.{list_of, has_bit}
use Rattle.rv_model.specs.declared.hit.Letter.{Letter}
use Rattle.rv_model.specs.declared.hit.Letter.TheVariants.{Event, Atoms}
use Rattle.rv_model.specs.Letters.{atoms_in}
use Rattle.rv_model.specs.Ltl.{Ltl}
use Rattle.rv_model.specs.LtlCode.{coded_ltl}
use Rattle.rv_model.specs.Meaning.{true_on}
use Rattle.rv_model.specs.Machine.{Machine}
use Rattle.rv_model.specs.Language.{IsPath}

-- a row of a formula's table: the labels that a letter must make true to enter it, and the set of its next rows
pub record Node : Type 0 where
  pub labels : List Ltl
  pub next : ℕ

-- of an automaton: the number of events, and for each row, from row 0 on, the next row by each event; row 0 has none.
-- Of a formula: its rows from row 0 on
pub data Table : Type 0 where
  of_events : ℕ → List (List (Option ℕ)) → Table
  of_labels : List Node → Table

-- the row of the state to which an event leads, if it leads to one
abbrev pub next_row : Machine → ℕ → ℕ → Option ℕ
next_row a state event = option_map (λ edge. edge.to + 1) (find (λ edge. edge.from == state && edge.event == event) a.edges)

-- the rows of an automaton's table: row 0 has no entry, and state k is row k + 1
abbrev pub event_rows : Machine → List (List (Option ℕ))
event_rows a = [] ∷ list_of (λ state. list_of (next_row a state) (length a.events)) (length a.states)

-- the table of an automaton
abbrev pub table_of : Machine → Table
table_of a = of_events (length a.events) (event_rows a)

-- the start row
abbrev pub first_row : Table → ℕ
first_row (of_events n rows) = 1
first_row (of_labels nodes) = 0

-- a row's next row by the event, where there is one
abbrev pub next_by_event : List (Option ℕ) → ℕ → Option ℕ
next_by_event row event = option_and_then (λ next. next) (slice_get row event)

-- the entry of a row by a letter
abbrev pub entry_by : List (List (Option ℕ)) → ℕ → Letter → Option ℕ
entry_by rows row (Event e) = next_by_event (slice_index_or rows row []) e
entry_by rows row (Atoms set) = None

-- the entry is this row
abbrev pub is_next : Option ℕ → ℕ → Bool
is_next None row = false
is_next (Some next) row = next == row

-- the node of a row
abbrev pub node_at : List Node → ℕ → Node
node_at nodes row = slice_index_or nodes row (record { labels = []; next = 0 })

-- it is a row, one of the next rows, and these atoms make all its labels true
abbrev pub follows_by : List Node → ℕ → ℕ → ℕ → Bool
follows_by nodes row set next = nat_lt next (length nodes) && (has_bit (node_at nodes row).next next && list_all (true_on set) (node_at nodes next).labels)

-- one row follows another by the letter
abbrev pub follows : Table → ℕ → Letter → ℕ → Bool
follows (of_events n rows) row x next = is_next (entry_by rows row x) next
follows (of_labels nodes) row x next = follows_by nodes row (atoms_in x) next

-- the one row follows the other by the letter
abbrev pub Follows : Table → ℕ → Letter → ℕ → Type 0
Follows t row x next = follows t row x next ≡ true

-- the last row of a path
abbrev pub end_of : ℕ → List ℕ → ℕ
end_of from [] = from
end_of from (to ∷ path) = end_of to path

-- some path of rows leads from the start row to this one by the letters
abbrev pub Reaches : Table → List Letter → ℕ → Type 0
Reaches t letters row = (path : List ℕ) × IsPath (Follows t) (first_row t) path letters × (end_of (first_row t) path ≡ row)

-- ---- what a model of a struct stores

-- a node by the code of its parts
abbrev pub coded_node : Coded Node
coded_node = code_by (List Ltl × ℕ) (coded× (coded_list coded_ltl) coded_ℕ) (λ n. (n.labels, n.next)) (λ p. record { labels = p.0; next = p.1 }) (λ _. refl)

-- a table as a choice of its parts
abbrev parts : Table → (ℕ × List (List (Option ℕ))) ⊎ List Node
parts (of_events n rows) = inl (n, rows)
parts (of_labels nodes) = inr nodes

-- the table of these parts
abbrev table_of_parts : (ℕ × List (List (Option ℕ))) ⊎ List Node → Table
table_of_parts (inl p) = of_events p.0 p.1
table_of_parts (inr nodes) = of_labels nodes

-- the parts of a table make it again
pub whole-parts : (t : Table) → table_of_parts (parts t) ≡ t
whole-parts (of_events n rows) = refl
whole-parts (of_labels nodes) = refl

-- a table by the code of its parts
abbrev pub coded_table : Coded Table
coded_table = code_by ((ℕ × List (List (Option ℕ))) ⊎ List Node) (coded⊎ (coded× coded_ℕ (coded_list (coded_list (coded_option coded_ℕ)))) (coded_list coded_node)) parts table_of_parts whole-parts
