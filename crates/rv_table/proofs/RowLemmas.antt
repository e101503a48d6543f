-- The rows that a table keeps make it a table.
use Rattle.std.proofs.Common.{◌≡◌, ℕ, zero, suc, ◌<◌, ◌≤◌, true, false, ◌⊎◌, inl, inr, List, [], length, get_or, nat_lt, Option, Some, None, arith, sym, ap, ◌∙◌, subst}
use Rattle.std.specs.Prelude.{option_and_then, slice_get}
use Rattle.std.specs.List.{All}
use Rattle.std.proofs.lemmas.Bool.{false≢true, and_parts}
use Rattle.std.proofs.lemmas.List.{get_or_past}
use Rattle.std.proofs.lemmas.List.Elements.{All-get_or}
use Rattle.std.proofs.lemmas.Option.{slice_get-get_or, slice_get_past}
use Rattle.rv_model.specs.declared.hit.Letter.{Letter}
use Rattle.rv_model.specs.declared.hit.Letter.TheVariants.{Event, Atoms}
use Rattle.rv_model.specs.Numbers.{has_bit}
use Rattle.rv_model.specs.Table.{Table, of_events, of_labels, Node, entry_by, follows, follows_by, node_at}
use Rattle.rv_model.specs.Stepping.{IsTable}
use Rattle.rv_model.proofs.MeansLemmas.{is_next-true}
use Rattle.rv_table.specs.Rows.{IsEntryBelow, IsEventRows, IsNodeBelow, IsLabelRows, IsRows}

-- a place is in a list or past it
within : (i n : ℕ) → (i < n) ⊎ (n ≤ i)
within i n = grind arith

-- no entry is no row
no_entry : (next : ℕ) → None ≡ Some next → ⊥
no_entry next e = cc

-- an entry of a row that is kept is in range
entry-row : (n : ℕ) (row : List (Option ℕ)) (event next : ℕ) → All (IsEntryBelow n) row → option_and_then (λ next. next) (slice_get row event) ≡ Some next → (1 ≤ next) × (next < n)
entry-row n row event next all e = go (within event (length row))
  where
    go : (event < length row) ⊎ (length row ≤ event) → (1 ≤ next) × (next < n)
    go (inl lt) =
        let is : get_or row event None ≡ Some next = ap (option_and_then (λ next. next)) (sym (slice_get-get_or row event None lt)) ∙ e in
        subst (IsEntryBelow n) is (All-get_or (IsEntryBelow n) row event None lt all)
    go (inr past) = absurd (no_entry next (ap (option_and_then (λ next. next)) (sym (slice_get_past row event past)) ∙ e))

-- an entry of an automaton's rows is in range
pub entry-rows : (rows : List (List (Option ℕ))) → IsEventRows rows → (row event next : ℕ) → entry_by rows row (Event event) ≡ Some next → (1 ≤ next) × (next < length rows)
entry-rows rows it row event next e = go (within row (length rows))
  where
    go : (row < length rows) ⊎ (length rows ≤ row) → (1 ≤ next) × (next < length rows)
    go (inl lt) = entry-row (length rows) (get_or rows row []) event next (All-get_or (All (IsEntryBelow (length rows))) rows row [] lt it.in_range) e
    go (inr past) =
        let none : get_or rows row [] ≡ [] = get_or_past rows row [] past in
        absurd (no_entry next (sym (ap (λ r. option_and_then (λ next. next) (slice_get r event)) none) ∙ e))

-- the rows of an automaton make a table
events-table : (n : ℕ) (rows : List (List (Option ℕ))) → IsEventRows rows → IsTable (of_events n rows)
events-table n rows it = record { in_range = range; first = omega arith }
  where
    range : (row : ℕ) (x : Letter) (next : ℕ) → follows (of_events n rows) row x next ≡ true → (1 ≤ next) × (next < 32)
    range row (Event event) next f =
        let r = entry-rows rows it row event next (is_next-true (entry_by rows row (Event event)) next f) in
        let few = it.few in (r.0, omega arith)
    range row (Atoms set) next f = absurd (no_entry next (is_next-true None next f))

-- row 0 is in no set of next rows
no_zero : (nodes : List Node) → IsLabelRows nodes → (row : ℕ) → has_bit (node_at nodes row).next 0 ≡ false
no_zero nodes it row = go (within row (length nodes))
  where
    nothing : Node
    nothing = record { labels = []; next = 0 }

    go : (row < length nodes) ⊎ (length nodes ≤ row) → has_bit (node_at nodes row).next 0 ≡ false
    go (inl lt) = (All-get_or (IsNodeBelow (length nodes)) nodes row nothing lt it.in_range).1.1
    go (inr past) = ap (λ (node : Node). has_bit node.next 0) (get_or_past nodes row nothing past)

-- the rows of a formula make a table
labels-table : (nodes : List Node) → IsLabelRows nodes → IsTable (of_labels nodes)
labels-table nodes it = record { in_range = λ row x next f. range row _ next f; first = omega arith }
  where
    range : (row set next : ℕ) → follows_by nodes row set next ≡ true → (1 ≤ next) × (next < 32)
    range row set next f =
        let both = and_parts (nat_lt next (length nodes)) _ f in
        let below : next < length nodes = let b = both.0 in grind arith in
        let has : has_bit (node_at nodes row).next next ≡ true = (and_parts _ _ both.1).0 in
        let few = it.few in
        (go next has, omega arith)
      where
        go : (next : ℕ) → has_bit (node_at nodes row).next next ≡ true → 1 ≤ next
        go zero has = absurd (false≢true (sym (no_zero nodes it row) ∙ has))
        go (suc next) has = omega arith

-- so do the rows of every table
pub rows-table : (t : Table) → IsRows t → IsTable t
rows-table (of_events n rows) it = events-table n rows it
rows-table (of_labels nodes) it = labels-table nodes it
