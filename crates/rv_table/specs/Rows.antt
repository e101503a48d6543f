-- The rows of tables, and what a table keeps of them.
use Rattle.std.specs.Prelude.{◌≡◌, ℕ, ◌+◌, ◌<◌, ◌≤◌, ◌^◌, false, List, [], ◌∷◌, All, length, Option, Some, None}
use Rattle.rv_model.specs.Labels.{IsLabel}
use Rattle.rv_model.specs.Numbers.{has_bit}
use Rattle.rv_model.specs.Table.{Table, of_events, of_labels, Node, node_at}

-- ---- an automaton's

-- a next row is one from 1 on, below n
abbrev pub IsEntryBelow : ℕ → Option ℕ → Type 0
IsEntryBelow n None = Unit {0}
IsEntryBelow n (Some next) = (1 ≤ next) × (next < n)

-- row 0 and at most 31 others, whose entries name rows from 1 on
pub record IsEventRows (rows : List (List (Option ℕ))) : Type 0 where
  pub some : 1 ≤ length rows
  pub few : length rows ≤ 32
  pub in_range : All (All (IsEntryBelow (length rows))) rows

-- ---- a formula's

-- a set of rows from 1 on, below n
abbrev pub IsRowSet : ℕ → ℕ → Type 0
IsRowSet n set = (set < 2 ^ n) × (has_bit set 0 ≡ false)

-- the row's labels are labels, and its next rows are rows below n
abbrev pub IsNodeBelow : ℕ → Node → Type 0
IsNodeBelow n node = All IsLabel node.labels × IsRowSet n node.next

-- row 0 and at most 31 others, whose sets name rows from 1 on
pub record IsLabelRows (nodes : List Node) : Type 0 where
  pub some : 1 ≤ length nodes
  pub few : length nodes ≤ 32
  pub in_range : All (IsNodeBelow (length nodes)) nodes

-- the rows of a formula's table: row 0 has no labels, and the nodes are the rows from 1 on
abbrev pub node_rows : ℕ → List Node → List Node
node_rows first nodes = record { labels = []; next = first } ∷ nodes

-- at most 31 nodes, whose sets name them from 1 on and whose labels have no temporal operator and atoms below 32
pub record FitNodes (first : ℕ) (nodes : List Node) : Type 0 where
  pub few : length nodes ≤ 31
  pub from_first : IsRowSet (length nodes + 1) first
  pub in_range : All (IsNodeBelow (length nodes + 1)) nodes

-- ---- either

-- what every table keeps
abbrev pub IsRows : Table → Type 0
IsRows (of_events n rows) = IsEventRows rows
IsRows (of_labels nodes) = IsLabelRows nodes

-- how many rows there are, with row 0
abbrev pub row_count : Table → ℕ
row_count (of_events n rows) = length rows
row_count (of_labels nodes) = length nodes

-- it is a formula's, and has the row
abbrev pub HasNode : Table → ℕ → Type 0
HasNode (of_events n rows) row = ⊥
HasNode (of_labels nodes) row = row < length nodes

-- a row of a formula's table
abbrev pub node_in : Table → ℕ → Node
node_in (of_events n rows) row = record { labels = []; next = 0 }
node_in (of_labels nodes) row = node_at nodes row
