-- The table of a list of nodes: row 0, and a row for each node.
use Rattle.std.specs.Prelude.{◌≡◌, ◌↔◌, ℕ, zero, suc, ◌-◌, ◌^◌, ◌≤◌, true, IsTrue, cond, List, [], ◌∷◌, ◌++◌, length, map, slice_index_or, bit_or, Result, Ok}
use Rattle.rv_text.specs.declared.refusals.Refusal.{Refusal}
use Rattle.rv_text.specs.Readings.{and_then}
use Rattle.rv_model.specs.declared.hit.Letter.{Letter}
use Rattle.rv_model.specs.Judging.{ReachesSome}
use Rattle.rv_model.specs.Letters.{atoms_in}
use Rattle.rv_model.specs.Ltl.{Ltl}
use Rattle.rv_model.specs.Numbers.{has_bit}
use Rattle.rv_model.specs.Table.{Table, of_labels, Node}
use Rattle.rv_model.specs.Truth.{Weak}
use Rattle.rv_nnf.specs.Parts.{PartValue, Label, part_value_at, part_meaning}
use Rattle.rv_tableau.specs.declared.pairs.Pair.{Pair}
use Rattle.rv_tableau.specs.Pairs.{empty_pair, is_one_of}
use Rattle.rv_tableau.specs.Cover.{cover_of}
use Rattle.rv_tableau.specs.Nodes.{whole_set, nodes_of}

-- the formula of a part that is a label
abbrev pub piece_labels : PartValue → List Ltl
piece_labels (Label f) = f ∷ []
piece_labels p = []

-- the labels among the parts of a set, in the order of the parts below n
abbrev pub labels_below : List PartValue → ℕ → ℕ → List Ltl
labels_below ps set zero = []
labels_below ps set (suc n) = labels_below ps set n ++ cond (has_bit set n) (piece_labels (part_value_at ps n)) []

-- the set of the nodes, numbered from n, that are in the cover
abbrev pub rows_in : List Pair → ℕ → List Pair → ℕ
rows_in cover n [] = 0
rows_in cover n (p ∷ nodes) = cond (is_one_of p cover) (bit_or (2 ^ n) (rows_in cover (suc n) nodes)) (rows_in cover (suc n) nodes)

-- the rows that come next where these parts are to hold on the rest
abbrev pub next_rows : List PartValue → List Pair → ℕ → ℕ
next_rows ps nodes set = rows_in (cover_of ps set) 1 nodes

-- the row of a node
abbrev pub node_row : List PartValue → List Pair → Pair → Node
node_row ps nodes p = record { labels = labels_below ps p.labels (length ps); next = next_rows ps nodes p.next }

-- row 0 has no labels, and row k is node k, counted from 1
abbrev pub table_rows : List PartValue → List Pair → List Node
table_rows ps nodes = record { labels = []; next = next_rows ps nodes (whole_set ps) } ∷ map (node_row ps nodes) nodes

-- the tableau's table, or the refusal
abbrev pub tableau_of : List PartValue → Result Table Refusal
tableau_of ps = and_then (nodes_of ps) (λ nodes. Ok (of_labels (table_rows ps nodes)))

-- what must hold on the rest where a row has been entered
abbrev pub set_at : List PartValue → List Pair → ℕ → ℕ
set_at ps nodes zero = whole_set ps
set_at ps nodes (suc k) = (slice_index_or nodes k empty_pair).next

-- the nodes have every pair of the cover of the whole formula's set, and of that of each node's next set, in whatever order
pub record IsComplete (ps : List PartValue) (nodes : List Pair) : Type 0 where
  pub closed : (r : ℕ) → r ≤ length nodes → (p : Pair) → is_one_of p (cover_of ps (set_at ps nodes r)) ≡ true → is_one_of p nodes ≡ true

-- the table reaches some row by letters exactly where the last part, which is the whole formula's, holds weakly on them
abbrev pub MeansParts : Table → List PartValue → Type 0
MeansParts table ps = (letters : List Letter) → ReachesSome table letters ↔ IsTrue (part_meaning ps (length ps - 1) Weak (map atoms_in letters))
