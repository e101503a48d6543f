-- The rows of a normal form's nodes are rows that a table may have.
use Rattle.std.proofs.Common.{◌≡◌, ℕ, zero, suc, ◌+◌, ◌^◌, ◌<◌, ◌≤◌, Bool, true, false, cond, List, [], ◌∷◌, All, map, length, refl, subst, arith, bit_or}
use Rattle.std.specs.Prelude.{slice_index_or}
use Rattle.std.proofs.Math.Pow.{pow-lt}
use Rattle.std.proofs.lemmas.Nat.{or_lt, pow_pos}
use Rattle.std.proofs.lemmas.List.{length-map}
use Rattle.std.proofs.lemmas.List.Elements.{All-append, All-nil, All-cons}
use Rattle.rv_model.specs.Numbers.{has_bit}
use Rattle.rv_nnf.specs.Parts.{PartValue, Label, Next, And, Or, Until, Release, part_value_at, HasLabel, IsNormal}
use Rattle.rv_model.specs.Labels.{IsLabel}
use Rattle.rv_table.specs.Rows.{IsRowSet, IsNodeBelow, FitNodes}
use Rattle.rv_tableau.specs.declared.pairs.Pair.{Pair}
use Rattle.rv_tableau.specs.Cover.{cover_of}
use Rattle.rv_tableau.specs.Pairs.{empty_pair, is_one_of}
use Rattle.rv_tableau.specs.Nodes.{whole_set}
use Rattle.rv_tableau.specs.Rows.{piece_labels, labels_below, rows_in, next_rows, node_row}
use Rattle.rv_tableau.proofs.RowSets.{rows_only}

-- the label of a part is one
piece_fits : (p : PartValue) → HasLabel p → All IsLabel (piece_labels p)
piece_fits (Label f) h = All-cons IsLabel f [] h (All-nil IsLabel)
piece_fits (Next i) h = All-nil IsLabel
piece_fits (And i j) h = All-nil IsLabel
piece_fits (Or i j) h = All-nil IsLabel
piece_fits (Until i j) h = All-nil IsLabel
piece_fits (Release i j) h = All-nil IsLabel

-- so are the labels of a set
labels_fit : (ps : List PartValue) → ((k : ℕ) → HasLabel (part_value_at ps k)) → (set n : ℕ) → All IsLabel (labels_below ps set n)
labels_fit ps h set zero = All-nil IsLabel
labels_fit ps h set (suc n) = All-append IsLabel (labels_below ps set n) (cond (has_bit set n) (piece_labels (part_value_at ps n)) []) (labels_fit ps h set n) (go (has_bit set n))
  where
    go : (b : Bool) → All IsLabel (cond b (piece_labels (part_value_at ps n)) [])
    go true = piece_fits (part_value_at ps n) (h n)
    go false = All-nil IsLabel

-- a set of rows of nodes that are numbered from n
rows_below : (cover : List Pair) (n : ℕ) (nodes : List Pair) → rows_in cover n nodes < 2 ^ (n + length nodes)
rows_below cover n [] = pow_pos (n + 0)
rows_below cover n (p ∷ nodes) = go (is_one_of p cover) (let e : suc n + length nodes ≡ n + suc (length nodes) = omega arith in subst (λ m. rows_in cover (suc n) nodes < 2 ^ m) e (rows_below cover (suc n) nodes))
  where
    go : (b : Bool) → rows_in cover (suc n) nodes < 2 ^ (n + suc (length nodes)) → cond b (bit_or (2 ^ n) (rows_in cover (suc n) nodes)) (rows_in cover (suc n) nodes) < 2 ^ (n + suc (length nodes))
    go true h = or_lt (n + suc (length nodes)) (2 ^ n) (rows_in cover (suc n) nodes) (pow-lt {i = n} {j = n + suc (length nodes)} (omega arith)) h
    go false h = h

-- row 0 comes next to no row
not_first : (cover nodes : List Pair) → has_bit (rows_in cover 1 nodes) 0 ≡ false
not_first cover nodes = go (has_bit (rows_in cover 1 nodes) 0) (rows_only cover 1 nodes 0)
  where
    go : (b : Bool) → (b ≡ true → (k : ℕ) × (0 ≡ 1 + k) × (k < length nodes) × (is_one_of (slice_index_or nodes k empty_pair) cover ≡ true)) → b ≡ false
    go true h = let r = h refl in absurd (omega (arith, r.1))
    go false h = refl

-- the next rows are rows of nodes
next_fit : (ps : List PartValue) (nodes : List Pair) (set n : ℕ) → n ≡ length nodes → IsRowSet (n + 1) (next_rows ps nodes set)
next_fit ps nodes set n e =
    (let r = rows_below (cover_of ps set) 1 nodes in let m : 1 + length nodes ≡ n + 1 = omega arith in subst (λ k. next_rows ps nodes set < 2 ^ k) m r, not_first (cover_of ps set) nodes)

-- a node's row has labels, and rows of nodes come next
node_fits : (ps : List PartValue) → IsNormal ps → (nodes : List Pair) (n : ℕ) → n ≡ length nodes → (p : Pair) → IsNodeBelow (n + 1) (node_row ps nodes p)
node_fits ps normal nodes n e p = (labels_fit ps normal.labels p.labels (length ps), next_fit ps nodes p.next n e)

-- all rows are such
all_fit : (ps : List PartValue) → IsNormal ps → (nodes : List Pair) (n : ℕ) → n ≡ length nodes → (xs : List Pair) → All (IsNodeBelow (n + 1)) (map (node_row ps nodes) xs)
all_fit ps normal nodes n e [] = All-nil (IsNodeBelow (n + 1))
all_fit ps normal nodes n e (x ∷ xs) = All-cons (IsNodeBelow (n + 1)) (node_row ps nodes x) (map (node_row ps nodes) xs) (node_fits ps normal nodes n e x) (all_fit ps normal nodes n e xs)

-- the rows of at most 31 nodes fit a table
pub rows_fit : (ps : List PartValue) → IsNormal ps → (nodes : List Pair) → length nodes ≤ 31 → FitNodes (next_rows ps nodes (whole_set ps)) (map (node_row ps nodes) nodes)
rows_fit ps normal nodes h =
    let l = length-map nodes (node_row ps nodes) in
    record {
      few = omega (arith, l, h);
      from_first = next_fit ps nodes (whole_set ps) (length (map (node_row ps nodes) nodes)) l;
      in_range = all_fit ps normal nodes (length (map (node_row ps nodes) nodes)) l nodes;
    }
