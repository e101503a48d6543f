-- A formula's rows by the bits of their sets.
use Rattle.std.proofs.Common.{◌≡◌, ℕ, zero, suc, ◌+◌, ◌-◌, ◌^◌, ◌<◌, ◌≤◌, ◌==◌, ◌&&◌, ◌||◌, nat_lt, Bool, true, false, ◌⊎◌, inl, inr, List, [], length, map, arith, refl, sym, ap, ◌∙◌, subst}
use Rattle.std.specs.List.{All, list_all}
use Rattle.std.proofs.lemmas.List.{get_or_past, get_or-map, length-map}
use Rattle.std.proofs.lemmas.Nat.Bits.{bit_at_above}
use Rattle.std.proofs.lemmas.List.Elements.{All-get_or}
use Rattle.rv_model.specs.declared.hit.Letter.{Letter}
use Rattle.rv_model.specs.declared.formula.Formula.{Formula}
use Rattle.rv_model.specs.Letters.{atoms_in}
use Rattle.rv_model.specs.Formulas.{ltl}
use Rattle.rv_model.specs.Meaning.{true_on}
use Rattle.rv_model.specs.Numbers.{has_bit}
use Rattle.rv_model.specs.Table.{of_labels, Node, node_at}
use Rattle.rv_model.specs.Stepping.{some_follows, step_set}
use Rattle.rv_model.specs.Labels.{IsLabel}
use Rattle.rv_model.proofs.SetLemmas.{has_none}
use Rattle.rv_table.specs.inner.Numbered.{some_next}
use Rattle.rv_table.specs.Rows.{IsNodeBelow, IsLabelRows}
use Rattle.rv_table.proofs.SetLemmas.{some_follows-none, some_follows-more, is_step_set}

-- what holds of each formula of a list holds of each in the list without boxes, and the other way round
pub All-ltl : (fs : List Formula) → All IsLabel (map ltl fs) → All (λ f. IsLabel (ltl f)) fs
All-ltl fs all = λ i d lt. let l : i < length (map ltl fs) = subst (λ n. i < n) (sym (length-map fs ltl)) lt in subst IsLabel (get_or-map ltl fs i d (ltl d) lt) (all i (ltl d) l)

-- no row is before row 0
pub some_next_none : (nodes : List Node) (set q : ℕ) → some_next nodes set 0 q ≡ false
some_next_none nodes set q = refl

-- one more row
pub some_next_more : (nodes : List Node) (set n q : ℕ) → some_next nodes set (suc n) q ≡ (some_next nodes set n q || (has_bit set n && has_bit (node_at nodes n).next q))
some_next_more nodes set n q = refl

-- nothing is added
or_none : (a b : Bool) → (a || (b && false)) ≡ a
or_none a b = grind arith

-- past the rows there are no next rows
next-past : (nodes : List Node) (set q more : ℕ) → some_next nodes set (more + length nodes) q ≡ some_next nodes set (length nodes) q
next-past nodes set q zero = ap (λ n. some_next nodes set n q) (none (length nodes))
  where
    none : (n : ℕ) → 0 + n ≡ n
    none n = omega arith
next-past nodes set q (suc more) =
    let nothing : has_bit (node_at nodes (more + length nodes)).next q ≡ false = ap (λ (node : Node). has_bit node.next q) (get_or_past nodes (more + length nodes) (record { labels = []; next = 0 }) (omega arith)) ∙ has_none q in
    ap (λ n. some_next nodes set n q) (one (length nodes))
    ∙ some_next_more nodes set (more + length nodes) q
    ∙ ap (λ b. some_next nodes set (more + length nodes) q || (has_bit set (more + length nodes) && b)) nothing
    ∙ or_none (some_next nodes set (more + length nodes) q) (has_bit set (more + length nodes)) ∙ next-past nodes set q more
  where
    one : (n : ℕ) → suc more + n ≡ suc (more + n)
    one n = omega arith

-- the rows below 32 are all rows
pub next-rows : (nodes : List Node) (set q : ℕ) → length nodes ≤ 32 → some_next nodes set 32 q ≡ some_next nodes set (length nodes) q
next-rows nodes set q few = go (32 - length nodes) (omega arith)
  where
    go : (more : ℕ) → more + length nodes ≡ 32 → some_next nodes set 32 q ≡ some_next nodes set (length nodes) q
    go more e = ap (λ n. some_next nodes set n q) (sym e) ∙ next-past nodes set q more

-- a row that follows by the earlier rows or by this one
both-ways : (row some all here next : Bool) → ((row && (some && all)) || (here && (row && (next && all)))) ≡ (row && ((some || (here && next)) && all))
both-ways row some all here next = grind arith

-- no row is before row 0
and_none : (row all : Bool) → false ≡ (row && (false && all))
and_none row all = grind arith

module _ (nodes : List Node) (set : ℕ) (x : Letter) (q : ℕ) where
  -- there is such a row
  abbrev is_row : Bool
  is_row = nat_lt q (length nodes)

  -- the letter makes the labels of the row true
  abbrev allows : Bool
  allows = list_all (true_on (atoms_in x)) (node_at nodes q).labels

  -- a row that follows is a next row whose labels are true
  follows-next : (n : ℕ) → some_follows (of_labels nodes) set x n q ≡ (is_row && (some_next nodes set n q && allows))
  follows-next zero = some_follows-none (of_labels nodes) set x q ∙ and_none is_row allows
  follows-next (suc n) =
      some_follows-more (of_labels nodes) set x n q
      ∙ ap (λ b. b || (has_bit set n && (is_row && (has_bit (node_at nodes n).next q && allows)))) (follows-next n)
      ∙ both-ways is_row (some_next nodes set n q) allows (has_bit set n) (has_bit (node_at nodes n).next q)

  -- a row that follows the set is there, is a next row of a row of the set, and has true labels
  pub follows-rows : length nodes ≤ 32 → some_follows (of_labels nodes) set x 32 q ≡ (is_row && (some_next nodes set (length nodes) q && allows))
  follows-rows few = follows-next 32 ∙ ap (λ b. is_row && (b && allows)) (next-rows nodes set q few)

-- a place is in a list or past it
within : (i n : ℕ) → (i < n) ⊎ (n ≤ i)
within i n = grind arith

-- past the rows nothing comes next
some_next-past : (nodes : List Node) → All (IsNodeBelow (length nodes)) nodes → (set n q : ℕ) → length nodes ≤ q → some_next nodes set n q ≡ false
some_next-past nodes all set zero q past = refl
some_next-past nodes all set (suc n) q past =
    ap (λ b. b || (has_bit set n && has_bit (node_at nodes n).next q)) (some_next-past nodes all set n q past)
    ∙ ap (λ b. false || (has_bit set n && b)) (none (within n (length nodes)))
    ∙ or_none false (has_bit set n)
  where
    nothing : Node
    nothing = record { labels = []; next = 0 }

    none : (n < length nodes) ⊎ (length nodes ≤ n) → has_bit (node_at nodes n).next q ≡ false
    none (inl lt) = ap (λ b. b == 1) (bit_at_above (node_at nodes n).next (length nodes) q (All-get_or (IsNodeBelow (length nodes)) nodes n nothing lt all).1.0 past)
    none (inr beyond) = ap (λ (node : Node). has_bit node.next q) (get_or_past nodes n nothing beyond) ∙ has_none q

-- the next rows whose labels are true are those that follow
pub is_label_step : (nodes : List Node) (set : ℕ) (x : Letter) (next out : ℕ) → IsLabelRows nodes → out < 2 ^ 32
    → ((q : ℕ) → has_bit next q ≡ some_next nodes set (length nodes) q)
    → ((q : ℕ) → q < 32 → has_bit out q ≡ (has_bit next q && list_all (true_on (atoms_in x)) (node_at nodes q).labels))
    → out ≡ step_set (of_labels nodes) set x
is_label_step nodes set x next out it fits next_is out_is = is_step_set (of_labels nodes) set x out fits (λ q lt. out_is q lt ∙ rows q (within q (length nodes)) ∙ sym (follows-rows nodes set x q it.few))
  where
    rows : (q : ℕ) → (q < length nodes) ⊎ (length nodes ≤ q) → (has_bit next q && list_all (true_on (atoms_in x)) (node_at nodes q).labels) ≡ (nat_lt q (length nodes) && (some_next nodes set (length nodes) q && list_all (true_on (atoms_in x)) (node_at nodes q).labels))
    rows q (inl lt) =
        let is : nat_lt q (length nodes) ≡ true = grind arith in
        rw is (ap (λ b. b && list_all (true_on (atoms_in x)) (node_at nodes q).labels) (next_is q))
    rows q (inr past) =
        let is_not : nat_lt q (length nodes) ≡ false = grind arith in
        rw is_not (ap (λ b. b && list_all (true_on (atoms_in x)) (node_at nodes q).labels) (next_is q ∙ some_next-past nodes it.in_range set (length nodes) q past))
