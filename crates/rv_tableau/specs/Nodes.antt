-- The nodes of a tableau in the order in which they are added, or the refusal; this project's choice: the order, at most
-- 4,096 branches of a set, and at most 31 nodes.
use Rattle.std.specs.Prelude.{ℕ, zero, suc, ◌-◌, ◌^◌, Bool, ◌&&◌, ◌||◌, ◌==◌, cond, List, [], ◌∷◌, ◌++◌, length, map, nat_eq, nat_lt, nat_le, slice_index, Result, Ok}
use Rattle.rv_text.specs.declared.refusals.Refusal.{Refusal}
use Rattle.rv_text.specs.declared.numbers.TheConstants.{TOO_WIDE, TOO_MANY_NODES}
use Rattle.rv_text.specs.Readings.{refused_with}
use Rattle.rv_nnf.specs.Parts.{PartValue}
use Rattle.rv_nnf.specs.Lists.{firsts}
use Rattle.rv_tableau.specs.declared.pairs.Pair.{Pair}
use Rattle.rv_tableau.specs.Pairs.{same_pair, is_one_of}
use Rattle.rv_tableau.specs.Cover.{cover_of}
use Rattle.rv_tableau.specs.Branches.{branch_number}

-- the set of the whole formula's part alone
abbrev pub whole_set : List PartValue → ℕ
whole_set ps = 2 ^ (length ps - 1)

-- ascending by the labels as a binary number, and then by the next set in the same way
abbrev pub is_before : Pair → Pair → Bool
is_before p q = nat_lt p.labels q.labels || ((p.labels == q.labels) && nat_lt p.next q.next)

-- at its place in an ascending list, where it is not there yet
abbrev pub insert_pair : Pair → List Pair → List Pair
insert_pair p [] = p ∷ []
insert_pair p (q ∷ qs) = cond (is_before p q) (p ∷ q ∷ qs) (cond (same_pair p q) (q ∷ qs) (q ∷ insert_pair p qs))

-- those of the cover that are not yet nodes, ascending, each once
abbrev pub new_nodes : List Pair → List Pair → List Pair
new_nodes nodes [] = []
new_nodes nodes (p ∷ cover) = cond (is_one_of p nodes) (new_nodes nodes cover) (insert_pair p (new_nodes nodes cover))

-- what the new nodes ask of the rest joins the list, where it is not on it
abbrev pub with_nexts : List ℕ → List Pair → List ℕ
with_nexts sets new = firsts nat_eq sets (map (λ p. p.next) new)

-- The sets from place i on are taken in order, n of them at most. Each gives its new nodes, whose next sets join the list.
unfoldable pub nodes_from : List PartValue → ℕ → ℕ → List ℕ → List Pair → Result (List Pair) Refusal
nodes_from ps zero i sets nodes = Ok nodes
nodes_from ps (suc n) i sets nodes =
    cond (nat_le (length sets) i) (Ok nodes)
    (cond (nat_lt 4096 (branch_number ps (slice_index sets i))) (refused_with TOO_WIDE)
    (let new = new_nodes nodes (cover_of ps (slice_index sets i)) in
    cond (nat_lt 31 (length (nodes ++ new))) (refused_with TOO_MANY_NODES)
    (nodes_from ps n (suc i) (with_nexts sets new) (nodes ++ new))))

-- The list begins with the whole formula's set. Each other set is the next set of a node, so 33 turns are enough.
unfoldable pub nodes_of : List PartValue → Result (List Pair) Refusal
nodes_of ps = nodes_from ps 33 0 (whole_set ps ∷ []) []
