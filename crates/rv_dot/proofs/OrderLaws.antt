-- Names and edges that stand in order.
use Rattle.std.proofs.Common.{◌≡◌, ℕ, suc, ◌<◌, ◌≤◌, true, false, List, [], ◌∷◌, length, get_or, drop, refl, ap, subst, ◌⊎◌, inl, inr, arith}
use Rattle.std.specs.Prelude.{map, AllPairs, nat_lt, ◌==◌}
use Rattle.std.specs.List.{AllByRecursion}
use Rattle.std.specs.Cmp.Lexicographic.{slice_cmp}
use Rattle.std.specs.Ordering.{nat_cmp}
use Rattle.std.specs.declared.cmp.Ordering.TheVariants.{Less, Equal}
use Rattle.std.proofs.lemmas.Bool.Decides.{nat_tests}
use Rattle.rv_model.specs.declared.automaton.Edge.{Edge}
use Rattle.rv_model.specs.WellFormed.{IsBefore, EdgeIsBefore}
use Rattle.rv_dot.specs.declared.moves.Move.{Move}
use Rattle.rv_text.specs.inner.Ascending.{Ascends}
use Rattle.rv_dot.specs.Moves.{move_cmp, moves_of, edge_of}
use Rattle.rv_dot.specs.inner.Clashes.{same_key, has_clash}
use Rattle.rv_dot.proofs.MemberLaws.{AllLater, place_of_member}
use Rattle.rv_dot.proofs.MoveSets.{moves_total, same_move, moves_ascend, moves_members}
use Rattle.rv_dot.proofs.SetOrder.{all_from_members, one_list}

-- pairs by places are pairs by recursion
pub later_from : {A : Type 0} (R : A → A → Type 0) (xs : List A) → AllPairs R xs → AllLater R xs
later_from R [] h = tt
later_from R (x ∷ xs) h = (
  all_from_members (λ y. R x y) xs (λ y m. let at = place_of_member y xs m in subst (R x) at.2 (h 0 (suc at.0) y (omega arith) (omega (arith, at.1)))),
  later_from R xs (λ i j d lt within. h (suc i) (suc j) d (omega (arith, lt)) (omega (arith, within))),
)

-- names in order at all pairs ascend
pub ascends_from : (names : List (List ℕ)) → AllPairs IsBefore names → Ascends (slice_cmp nat_cmp) names
ascends_from names h = go names (later_from IsBefore names h)
  where
    go : (names : List (List ℕ)) → AllLater IsBefore names → Ascends (slice_cmp nat_cmp) names
    go [] h = tt
    go (n ∷ names) h = (h.0, go names h.1)

-- the first element and the others
pub split_first : (names : List (List ℕ)) → 1 ≤ length names → names ≡ get_or names 0 [] ∷ drop 1 names
split_first [] h = absurd (omega arith)
split_first (n ∷ names) h = refl

-- the move of an edge
abbrev pub move_of : Edge → Move
move_of e = record { from = e.from; event = e.event; to = e.to }

-- moves as edges are the edges
pub edges_back : (edges : List Edge) → map edge_of (map move_of edges) ≡ edges
edges_back [] = refl
edges_back (e ∷ edges) = ap (λ (es : List Edge). e ∷ es) (edges_back edges)

-- a lesser number compares so
less_from : (x y : ℕ) → x < y → nat_cmp x y ≡ Less
less_from x y h = let test : nat_lt x y ≡ true = grind (arith, nat_tests) in rw test refl

-- an earlier edge compares so
edge_less : (e f : Edge) → EdgeIsBefore e f → move_cmp (move_of e) (move_of f) ≡ Less
edge_less e f h = elim h [
  | inl from ↦ rw (less_from e.from f.from from) refl
  | inr both ↦ rw (both.0, same f.from, less_from e.event f.event both.1) refl
]
  where
    same : (x : ℕ) → nat_cmp x x ≡ Equal
    same x = let apart : nat_lt x x ≡ false = grind (arith, nat_tests) in let test : (x == x) ≡ true = grind (arith, nat_tests) in rw (apart, test) refl

-- edges in order are moves in order
pub moves_in_order : (edges : List Edge) → AllLater EdgeIsBefore edges → Ascends move_cmp (map move_of edges)
moves_in_order [] h = tt
moves_in_order (e ∷ edges) h = (go edges h.0, moves_in_order edges h.1)
  where
    go : (fs : List Edge) → AllByRecursion (λ f. EdgeIsBefore e f) fs → AllByRecursion (λ m. move_cmp (move_of e) m ≡ Less) (map move_of fs)
    go [] k = tt
    go (f ∷ fs) k = (edge_less e f k.0, go fs k.1)

-- the set of ascending moves is their list
pub moves_only : (edges : List Edge) → AllLater EdgeIsBefore edges → moves_of (map move_of edges) ≡ map move_of edges
moves_only edges h =
    one_list move_cmp moves_total same_move (moves_of (map move_of edges)) (map move_of edges) (moves_ascend (map move_of edges)) (moves_in_order edges h)
    (λ m k. (moves_members (map move_of edges) m).0 k) (λ m k. (moves_members (map move_of edges) m).1 k)

-- edges in order have no clash
pub calm_edges : (edges : List Edge) → AllLater EdgeIsBefore edges → has_clash (map move_of edges) ≡ false
calm_edges [] h = refl
calm_edges (e ∷ []) h = refl
calm_edges (e ∷ f ∷ edges) h = rw (apart (move_of e) (move_of f) h.0.0, calm_edges (f ∷ edges) h.1) refl
  where
    apart : (a b : Move) → (a.from < b.from) ⊎ ((a.from ≡ b.from) × (a.event < b.event)) → same_key a b ≡ false
    apart a b k = grind (arith, nat_tests)
