-- Sets of moves: one move more, their order, and their members.
use Rattle.std.proofs.Common.{◌≡◌, ℕ, ◌+◌, ◌<◌, List, [], ◌∷◌, ◌++◌, length, take, get_or, refl, sym, ap, ◌∙◌, ◌⊎◌, inl, inr, arith}
use Rattle.std.specs.Prelude.{map, ◌↔◌}
use Rattle.std.specs.BTreeSet.{insert_key}
use Rattle.std.specs.Cmp.{IsTotalOrder}
use Rattle.std.specs.Ordering.{nat_cmp, ordering_then}
use Rattle.std.specs.declared.cmp.Ordering.{Ordering}
use Rattle.std.specs.declared.cmp.Ordering.TheVariants.{Less, Equal, Greater}
use Rattle.std.proofs.lemmas.Bool.Decides.{nat_tests}
use Rattle.std.proofs.lemmas.List.Sums.{fold_push}
use Rattle.std.proofs.lemmas.List.{map_more, map_push}
use Rattle.rv_dot.specs.contracts.moves.MoveOrd.TheImpl.Laws.{total-law}
use Rattle.rv_dot.specs.declared.moves.Move.{Move}
use Rattle.rv_dot.specs.declared.gather.Arc.{Arc as Held}
use Rattle.rv_dot.specs.Gathered.{Arc}
use Rattle.rv_dot.specs.inner.Held.{arc}
use Rattle.rv_text.specs.inner.Ascending.{Ascends}
use Rattle.rv_dot.specs.Members.{IsMember}
use Rattle.rv_dot.specs.Moves.{move_cmp, moves_of, arc_move}
use Rattle.rv_dot.proofs.SetOrder.{fold_ascends, fold_members, members_fold}

-- one move more
moves_of-push : (moves : List Move) (m : Move) → moves_of (moves ++ m ∷ []) ≡ insert_key move_cmp (moves_of moves) m
unfolding moves_of
moves_of-push moves m = fold_push (insert_key move_cmp) [] moves m

-- one arc more
pub moves_more : (states events : List (List ℕ)) (arcs : List Held) (i : ℕ) (d : Held) (m : Move) (keys keys' : List Move) → i < length arcs
    → keys ≡ moves_of (map (arc_move states events) (map arc (take i arcs))) → m ≡ arc_move states events (arc (get_or arcs i d)) → keys' ≡ insert_key move_cmp keys m
    → keys' ≡ moves_of (map (arc_move states events) (map arc (take (i + 1) arcs)))
moves_more states events arcs i d m keys keys' lt so_far is inserted =
    inserted ∙ ap (λ (ks : List Move). insert_key move_cmp ks m) so_far ∙ ap (insert_key move_cmp (moves_of (map (arc_move states events) (map arc (take i arcs))))) is
    ∙ sym (moves_of-push (map (arc_move states events) (map arc (take i arcs))) (arc_move states events (arc (get_or arcs i d))))
    ∙ ap moves_of (sym (map_push_arc (map arc (take i arcs)) (arc (get_or arcs i d))) ∙ ap (map (arc_move states events)) (sym (map_more arc arcs i d lt)))
  where
    map_push_arc : (as' : List Arc) (a : Arc) → map (arc_move states events) (as' ++ a ∷ []) ≡ map (arc_move states events) as' ++ arc_move states events a ∷ []
    map_push_arc as' a = map_push (arc_move states events) as' a

-- moves are in total order
pub moves_total : IsTotalOrder move_cmp
moves_total = total-law

-- the lesser number
pub nat_less : (x y : ℕ) → nat_cmp x y ≡ Less → x < y
nat_less x y h = grind (arith, nat_tests)

-- the same number
pub nat_same : (x y : ℕ) → nat_cmp x y ≡ Equal → x ≡ y
nat_same x y h = grind (arith, nat_tests)

-- moves that compare as equal are equal
pub same_move : (a b : Move) → move_cmp a b ≡ Equal → a ≡ b
same_move a b h = go (nat_cmp a.from b.from) (nat_cmp a.event b.event) (nat_cmp a.to b.to) refl refl refl h
  where
    go : (o p q : Ordering) → nat_cmp a.from b.from ≡ o → nat_cmp a.event b.event ≡ p → nat_cmp a.to b.to ≡ q → ordering_then o (ordering_then p q) ≡ Equal → a ≡ b
    go Equal Equal Equal e f g h =
        let made : ℕ → ℕ → ℕ → Move = λ from event to. record { from = from; event = event; to = to } in
        ap (λ (n : ℕ). made n a.event a.to) (nat_same a.from b.from e) ∙ ap (λ (n : ℕ). made b.from n a.to) (nat_same a.event b.event f) ∙ ap (λ (n : ℕ). made b.from b.event n) (nat_same a.to b.to g)
    go Less p q e f g h = absurd (cc)
    go Greater p q e f g h = absurd (cc)
    go Equal Less q e f g h = absurd (cc)
    go Equal Greater q e f g h = absurd (cc)
    go Equal Equal Less e f g h = absurd (cc)
    go Equal Equal Greater e f g h = absurd (cc)

-- a set of moves ascends
pub moves_ascend : (moves : List Move) → Ascends move_cmp (moves_of moves)
unfolding moves_of
moves_ascend moves = fold_ascends move_cmp moves_total same_move moves [] tt

-- its members are the moves
pub moves_members : (moves : List Move) (m : Move) → IsMember m (moves_of moves) ↔ IsMember m moves
unfolding moves_of
moves_members moves m = (
  (λ h. either (fold_members move_cmp moves_total same_move moves [] m h)),
  (λ h. members_fold move_cmp moves_total same_move moves [] m (inl h)),
)
  where
    either : {A : Type 0} → A ⊎ ⊥ → A
    either (inl a) = a
    either (inr b) = absurd b
