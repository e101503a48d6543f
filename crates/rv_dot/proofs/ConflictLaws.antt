-- Arcs are in conflict exactly where two neighbours among their numbered moves clash.
use Rattle.std.proofs.Common.{◌≡◌, ℕ, Bool, true, false, List, refl, sym, ap, ◌∙◌}
use Rattle.std.specs.Prelude.{map, not, ◌&&◌, ◌≢◌}
use Rattle.std.specs.Cmp.{both_ways}
use Rattle.std.specs.List.{list_any}
use Rattle.std.specs.Str.{bytes_eq}
use Rattle.rv_dot.specs.declared.moves.Move.{Move}
use Rattle.rv_dot.specs.Gathered.{Arc}
use Rattle.rv_dot.specs.Members.{IsMember}
use Rattle.rv_dot.specs.Sets.{stands_in, number_in}
use Rattle.rv_dot.specs.Moves.{moves_of, arc_move}
use Rattle.rv_dot.specs.inner.Clashes.{has_clash}
use Rattle.rv_dot.specs.Dot.{are_apart, has_conflict}
use Rattle.rv_dot.proofs.MemberLaws.{and_true, member_map, map_member, list_any_member, list_any_from}
use Rattle.rv_dot.proofs.MoveSets.{moves_ascend, moves_members}
use Rattle.rv_dot.proofs.MoveLaws.{Clashes, clash_found, clash_is}
use Rattle.rv_dot.proofs.StandsLaws.{name_same, name_test, number_once}

-- a test that fails
not_true : (b : Bool) → not b ≡ true → b ≡ false
not_true true h = absurd (cc)
not_true false h = refl

-- apart names fail the test
test_apart : (x y : List ℕ) → x ≢ y → not (bytes_eq x y) ≡ true
test_apart x y h = go (bytes_eq x y) refl
  where
    go : (t : Bool) → bytes_eq x y ≡ t → not t ≡ true
    go true e = absurd (h (name_same x y e))
    go false e = refl

-- names that fail the test are apart
apart_test : (x y : List ℕ) → not (bytes_eq x y) ≡ true → x ≢ y
apart_test x y h e = let both : true ≡ false = sym (name_test x y e) ∙ not_true (bytes_eq x y) h in cc

-- each name of the arc stands in its list
pub record IsNumbered (states events : List (List ℕ)) (a : Arc) : Type 0 where
  pub from : stands_in states a.from ≡ true
  pub event : stands_in events a.event ≡ true
  pub to : stands_in states a.to ≡ true

module _ (states events : List (List ℕ)) (arcs : List Arc) (all : (a : Arc) → IsMember a arcs → IsNumbered states events a) where
  -- the arc of a move of the set
  pub arc_of_move : (m : Move) → IsMember m (moves_of (map (arc_move states events) arcs)) → (a : Arc) × IsMember a arcs × (arc_move states events a ≡ m)
  arc_of_move m h = member_map (arc_move states events) m arcs ((moves_members (map (arc_move states events) arcs) m).0 h)

  -- the move of an arc is in the set
  pub move_of_arc : (a : Arc) → IsMember a arcs → IsMember (arc_move states events a) (moves_of (map (arc_move states events) arcs))
  move_of_arc a m = (moves_members (map (arc_move states events) arcs) (arc_move states events a)).1 (map_member (arc_move states events) a arcs m)

  -- a clash comes of a conflict
  conflict_of_clash : Clashes (moves_of (map (arc_move states events) arcs)) → has_conflict arcs ≡ true
  unfolding has_conflict
  conflict_of_clash c =
      let a = arc_of_move c.one c.has_one in
      let b = arc_of_move c.other c.has_other in
      let na = all a.0 a.1 in
      let nb = all b.0 b.1 in
      let from : a.0.from ≡ b.0.from = number_once states a.0.from b.0.from na.from nb.from (ap (λ (m : Move). m.from) a.2 ∙ c.same_from ∙ sym (ap (λ (m : Move). m.from) b.2)) in
      let event : a.0.event ≡ b.0.event = number_once events a.0.event b.0.event na.event nb.event (ap (λ (m : Move). m.event) a.2 ∙ c.same_event ∙ sym (ap (λ (m : Move). m.event) b.2)) in
      let to : a.0.to ≢ b.0.to = λ e. c.apart (sym (ap (λ (m : Move). m.to) a.2) ∙ ap (number_in states) e ∙ ap (λ (m : Move). m.to) b.2) in
      let apart : are_apart a.0 b.0 ≡ true = rw (name_test a.0.from b.0.from from, name_test a.0.event b.0.event event, test_apart a.0.to b.0.to to) refl in
      list_any_from (λ x. list_any (are_apart x) arcs) a.0 arcs a.1 (list_any_from (are_apart a.0) b.0 arcs b.1 apart)

  -- a conflict makes a clash
  clash_of_conflict : has_conflict arcs ≡ true → Clashes (moves_of (map (arc_move states events) arcs))
  unfolding has_conflict
  clash_of_conflict h =
      let a = list_any_member (λ x. list_any (are_apart x) arcs) arcs h in
      let b = list_any_member (are_apart a.0) arcs a.2 in
      let parts = and_true (bytes_eq a.0.from b.0.from && bytes_eq a.0.event b.0.event) (not (bytes_eq a.0.to b.0.to)) b.2 in
      let keys = and_true (bytes_eq a.0.from b.0.from) (bytes_eq a.0.event b.0.event) parts.0 in
      record {
        one = arc_move states events a.0;
        other = arc_move states events b.0;
        has_one = move_of_arc a.0 a.1;
        has_other = move_of_arc b.0 b.1;
        same_from = ap (number_in states) (name_same a.0.from b.0.from keys.0);
        same_event = ap (number_in events) (name_same a.0.event b.0.event keys.1);
        apart = λ e. apart_test a.0.to b.0.to parts.1 (number_once states a.0.to b.0.to (all a.0 a.1).to (all b.0 b.1).to e);
      }

  -- the test on numbers is the test on names
  pub clash_is_conflict : has_clash (moves_of (map (arc_move states events) arcs)) ≡ has_conflict arcs
  clash_is_conflict =
      let up = moves_ascend (map (arc_move states events) arcs) in
      both_ways (has_clash (moves_of (map (arc_move states events) arcs))) (has_conflict arcs)
      (λ h. conflict_of_clash (clash_found (moves_of (map (arc_move states events) arcs)) up h))
      (λ h. clash_is (moves_of (map (arc_move states events) arcs)) up (clash_of_conflict h))
