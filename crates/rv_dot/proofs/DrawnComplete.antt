-- The automaton that the statements draw is the one that the definition gives.
use Rattle.std.proofs.Common.{◌≡◌, ℕ, ◌<◌, true, false, List, [], ◌∷◌, length, get_or, Some, refl, sym, ap, ◌∙◌, subst, inl, inr, arith}
use Rattle.std.specs.Prelude.{map, ◌↔◌, Ok}
use Rattle.std.specs.List.{list_all}
use Rattle.std.specs.Str.{bytes_eq}
use Rattle.rv_model.specs.declared.automaton.Edge.{Edge}
use Rattle.rv_model.specs.Machine.{Machine}
use Rattle.rv_model.specs.WellFormed.{IsAutomaton}
use Rattle.rv_dot.specs.declared.moves.Move.{Move}
use Rattle.rv_dot.specs.Statements.{Claim}
use Rattle.rv_dot.specs.Gathered.{Arc, states_in, targets_in, arcs_in, is_marked}
use Rattle.rv_dot.specs.Members.{IsMember}
use Rattle.rv_dot.specs.Sets.{ascending, stands_in}
use Rattle.rv_dot.specs.Moves.{move_cmp, moves_of, arc_move, edge_of}
use Rattle.rv_dot.specs.inner.Clashes.{has_clash}
use Rattle.rv_dot.specs.Canonical.{arc_named}
use Rattle.rv_dot.specs.Dot.{ends_declared, states_from, events_from, bits_of, marked_or_initial, initial_of, machine_of, dot_of}
use Rattle.rv_dot.specs.Drawn.{IsDrawnBy, IsDotOf}
use Rattle.rv_dot.proofs.InitialLaws.{machine_given, is_drawn, machine_is}
use Rattle.rv_dot.proofs.MachineLaws.{edges_later, events_up, states_again, arc_number}
use Rattle.rv_dot.proofs.OrderLaws.{move_of, moves_in_order, edges_back, calm_edges}
use Rattle.rv_dot.proofs.MemberLaws.{member_at, member_map, map_member, all_member, list_all_from}
use Rattle.rv_dot.proofs.MoveSets.{moves_total, same_move, moves_ascend, moves_members}
use Rattle.rv_dot.proofs.NameSets.{set_ascends, set_members, set_is_only}
use Rattle.rv_dot.proofs.SetOrder.{one_list}
use Rattle.rv_dot.proofs.StandsLaws.{name_test, member_stands}
use Rattle.rv_dot.proofs.WholeLaws.{from_initial, short_read}

-- lists with the same members have one set
set_same : (xs ys : List (List ℕ)) → ((x : List ℕ) → IsMember x xs ↔ IsMember x ys) → ascending xs ≡ ascending ys
set_same xs ys same = set_is_only ys (ascending xs) (set_ascends xs) (λ x. ((λ m. (same x).0 ((set_members xs x).0 m)), (λ m. (set_members xs x).1 ((same x).1 m))))

-- one target is the initial state
initial_is : (targets : List (List ℕ)) (first : List ℕ) → IsMember first targets → ((t : List ℕ) → IsMember t targets → t ≡ first) → initial_of targets ≡ Ok first
initial_is [] first m one = absurd m
initial_is (t ∷ targets) first m one =
    let head = one t (inl refl) in
    let all : list_all (bytes_eq t) targets ≡ true = list_all_from (bytes_eq t) targets (λ x k. name_test t x (head ∙ sym (one x (inr k)))) in
    rw all (ap Ok head)

module _ (claims : List Claim) (a : Machine) (h : IsAutomaton a) (d : IsDrawnBy claims a) where
  -- they are the states
  are_states : a.states ≡ states_from (get_or a.states 0 []) (states_in claims)
  unfolding states_from
  are_states = sym (states_again a h) ∙ again (set_same a.states (states_in claims) d.states)
    where
      again : ascending a.states ≡ ascending (states_in claims) → states_from (get_or a.states 0 []) a.states ≡ states_from (get_or a.states 0 []) (states_in claims)
      again e = rw e refl

  -- they are the events
  are_events : a.events ≡ events_from (arcs_in claims)
  unfolding events_from
  are_events = set_is_only (map (λ (x : Arc). x.event) (arcs_in claims)) a.events (events_up a h) d.events

  -- the initial state is declared
  stands : stands_in (states_in claims) (get_or a.states 0 []) ≡ true
  stands = member_stands (states_in claims) (get_or a.states 0 []) ((d.states (get_or a.states 0 [])).0 (member_at a.states 0 [] (omega (arith, h.some_state))))

  -- the edge of an arc
  edge_of_arc : (x : Arc) → IsMember x (arcs_in claims) → (e : Edge) × IsMember e a.edges × (arc_named a.states a.events e ≡ x)
  edge_of_arc x m = member_map (arc_named a.states a.events) x a.edges ((d.edges x).1 m)

  -- the ends are states
  ends_stand : list_all (ends_declared a.states) (arcs_in claims) ≡ true
  ends_stand = list_all_from (ends_declared a.states) (arcs_in claims) (λ x m.
      let e = edge_of_arc x m in
      let r = all_member (λ (y : Edge). (y.from < length a.states) × (y.event < length a.events) × (y.to < length a.states)) a.edges e.0 h.in_range e.1 in
      let from : stands_in a.states (get_or a.states e.0.from []) ≡ true = member_stands a.states (get_or a.states e.0.from []) (member_at a.states e.0.from [] r.0) in
      let to : stands_in a.states (get_or a.states e.0.to []) ≡ true = member_stands a.states (get_or a.states e.0.to []) (member_at a.states e.0.to [] r.2) in
      let both : ends_declared a.states (arc_named a.states a.events e.0) ≡ true = rw (from, to) refl in
      ap (ends_declared a.states) (sym e.2) ∙ both)

  -- they are the moves
  are_moves : map move_of a.edges ≡ moves_of (map (arc_move a.states a.events) (arcs_in claims))
  are_moves =
      let all = map (arc_move a.states a.events) (arcs_in claims) in
      one_list move_cmp moves_total same_move (map move_of a.edges) (moves_of all) (moves_in_order a.edges (edges_later a h)) (moves_ascend all)
      (λ m k.
      let e = member_map move_of m a.edges k in
      let arc = (d.edges (arc_named a.states a.events e.0)).0 (map_member (arc_named a.states a.events) e.0 a.edges e.1) in
      let number : arc_move a.states a.events (arc_named a.states a.events e.0) ≡ m = arc_number a h e.0 e.1 ∙ e.2 in
      (moves_members all m).1 (subst (λ (n : Move). IsMember n all) number (map_member (arc_move a.states a.events) (arc_named a.states a.events e.0) (arcs_in claims) arc)))
      (λ m k.
      let x = member_map (arc_move a.states a.events) m (arcs_in claims) ((moves_members all m).0 k) in
      let e = edge_of_arc x.0 x.1 in
      let number : move_of e.0 ≡ m = sym (arc_number a h e.0 e.1) ∙ ap (arc_move a.states a.events) e.2 ∙ x.2 in
      subst (λ (n : Move). IsMember n (map move_of a.edges)) number (map_member move_of e.0 a.edges e.1))

  -- without conflict
  calm : has_clash (moves_of (map (arc_move a.states a.events) (arcs_in claims))) ≡ false
  calm = ap has_clash (sym are_moves) ∙ calm_edges a.edges (edges_later a h)

  -- so the claims give this automaton
  pub machine_drawn : machine_of claims ≡ Ok a
  machine_drawn =
      let first = get_or a.states 0 [] in
      let start = from_initial claims first d.fit (initial_is (targets_in claims) first d.some_target d.one_target) in
      let drawn = is_drawn claims first a.states a.events (arcs_in claims) are_states are_events refl stands d.fit ends_stand in
      let given = machine_given claims first a.states a.events (arcs_in claims) are_states are_events refl stands drawn calm h.few_states h.few_events in
      let same = machine_is claims first a.states a.events (arcs_in claims) are_states are_events refl stands (map move_of a.edges) are_moves in
      let built : Machine = record { states = a.states; events = a.events; edges = map edge_of (map move_of a.edges); marked = marked_or_initial (bits_of (map (is_marked claims) a.states)) } in
      let made : List Edge → ℕ → Machine = λ es m. record { states = a.states; events = a.events; edges = es; marked = m } in
      let whole : built ≡ a = ap (λ (es : List Edge). made es (marked_or_initial (bits_of (map (is_marked claims) a.states)))) (edges_back a.edges) ∙ ap (made a.edges) (sym d.marked) in
      start ∙ given ∙ ap Ok (sym same ∙ whole)

-- the automaton of a text by its properties is the definition's
pub dot_complete : (bytes : List ℕ) (a : Machine) → IsDotOf bytes a → dot_of bytes ≡ Ok a
dot_complete bytes a d = short_read bytes (Some d.claims) d.few_bytes d.said ∙ machine_drawn d.claims a d.keeps d.drawn
