-- What is drawn from statements that pass each test is an automaton.
use Rattle.std.proofs.Common.{◌≡◌, ℕ, zero, suc, ◌^◌, ◌<◌, ◌≤◌, Bool, true, false, List, [], ◌∷◌, length, get_or, drop, cond, refl, sym, ap, ◌∙◌, subst, arith}
use Rattle.std.proofs.lemmas.List.{length-map}
use Rattle.std.specs.Prelude.{map, not, ◌==◌, ◌≢◌, Any}
use Rattle.std.specs.List.{AllByRecursion, list_all}
use Rattle.std.specs.Cmp.Lexicographic.{slice_cmp}
use Rattle.std.specs.Ordering.{nat_cmp}
use Rattle.std.specs.Str.{bytes_eq}
use Rattle.std.proofs.Math.Nat.{pow-succ'}
use Rattle.std.proofs.lemmas.Bool.Decides.{nat_tests}
use Rattle.rv_model.specs.declared.automaton.Edge.{Edge}
use Rattle.rv_model.specs.WellFormed.{IsBefore, IsNameOf, IsStateName, EdgeIsBefore, IsAutomaton, is_event_byte}
use Rattle.rv_dot.specs.declared.moves.Move.{Move}
use Rattle.rv_dot.specs.Statements.{Claim}
use Rattle.rv_dot.specs.Names.{is_event_name}
use Rattle.rv_dot.specs.Gathered.{Arc, state_in, states_in, arcs_in, fits, events_fit, all_fit, is_marked}
use Rattle.rv_text.specs.inner.Ascending.{Ascends}
use Rattle.rv_dot.specs.Members.{IsMember}
use Rattle.rv_dot.specs.Sets.{ascending, stands_in, number_in}
use Rattle.rv_dot.specs.Moves.{moves_of, arc_move, edge_of}
use Rattle.rv_dot.specs.inner.Clashes.{has_clash}
use Rattle.rv_dot.specs.Dot.{bits_of, marked_or_initial, ends_declared, has_conflict, states_from, events_from, machine_from}
use Rattle.rv_dot.proofs.BitLaws.{bits_below}
use Rattle.rv_dot.proofs.ConflictLaws.{IsNumbered, arc_of_move, move_of_arc, clash_is_conflict}
use Rattle.rv_dot.proofs.MemberLaws.{and_true, member_map, map_member, member_filter, member_filter_map, list_all_member, member_at, all_members, place_of_member, AllLater, pairs_from, ascends_later, ascends_filter}
use Rattle.rv_dot.proofs.MoveLaws.{KeyBelow, KeysAscend, keys_ascend}
use Rattle.rv_dot.proofs.MoveSets.{moves_ascend}
use Rattle.rv_dot.proofs.NameParts.{event_named, claim_named}
use Rattle.rv_dot.proofs.NameSets.{set_ascends, set_members}
use Rattle.rv_dot.proofs.StandsLaws.{name_test, stands_member, member_stands, member_states, stands_in_states, number_at, place_of-at}

-- statements that fit, whose arcs go between declared states without conflict
pub record IsDrawn (claims : List Claim) (initial : List ℕ) : Type 0 where
  pub fit : all_fit claims ≡ true
  pub initial_declared : stands_in (states_in claims) initial ≡ true
  pub ends : list_all (ends_declared (states_in claims)) (arcs_in claims) ≡ true

module _ (claims : List Claim) (initial : List ℕ) (h : IsDrawn claims initial) where
  -- the names of each arc have numbers
  pub arcs_numbered : (a : Arc) → IsMember a (arcs_in claims) → IsNumbered (states_from initial (states_in claims)) (events_from (arcs_in claims)) a
  unfolding events_from
  arcs_numbered a m =
      let ends = list_all_member (ends_declared (states_in claims)) a (arcs_in claims) h.ends m in
      let both = and_true (stands_in (states_in claims) a.from) (stands_in (states_in claims) a.to) ends in
      let names = map (λ (b : Arc). b.event) (arcs_in claims) in
      record {
        from = stands_in_states initial (states_in claims) h.initial_declared a.from ∙ both.0;
        event = member_stands (ascending names) a.event ((set_members names a.event).1 (map_member (λ (b : Arc). b.event) a (arcs_in claims) m));
        to = stands_in_states initial (states_in claims) h.initial_declared a.to ∙ both.1;
      }

  -- statements fit, and events
  fit_parts : (list_all fits claims ≡ true) × (events_fit (arcs_in claims) ≡ true)
  fit_parts = and_true (list_all fits claims) (events_fit (arcs_in claims)) h.fit

  -- a state has a state's name
  state_named : (s : List ℕ) → IsMember s (states_from initial (states_in claims)) → IsStateName s
  state_named s m =
      let declared = member_states initial (states_in claims) s (stands_member (states_in claims) initial h.initial_declared) m in
      let claim = member_filter_map state_in s claims declared in
      claim_named claim.0 s (list_all_member fits claim.0 claims fit_parts.0 claim.1) claim.2

  -- an event is the event of an arc
  event_arc : (e : List ℕ) → IsMember e (events_from (arcs_in claims)) → (a : Arc) × IsMember a (arcs_in claims) × (a.event ≡ e)
  unfolding events_from
  event_arc e m = let names = map (λ (b : Arc). b.event) (arcs_in claims) in member_map (λ (b : Arc). b.event) e (arcs_in claims) ((set_members names e).0 m)

  -- the events ascend
  events_ascend : Ascends (slice_cmp nat_cmp) (events_from (arcs_in claims))
  unfolding events_from
  events_ascend = set_ascends (map (λ (b : Arc). b.event) (arcs_in claims))

  -- an event has an event's name
  event_is_named : (e : List ℕ) → IsMember e (events_from (arcs_in claims)) → IsNameOf is_event_byte e
  event_is_named e m =
      let a = event_arc e m in
      subst (IsNameOf is_event_byte) a.2 (event_named a.0.event (list_all_member (λ (b : Arc). is_event_name b.event) a.0 (arcs_in claims) fit_parts.1 a.1))

  -- an edge has numbers in range
  edge_in_range : (e : Edge) → IsMember e (map edge_of (moves_of (map (arc_move (states_from initial (states_in claims)) (events_from (arcs_in claims))) (arcs_in claims))))
      → (e.from < length (states_from initial (states_in claims))) × (e.event < length (events_from (arcs_in claims))) × (e.to < length (states_from initial (states_in claims)))
  edge_in_range e m =
      let states = states_from initial (states_in claims) in
      let events = events_from (arcs_in claims) in
      let move = member_map edge_of e (moves_of (map (arc_move states events) (arcs_in claims))) m in
      let a = arc_of_move states events (arcs_in claims) arcs_numbered move.0 move.1 in
      let n = arcs_numbered a.0 a.1 in
      let same : edge_of (arc_move states events a.0) ≡ e = ap edge_of a.2 ∙ move.2 in
      subst (λ (x : Edge). (x.from < length states) × (x.event < length events) × (x.to < length states)) same
      ((number_at states a.0.from [] n.from).0, (number_at events a.0.event [] n.event).0, (number_at states a.0.to [] n.to).0)

  -- each event stands on an edge
  event_used : (event : ℕ) → event < length (events_from (arcs_in claims)) → Any (λ (e : Edge). e.event ≡ event) (map edge_of (moves_of (map (arc_move (states_from initial (states_in claims)) (events_from (arcs_in claims))) (arcs_in claims))))
  event_used event lt =
      let states = states_from initial (states_in claims) in
      let events = events_from (arcs_in claims) in
      let name = get_or events event [] in
      let a = event_arc name (member_at events event [] lt) in
      let has : number_in events a.0.event ≡ event = rw (a.2, place_of-at events event [] events_ascend lt) refl in
      let member = map_member edge_of (arc_move states events a.0) (moves_of (map (arc_move states events) (arcs_in claims))) (move_of_arc states events (arcs_in claims) arcs_numbered a.0 a.1) in
      let place = place_of_member (edge_of (arc_move states events a.0)) (map edge_of (moves_of (map (arc_move states events) (arcs_in claims)))) member in
      (place.0, edge_of (arc_move states events a.0), place.1, place.2, has)

-- moves in order are edges in order
keys_later : (moves : List Move) → KeysAscend moves → AllLater EdgeIsBefore (map edge_of moves)
keys_later [] h = tt
keys_later (m ∷ moves) h = (below moves h.0, keys_later moves h.1)
  where
    below : (ms : List Move) → AllByRecursion (λ b. KeyBelow m b) ms → AllByRecursion (λ e. EdgeIsBefore (edge_of m) e) (map edge_of ms)
    below [] k = tt
    below (x ∷ ms) k = (k.0, below ms k.1)

-- the initial state is none of the others
others_apart : (initial : List ℕ) (declared : List (List ℕ)) (s : List ℕ) → IsMember s (drop 1 (states_from initial declared)) → s ≢ get_or (states_from initial declared) 0 []
unfolding states_from
others_apart initial declared s m e =
    let kept = (member_filter (λ x. not (bytes_eq x initial)) s (ascending declared) m).1 in
    let apart : not true ≡ true = ap not (sym (name_test s initial e)) ∙ kept in
    cc

-- the others ascend
others_ascend : (initial : List ℕ) (declared : List (List ℕ)) → Ascends (slice_cmp nat_cmp) (drop 1 (states_from initial declared))
unfolding states_from
others_ascend initial declared = ascends_filter (slice_cmp nat_cmp) (λ s. not (bytes_eq s initial)) (ascending declared) (set_ascends declared)

-- there is a state
pub some_states : (initial : List ℕ) (declared : List (List ℕ)) → 1 ≤ length (states_from initial declared)
unfolding states_from
some_states initial declared = omega arith

-- some state is marked
marked_some : (bits : ℕ) → 0 < marked_or_initial bits
marked_some bits = go (bits == 0) refl
  where
    go : (t : Bool) → (bits == 0) ≡ t → 0 < cond t 1 bits
    go true h = omega arith
    go false h = grind (arith, nat_tests)

-- the marks are in range
marked_below : (bits n : ℕ) → 1 ≤ n → bits < 2 ^ n → marked_or_initial bits < 2 ^ n
marked_below bits zero some below = absurd (omega arith)
marked_below bits (suc n) some below = go (bits == 0)
  where
    one : (n : ℕ) → 1 < 2 ^ suc n
    one zero = omega arith
    one (suc n) = rw (pow-succ' 2 (suc n)) (omega (arith, one n))

    go : (t : Bool) → cond t 1 bits < 2 ^ suc n
    go true = one n
    go false = below

-- the automaton that is drawn
pub drawn_is_automaton : (claims : List Claim) (initial : List ℕ) → IsDrawn claims initial → has_conflict (arcs_in claims) ≡ false
    → length (states_from initial (states_in claims)) ≤ 31 → length (events_from (arcs_in claims)) ≤ 64 → IsAutomaton (machine_from claims initial)
unfolding machine_from
drawn_is_automaton claims initial h calm few_states few_events =
    let states = states_from initial (states_in claims) in
    let events = events_from (arcs_in claims) in
    let moves = moves_of (map (arc_move states events) (arcs_in claims)) in
    let no_clash : has_clash moves ≡ false = clash_is_conflict states events (arcs_in claims) (arcs_numbered claims initial h) ∙ calm in
    let bits = map (is_marked claims) states in
    let below : bits_of bits < 2 ^ length states = bits_below bits (length states) (omega (arith, length-map states (is_marked claims))) in
    record {
      some_state = some_states initial (states_in claims);
      few_states = few_states;
      few_events = few_events;
      states_named = all_members IsStateName states (state_named claims initial h);
      events_named = all_members (IsNameOf is_event_byte) events (event_is_named claims initial h);
      initial_once = all_members (λ s. s ≢ get_or states 0 []) (drop 1 states) (others_apart initial (states_in claims));
      states_ascend = pairs_from IsBefore (drop 1 states) (ascends_later (slice_cmp nat_cmp) (drop 1 states) (others_ascend initial (states_in claims)));
      events_ascend = pairs_from IsBefore events (ascends_later (slice_cmp nat_cmp) events (events_ascend claims initial h));
      in_range = all_members (λ e. (e.from < length states) × (e.event < length events) × (e.to < length states)) (map edge_of moves) (edge_in_range claims initial h);
      edges_ascend = pairs_from EdgeIsBefore (map edge_of moves) (keys_later moves (keys_ascend moves (moves_ascend (map (arc_move states events) (arcs_in claims))) no_clash));
      events_used = event_used claims initial h;
      some_mark = marked_some (bits_of bits);
      marks_in_range = marked_below (bits_of bits) (length states) (some_states initial (states_in claims)) below;
    }
