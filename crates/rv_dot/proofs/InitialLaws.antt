-- The later refusals in their order, as a reader with a numbering of the names finds them.
use Rattle.std.proofs.Common.{◌≡◌, ℕ, ◌<◌, ◌≤◌, Bool, true, false, List, ◌∷◌, length, Option, refl, sym, ap, ◌∙◌, subst, arith, Bor}
use Rattle.std.specs.Prelude.{map, not, nat_lt, Ok, All}
use Rattle.std.specs.Cmp.Lexicographic.{slice_cmp}
use Rattle.std.specs.Ordering.{nat_cmp}
use Rattle.std.proofs.lemmas.List.{length-map}
use Rattle.rv_model.specs.declared.automaton.Edge.{Edge}
use Rattle.std.specs.List.{filter, list_all}
use Rattle.std.specs.Option.{is_some}
use Rattle.std.specs.Str.{bytes_eq}
use Rattle.std.proofs.lemmas.Bool.Decides.{nat_tests}
use Rattle.rv_text.specs.declared.numbers.TheConstants.{UNDECLARED_STATE, NOT_DETERMINISTIC, TOO_MANY_STATES, TOO_MANY_EVENTS}
use Rattle.rv_text.specs.Readings.{refused_with}
use Rattle.rv_model.specs.Machine.{Machine}
use Rattle.rv_model.specs.WellFormed.{IsAutomaton}
use Rattle.rv_dot.specs.declared.moves.Move.{Move}
use Rattle.rv_dot.specs.Statements.{Claim}
use Rattle.rv_dot.specs.Gathered.{Arc, states_in, arcs_in, all_fit, is_marked}
use Rattle.rv_dot.specs.Sets.{ascending, stands_in, place_of}
use Rattle.rv_dot.specs.inner.Held.{bytes_of}
use Rattle.rv_text.specs.inner.Ascending.{Ascends}
use Rattle.rv_dot.specs.Moves.{moves_of, arc_move, edge_of}
use Rattle.rv_dot.specs.inner.Clashes.{has_clash}
use Rattle.rv_dot.specs.Dot.{ends_declared, has_conflict, states_from, events_from, bits_of, marked_or_initial, machine_from, with_initial}
use Rattle.rv_dot.proofs.AutomatonLaws.{IsDrawn, arcs_numbered, drawn_is_automaton}
use Rattle.rv_dot.proofs.ConflictLaws.{clash_is_conflict}
use Rattle.rv_dot.proofs.MemberLaws.{list_all_same, ascends_filter, all_members, all_member, map_member}
use Rattle.rv_dot.proofs.NameSets.{set_ascends}
use Rattle.rv_dot.proofs.StandsLaws.{stands_in_set, stands_in_states}

-- more than the most
above : (most n : ℕ) → most < n → nat_lt most n ≡ true
above most n h = grind (arith, nat_tests)

-- no more than the most
within : (most n : ℕ) → n ≤ most → nat_lt most n ≡ false
within most n h = grind (arith, nat_tests)

-- an initial name without a place among the declared ones is refused
pub first_refused : (claims : List Claim) (first : List ℕ) → stands_in (ascending (states_in claims)) first ≡ false → with_initial claims first ≡ refused_with UNDECLARED_STATE
unfolding with_initial
first_refused claims first h =
    let none : stands_in (states_in claims) first ≡ false = sym (stands_in_set (states_in claims) first) ∙ h in
    rw none refl

-- an initial name with a place there is declared
pub first_stands : (claims : List Claim) (first : List ℕ) → stands_in (ascending (states_in claims)) first ≡ true → stands_in (states_in claims) first ≡ true
first_stands claims first h = sym (stands_in_set (states_in claims) first) ∙ h

-- the first state and the others kept of the set are the states
pub states_are : (claims : List Claim) (first : List ℕ) (others : List (List ℕ)) → others ≡ filter (λ s. not (bytes_eq s first)) (ascending (states_in claims)) → first ∷ others ≡ states_from first (states_in claims)
unfolding states_from
states_are claims first others e = ap (λ (os : List (List ℕ)). first ∷ os) e

module _ (claims : List Claim) (first : List ℕ) (states events : List (List ℕ)) (arcs : List Arc)
    (are_states : states ≡ states_from first (states_in claims)) (are_events : events ≡ events_from (arcs_in claims)) (are_arcs : arcs ≡ arcs_in claims)
    (stands : stands_in (states_in claims) first ≡ true) where
  -- ends among states are declared
  ends_are : list_all (ends_declared states) arcs ≡ list_all (ends_declared (states_in claims)) (arcs_in claims)
  ends_are = rw (are_states, are_arcs) (list_all_same (ends_declared (states_from first (states_in claims))) (ends_declared (states_in claims)) (arcs_in claims) same)
    where
      same : (a : Arc) → ends_declared (states_from first (states_in claims)) a ≡ ends_declared (states_in claims) a
      same a = rw (stands_in_states first (states_in claims) stands a.from, stands_in_states first (states_in claims) stands a.to) refl

  -- an end that is no state is refused
  pub ends_refused : list_all (ends_declared states) arcs ≡ false → with_initial claims first ≡ refused_with UNDECLARED_STATE
  unfolding with_initial
  ends_refused h = let ends : list_all (ends_declared (states_in claims)) (arcs_in claims) ≡ false = sym ends_are ∙ h in rw (stands, ends) refl

  -- statements that pass the tests so far
  pub is_drawn : all_fit claims ≡ true → list_all (ends_declared states) arcs ≡ true → IsDrawn claims first
  is_drawn fit h = record { fit = fit; initial_declared = stands; ends = sym ends_are ∙ h }

  -- a clash is a conflict
  clash_is : IsDrawn claims first → has_clash (moves_of (map (arc_move states events) arcs)) ≡ has_conflict (arcs_in claims)
  clash_is drawn = rw (are_states, are_events, are_arcs) (clash_is_conflict (states_from first (states_in claims)) (events_from (arcs_in claims)) (arcs_in claims) (arcs_numbered claims first drawn))

  -- a clash is refused
  pub clash_refused : IsDrawn claims first → has_clash (moves_of (map (arc_move states events) arcs)) ≡ true → with_initial claims first ≡ refused_with NOT_DETERMINISTIC
  unfolding with_initial
  clash_refused drawn h = let conflict : has_conflict (arcs_in claims) ≡ true = sym (clash_is drawn) ∙ h in rw (stands, drawn.ends, conflict) refl

  module _ (drawn : IsDrawn claims first) (calm : has_clash (moves_of (map (arc_move states events) arcs)) ≡ false) where
    no_conflict : has_conflict (arcs_in claims) ≡ false
    no_conflict = sym (clash_is drawn) ∙ calm

    -- too many states are refused
    pub states_refused : 31 < length states → with_initial claims first ≡ refused_with TOO_MANY_STATES
    unfolding with_initial
    states_refused many =
        let test : nat_lt 31 (length (states_from first (states_in claims))) ≡ true = sym (ap (λ (ns : List (List ℕ)). nat_lt 31 (length ns)) are_states) ∙ above 31 (length states) many in
        rw (stands, drawn.ends, no_conflict, test) refl

    few_states : length states ≤ 31 → nat_lt 31 (length (states_from first (states_in claims))) ≡ false
    few_states few = sym (ap (λ (ns : List (List ℕ)). nat_lt 31 (length ns)) are_states) ∙ within 31 (length states) few

    -- too many events are refused
    pub events_refused : length states ≤ 31 → 64 < length events → with_initial claims first ≡ refused_with TOO_MANY_EVENTS
    unfolding with_initial
    events_refused few many =
        let test : nat_lt 64 (length (events_from (arcs_in claims))) ≡ true = sym (ap (λ (ns : List (List ℕ)). nat_lt 64 (length ns)) are_events) ∙ above 64 (length events) many in
        rw (stands, drawn.ends, no_conflict, few_states few, test) refl

    -- else there is an automaton
    pub machine_given : length states ≤ 31 → length events ≤ 64 → with_initial claims first ≡ Ok (machine_from claims first)
    unfolding with_initial
    machine_given few few_events =
        let test : nat_lt 64 (length (events_from (arcs_in claims))) ≡ false = sym (ap (λ (ns : List (List ℕ)). nat_lt 64 (length ns)) are_events) ∙ within 64 (length events) few_events in
        rw (stands, drawn.ends, no_conflict, few_states few, test) refl

    -- which keeps what an automaton keeps
    pub machine_keeps : length states ≤ 31 → length events ≤ 64 → IsAutomaton (machine_from claims first)
    machine_keeps few few_events =
        drawn_is_automaton claims first drawn no_conflict (subst (λ (ns : List (List ℕ)). length ns ≤ 31) are_states few) (subst (λ (ns : List (List ℕ)). length ns ≤ 64) are_events few_events)

  -- the automaton with these names and moves
  abbrev pub made : List (List ℕ) → List (List ℕ) → List Move → Machine
  made ss es ms = record { states = ss; events = es; edges = map edge_of ms; marked = marked_or_initial (bits_of (map (is_marked claims) ss)) }

  -- it is the automaton that the definition draws
  pub machine_is : (moves : List Move) → moves ≡ moves_of (map (arc_move states events) arcs) → made states events moves ≡ machine_from claims first
  unfolding machine_from
  machine_is moves are_moves = rw (are_moves, are_states, are_events, are_arcs) refl

-- a name without a place stands in no list
pub no_place : (place : Option ℕ) (names : List (List ℕ)) (name : List ℕ) → place ≡ place_of name names → is_some place ≡ false → stands_in names name ≡ false
no_place place names name e h = sym (ap is_some e) ∙ h

-- the answer of `is_none`
pub none_test : (place : Option ℕ) (answer : Bool) → is_some place ≡ not answer → answer ≡ true → is_some place ≡ false
none_test place answer e h = e ∙ ap not h

-- a place that is there
pub some_test : (place : Option ℕ) (answer : Bool) → is_some place ≡ not answer → answer ≡ false → is_some place ≡ true
some_test place answer e h = e ∙ ap not h

-- the events ascend
pub events_up : (arcs : List Arc) (events : List (List ℕ)) → events ≡ events_from arcs → Ascends (slice_cmp nat_cmp) events
unfolding events_from
events_up arcs events e = subst (Ascends (slice_cmp nat_cmp)) (sym e) (set_ascends (map (λ a. a.event) arcs))

-- what is kept of the declared names ascends
pub others_up : (names : List (List ℕ)) (first : List ℕ) (others : List (List ℕ)) → others ≡ filter (λ s. not (bytes_eq s first)) (ascending names) → Ascends (slice_cmp nat_cmp) others
others_up names first others e = subst (Ascends (slice_cmp nat_cmp)) (sym e) (ascends_filter (slice_cmp nat_cmp) (λ s. not (bytes_eq s first)) (ascending names) (set_ascends names))

-- 31 others and the first are too many
pub many_states : (first : List ℕ) (others : List (Bor (List ℕ))) → 31 ≤ length others → 31 < length (first ∷ map bytes_of others)
many_states first others h = omega (arith, length-map others bytes_of)

-- fewer are few
pub few_states_of : (first : List ℕ) (others : List (Bor (List ℕ))) → length others < 31 → length (first ∷ map bytes_of others) ≤ 31
few_states_of first others h = omega (arith, length-map others bytes_of)

-- numbers of states and events are small
pub small_moves : (moves : List Move) (states events : ℕ) → states ≤ 31 → events ≤ 64 → All (λ (e : Edge). (e.from < states) × (e.event < events) × (e.to < states)) (map edge_of moves) → All (λ (m : Move). (m.from < 256) × (m.event < 256) × (m.to < 256)) moves
small_moves moves states events few_states few_events all =
    all_members (λ (m : Move). (m.from < 256) × (m.event < 256) × (m.to < 256)) moves
    (λ m h. let at = all_member (λ (e : Edge). (e.from < states) × (e.event < events) × (e.to < states)) (map edge_of moves) (edge_of m) all (map_member edge_of m moves h) in
    (omega (arith, at.0), omega (arith, at.1), omega (arith, at.2)))
