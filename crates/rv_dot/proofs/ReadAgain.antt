-- The canonical text of an automaton is read as the automaton.
use Rattle.std.proofs.Common.{◌≡◌, ℕ, ◌<◌, Bool, true, false, List, [], ◌∷◌, length, get_or, drop, Some, refl, sym, ap, ◌∙◌, subst, arith}
use Rattle.std.specs.Prelude.{map, ◌==◌, ◌/◌, ◌≢◌, Ok}
use Rattle.std.specs.List.{AllByRecursion, list_all}
use Rattle.std.specs.Str.{bytes_eq}
use Rattle.std.specs.Cmp.Lexicographic.{slice_cmp}
use Rattle.std.specs.Ordering.{nat_cmp}
use Rattle.std.specs.declared.cmp.Ordering.TheVariants.{Less}
use Rattle.std.proofs.lemmas.Bool.Decides.{nat_tests}
use Rattle.rv_model.specs.declared.automaton.Edge.{Edge}
use Rattle.rv_model.specs.Machine.{Machine}
use Rattle.rv_model.specs.WellFormed.{IsNameOf, IsStateName, IsAutomaton, is_event_byte}
use Rattle.rv_dot.specs.Statements.{Claim}
use Rattle.rv_dot.specs.Gathered.{Arc, states_in, arcs_in, is_marked}
use Rattle.rv_text.specs.inner.Ascending.{Ascends}
use Rattle.rv_dot.specs.Members.{IsMember}
use Rattle.rv_dot.specs.Sets.{stands_in}
use Rattle.rv_dot.specs.Moves.{moves_of, arc_move, edge_of}
use Rattle.rv_dot.specs.inner.Clashes.{has_clash}
use Rattle.rv_dot.specs.Canonical.{State, states_marked, arc_named, drawing_of, drawing_text, dot_text}
use Rattle.rv_dot.specs.Dot.{ends_declared, states_from, events_from, bits_of, marked_or_initial, initial_of, machine_of, dot_of}
use Rattle.rv_dot.proofs.CanonicalLaws.{names_marked}
use Rattle.rv_dot.proofs.DrawnAgain.{IsNamed, IsApart, arcs_read, states_read, targets_read, fit_read, marks_read, bits_again}
use Rattle.rv_dot.proofs.InitialLaws.{machine_given, is_drawn, machine_is}
use Rattle.rv_dot.proofs.Layouts.{claims_drawn}
use Rattle.rv_dot.proofs.MachineLaws.{edges_later, states_again, events_again, moves_again}
use Rattle.rv_dot.proofs.OrderLaws.{split_first, ascends_from, move_of, edges_back, calm_edges}
use Rattle.rv_dot.proofs.MemberLaws.{member_at, member_map, all_member, list_all_from}
use Rattle.rv_dot.proofs.PlainLaws.{state_plain, event_plain}
use Rattle.rv_dot.proofs.Places.{below_test}
use Rattle.rv_dot.proofs.PlainBytes.{IsPlain}
use Rattle.rv_dot.proofs.RoundTrip.{IsDrawing, text_says}
use Rattle.rv_dot.proofs.SetOrder.{all_from_members}
use Rattle.rv_dot.proofs.StandsLaws.{name_same, name_test, member_stands}
use Rattle.rv_dot.proofs.TextSize.{text_few}
use Rattle.rv_dot.proofs.WholeLaws.{from_initial, short_read}

-- what holds of the names holds of the states
all_states : (P : List ℕ → Type 0) (bits : ℕ) (names : List (List ℕ)) → AllByRecursion P names → AllByRecursion (λ (s : State). P s.name) (states_marked bits names)
all_states P bits [] h = tt
all_states P bits (n ∷ names) h = (h.0, all_states P (bits / 2) names h.1)

-- names of which each is apart from those behind it
abbrev NamesApart : List (List ℕ) → Type 0
NamesApart [] = Unit {0}
NamesApart (n ∷ names) = AllByRecursion (λ x. (bytes_eq n x ≡ false) × (bytes_eq x n ≡ false)) names × NamesApart names

-- states of apart names are apart
states_apart : (bits : ℕ) (names : List (List ℕ)) → NamesApart names → IsApart (states_marked bits names)
states_apart bits [] h = tt
states_apart bits (n ∷ names) h = (all_states (λ x. (bytes_eq n x ≡ false) × (bytes_eq x n ≡ false)) (bits / 2) names h.0, states_apart (bits / 2) names h.1)

-- names that fail the test are apart
apart_test : (x y : List ℕ) → x ≢ y → (bytes_eq x y ≡ false) × (bytes_eq y x ≡ false)
apart_test x y h = (go x y h, go y x (λ e. h (sym e)))
  where
    go : (x y : List ℕ) → x ≢ y → bytes_eq x y ≡ false
    go x y h = at (bytes_eq x y) refl
      where
        at : (t : Bool) → bytes_eq x y ≡ t → t ≡ false
        at true e = absurd (h (name_same x y e))
        at false e = refl

-- ascending names are apart
apart_below : (names : List (List ℕ)) → Ascends (slice_cmp nat_cmp) names → NamesApart names
apart_below [] h = tt
apart_below (n ∷ names) h = (go names h.0, apart_below names h.1)
  where
    go : (xs : List (List ℕ)) → AllByRecursion (λ y. slice_cmp nat_cmp n y ≡ Less) xs → AllByRecursion (λ x. (bytes_eq n x ≡ false) × (bytes_eq x n ≡ false)) xs
    go [] k = tt
    go (x ∷ xs) k = (apart_test n x (λ e. let same : bytes_eq n x ≡ true = name_test n x e in let both : true ≡ false = sym same ∙ below_test n x k.0 in absurd (cc)), go xs k.1)

module _ (a : Machine) (h : IsAutomaton a) where
  -- of the initial state
  initial : List ℕ
  initial = get_or a.states 0 []

  -- an edge has numbers in range
  in_range : (e : Edge) → IsMember e a.edges → (e.from < length a.states) × (e.event < length a.events) × (e.to < length a.states)
  in_range e m = all_member (λ (x : Edge). (x.from < length a.states) × (x.event < length a.events) × (x.to < length a.states)) a.edges e h.in_range m

  -- an arc comes of an edge
  arc_edge : (x : Arc) → IsMember x (drawing_of a).arcs → (e : Edge) × IsMember e a.edges × (arc_named a.states a.events e ≡ x)
  arc_edge x m = member_map (arc_named a.states a.events) x a.edges m

  -- the states have states' names
  states_named : AllByRecursion IsStateName a.states
  states_named = all_from_members IsStateName a.states (λ s m. all_member IsStateName a.states s h.states_named m)

  -- the names that are drawn are names of states and events
  is_named : IsNamed (drawing_of a)
  is_named = record {
    states = all_states IsStateName a.marked a.states states_named;
    arcs = all_from_members (λ x. IsStateName x.from × IsNameOf is_event_byte x.event × IsStateName x.to) (drawing_of a).arcs (λ x m.
        let e = arc_edge x m in
        let r = in_range e.0 e.1 in
        subst (λ (y : Arc). IsStateName y.from × IsNameOf is_event_byte y.event × IsStateName y.to) e.2 (h.states_named e.0.from [] r.0, h.events_named e.0.event [] r.1, h.states_named e.0.to [] r.2));
  }

  -- the drawing has plain names
  is_drawing : IsDrawing (drawing_of a)
  is_drawing = record {
    initial = state_plain (get_or a.states 0 []) (h.states_named 0 [] (omega (arith, h.some_state)));
    states = all_states IsPlain a.marked a.states (all_from_members IsPlain a.states (λ s m. state_plain s (all_member IsStateName a.states s h.states_named m)));
    arcs = all_from_members (λ x. IsPlain x.from × IsPlain x.event × IsPlain x.to) (drawing_of a).arcs (λ x m.
        let e = arc_edge x m in
        let r = in_range e.0 e.1 in
        subst (λ (y : Arc). IsPlain y.from × IsPlain y.event × IsPlain y.to) e.2 (state_plain (get_or a.states e.0.from []) (h.states_named e.0.from [] r.0), event_plain (get_or a.events e.0.event []) (h.events_named e.0.event [] r.1), state_plain (get_or a.states e.0.to []) (h.states_named e.0.to [] r.2)));
  }

  -- the states' names are apart
  names_apart : NamesApart a.states
  names_apart =
      subst NamesApart (sym (split_first a.states h.some_state)) (
        all_from_members (λ x. (bytes_eq (get_or a.states 0 []) x ≡ false) × (bytes_eq x (get_or a.states 0 []) ≡ false)) (drop 1 a.states) (λ x m. apart_test (get_or a.states 0 []) x (λ e. all_member (λ s. s ≢ get_or a.states 0 []) (drop 1 a.states) x h.initial_once m (sym e))),
        apart_below (drop 1 a.states) (ascends_from (drop 1 a.states) h.states_ascend),
      )

  -- what the text says
  claims : List Claim
  claims = claims_drawn (drawing_of a)

  -- the states that are read
  read_states : states_in claims ≡ a.states
  unfolding claims
  read_states = states_read (drawing_of a) is_named ∙ names_marked a.marked a.states

  -- the arcs that are read
  read_arcs : arcs_in claims ≡ map (arc_named a.states a.events) a.edges
  unfolding claims
  read_arcs = arcs_read (drawing_of a) is_named

  -- they are the states
  are_states : a.states ≡ states_from (get_or a.states 0 []) (states_in claims)
  are_states = sym (states_again a h) ∙ ap (states_from (get_or a.states 0 [])) (sym read_states)

  -- they are the events
  are_events : a.events ≡ events_from (arcs_in claims)
  are_events = sym (events_again a h) ∙ ap events_from (sym read_arcs)

  -- the initial state is declared
  first_stands : stands_in (states_in claims) (get_or a.states 0 []) ≡ true
  first_stands = ap (λ (ns : List (List ℕ)). stands_in ns (get_or a.states 0 [])) read_states ∙ member_stands a.states (get_or a.states 0 []) (member_at a.states 0 [] (omega (arith, h.some_state)))

  -- the ends are states
  ends_stand : list_all (ends_declared a.states) (map (arc_named a.states a.events) a.edges) ≡ true
  ends_stand = list_all_from (ends_declared a.states) (map (arc_named a.states a.events) a.edges) (λ x m.
      let e = arc_edge x m in
      let r = in_range e.0 e.1 in
      let from : stands_in a.states (get_or a.states e.0.from []) ≡ true = member_stands a.states (get_or a.states e.0.from []) (member_at a.states e.0.from [] r.0) in
      let to : stands_in a.states (get_or a.states e.0.to []) ≡ true = member_stands a.states (get_or a.states e.0.to []) (member_at a.states e.0.to [] r.2) in
      let both : ends_declared a.states (arc_named a.states a.events e.0) ≡ true = rw (from, to) refl in
      ap (ends_declared a.states) (sym e.2) ∙ both)

  -- the marks that are read
  read_marks : marked_or_initial (bits_of (map (is_marked claims) a.states)) ≡ a.marked
  unfolding claims
  read_marks =
      let marks : map (is_marked (claims_drawn (drawing_of a))) a.states ≡ map (λ (s : State). s.is_marked) (states_marked a.marked a.states) =
      ap (map (is_marked (claims_drawn (drawing_of a)))) (sym (names_marked a.marked a.states)) ∙ marks_read (drawing_of a) (states_apart a.marked a.states names_apart) in
      ap (λ (bs : List Bool). marked_or_initial (bits_of bs)) marks ∙ ap marked_or_initial (bits_again a.marked a.states h.marks_in_range) ∙ kept a.marked h.some_mark
    where
      kept : (bits : ℕ) → 0 < bits → marked_or_initial bits ≡ bits
      kept bits some = let test : (bits == 0) ≡ false = grind (arith, nat_tests) in rw test refl

  -- the moves that are read
  read_moves : map move_of a.edges ≡ moves_of (map (arc_move a.states a.events) (map (arc_named a.states a.events) a.edges))
  read_moves = sym (moves_again a h)

  -- without conflict
  calm : has_clash (moves_of (map (arc_move a.states a.events) (map (arc_named a.states a.events) a.edges))) ≡ false
  calm = ap has_clash (moves_again a h) ∙ calm_edges a.edges (edges_later a h)

  -- the statements give the automaton
  machine_again : machine_of claims ≡ Ok a
  unfolding claims
  machine_again =
      let first = get_or a.states 0 [] in
      let arcs = map (arc_named a.states a.events) a.edges in
      let fit = fit_read (drawing_of a) is_named in
      let start = from_initial claims first fit (ap initial_of (targets_read (drawing_of a) is_named)) in
      let drawn = is_drawn claims first a.states a.events arcs are_states are_events (sym read_arcs) first_stands fit ends_stand in
      let given = machine_given claims first a.states a.events arcs are_states are_events (sym read_arcs) first_stands drawn calm h.few_states h.few_events in
      let same = machine_is claims first a.states a.events arcs are_states are_events (sym read_arcs) first_stands (map move_of a.edges) read_moves in
      let built : Machine = record { states = a.states; events = a.events; edges = map edge_of (map move_of a.edges); marked = marked_or_initial (bits_of (map (is_marked claims) a.states)) } in
      let made : List Edge → ℕ → Machine = λ es m. record { states = a.states; events = a.events; edges = es; marked = m } in
      let whole : built ≡ a = ap (λ (es : List Edge). made es (marked_or_initial (bits_of (map (is_marked claims) a.states)))) (edges_back a.edges) ∙ ap (made a.edges) read_marks in
      start ∙ given ∙ ap Ok (sym same ∙ whole)

  -- the canonical text is read as the automaton
  pub read_again : dot_of (dot_text a) ≡ Ok a
  unfolding dot_text claims
  read_again = short_read (drawing_text (drawing_of a)) (Some claims) (text_few a h) (text_says (drawing_of a) is_drawing) ∙ machine_again
