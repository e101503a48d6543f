-- What an automaton keeps, on its lists.
use Rattle.std.proofs.Common.{◌≡◌, ℕ, zero, suc, ◌<◌, Bool, true, false, List, [], ◌∷◌, length, get_or, drop, Some, refl, sym, ap, ◌∙◌, subst, inl, inr, arith}
use Rattle.std.specs.Prelude.{map, not, ◌≢◌}
use Rattle.std.specs.List.{filter}
use Rattle.std.specs.Cmp.Lexicographic.{slice_cmp, nat_list_cmp_total}
use Rattle.std.specs.Ordering.{nat_cmp}
use Rattle.std.specs.Str.{bytes_eq}
use Rattle.rv_model.specs.declared.automaton.Edge.{Edge}
use Rattle.rv_model.specs.Machine.{Machine}
use Rattle.rv_model.specs.WellFormed.{EdgeIsBefore, IsAutomaton}
use Rattle.rv_dot.specs.Gathered.{Arc}
use Rattle.rv_text.specs.inner.Ascending.{Ascends}
use Rattle.rv_dot.specs.Members.{IsMember}
use Rattle.rv_dot.specs.Sets.{ascending, place_of, number_in}
use Rattle.rv_dot.specs.Moves.{moves_of, arc_move}
use Rattle.rv_dot.specs.Dot.{states_from, events_from}
use Rattle.rv_dot.specs.Canonical.{arc_named}
use Rattle.rv_dot.proofs.MemberLaws.{AllLater, member_at, member_filter, filter_member, member_map, map_member, all_member, place_of_member, ascends_filter}
use Rattle.rv_dot.proofs.NameSets.{same_name, set_ascends, set_members, set_is_only}
use Rattle.rv_dot.proofs.SetOrder.{one_list}
use Rattle.rv_dot.proofs.StandsLaws.{name_same, name_test, place_of-at}
use Rattle.rv_dot.proofs.OrderLaws.{ascends_from, later_from, move_of, moves_only, split_first}

module _ (a : Machine) (h : IsAutomaton a) where
  -- the others ascend
  others_up : Ascends (slice_cmp nat_cmp) (drop 1 a.states)
  others_up = ascends_from (drop 1 a.states) h.states_ascend

  -- the events ascend
  pub events_up : Ascends (slice_cmp nat_cmp) a.events
  events_up = ascends_from a.events h.events_ascend

  -- the edges ascend at all pairs
  pub edges_later : AllLater EdgeIsBefore a.edges
  edges_later = later_from EdgeIsBefore a.edges h.edges_ascend

  -- the initial state is none of the others
  initial_apart : (s : List ℕ) → IsMember s (drop 1 a.states) → bytes_eq (get_or a.states 0 []) s ≡ false
  initial_apart s m = go (bytes_eq (get_or a.states 0 []) s) refl
    where
      go : (t : Bool) → bytes_eq (get_or a.states 0 []) s ≡ t → t ≡ false
      go true e = absurd (all_member (λ x. x ≢ get_or a.states 0 []) (drop 1 a.states) s h.initial_once m (sym (name_same (get_or a.states 0 []) s e)))
      go false e = refl

  -- each state has its place
  place_behind : (k : ℕ) → k < length (get_or a.states 0 [] ∷ drop 1 a.states) → place_of (get_or (get_or a.states 0 [] ∷ drop 1 a.states) k []) (get_or a.states 0 [] ∷ drop 1 a.states) ≡ Some k
  unfolding place_of
  place_behind zero lt = rw (name_test (get_or a.states 0 []) (get_or a.states 0 []) refl) refl
  place_behind (suc k) lt =
      let within : k < length (drop 1 a.states) = omega arith in
      rw (initial_apart (get_or (drop 1 a.states) k []) (member_at (drop 1 a.states) k [] within), place_of-at (drop 1 a.states) k [] others_up within) (ap Some (omega arith))

  -- a state has its place as its number
  pub state_number : (k : ℕ) → k < length a.states → number_in a.states (get_or a.states k []) ≡ k
  state_number k lt =
      let split = split_first a.states h.some_state in
      let at = place_behind k (subst (λ (ns : List (List ℕ)). k < length ns) split lt) in
      rw (subst (λ (ns : List (List ℕ)). place_of (get_or ns k []) ns ≡ Some k) (sym split) at) refl

  -- an event has its place as its number
  pub event_number : (k : ℕ) → k < length a.events → number_in a.events (get_or a.events k []) ≡ k
  event_number k lt = rw (place_of-at a.events k [] events_up lt) refl

  -- an edge by its names has its numbers
  pub arc_number : (e : Edge) → IsMember e a.edges → arc_move a.states a.events (arc_named a.states a.events e) ≡ move_of e
  arc_number e m =
      let in_range = all_member (λ (x : Edge). (x.from < length a.states) × (x.event < length a.events) × (x.to < length a.states)) a.edges e h.in_range m in
      rw (state_number e.from in_range.0, event_number e.event in_range.1, state_number e.to in_range.2) refl

  -- the states are the ones that are read
  pub states_again : states_from (get_or a.states 0 []) a.states ≡ a.states
  unfolding states_from
  states_again =
      let initial = get_or a.states 0 [] in
      let others = drop 1 a.states in
      let split = split_first a.states h.some_state in
      let keep : List ℕ → Bool = λ s. not (bytes_eq s initial) in
      let kept : filter keep (ascending a.states) ≡ others =
      one_list (slice_cmp nat_cmp) nat_list_cmp_total same_name (filter keep (ascending a.states)) others (ascends_filter (slice_cmp nat_cmp) keep (ascending a.states) (set_ascends a.states)) others_up
      (λ s m. let k = member_filter keep s (ascending a.states) m in behind s (subst (λ (ns : List (List ℕ)). IsMember s ns) split ((set_members a.states s).0 k.0)) k.1)
      (λ s m. filter_member keep s (ascending a.states) ((set_members a.states s).1 (subst (λ (ns : List (List ℕ)). IsMember s ns) (sym split) (inr m))) (ap not (apart s m))) in
      ap (λ (ns : List (List ℕ)). initial ∷ ns) kept ∙ sym split
    where
      behind : (s : List ℕ) → IsMember s (get_or a.states 0 [] ∷ drop 1 a.states) → not (bytes_eq s (get_or a.states 0 [])) ≡ true → IsMember s (drop 1 a.states)
      behind s m k = elim m [
        | inl e ↦ absurd (let both : not true ≡ true = ap not (sym (name_test s (get_or a.states 0 []) (sym e))) ∙ k in cc)
        | inr n ↦ n
      ]

      apart : (s : List ℕ) → IsMember s (drop 1 a.states) → bytes_eq s (get_or a.states 0 []) ≡ false
      apart s m = go (bytes_eq s (get_or a.states 0 [])) refl
        where
          go : (t : Bool) → bytes_eq s (get_or a.states 0 []) ≡ t → t ≡ false
          go true e = absurd (all_member (λ x. x ≢ get_or a.states 0 []) (drop 1 a.states) s h.initial_once m (name_same s (get_or a.states 0 []) e))
          go false e = refl

  -- the events are the ones that are read
  pub events_again : events_from (map (arc_named a.states a.events) a.edges) ≡ a.events
  unfolding events_from
  events_again =
      let arcs = map (arc_named a.states a.events) a.edges in
      let names = map (λ (x : Arc). x.event) arcs in
      sym (set_is_only names a.events events_up (λ name. (used name, known name)))
    where
      used : (name : List ℕ) → IsMember name a.events → IsMember name (map (λ (x : Arc). x.event) (map (arc_named a.states a.events) a.edges))
      used name m =
          let place = place_of_member name a.events m in
          let edge = h.events_used place.0 place.1 in
          let e = edge.1 in
          let has : IsMember e a.edges = subst (λ (x : Edge). IsMember x a.edges) edge.3 (member_at a.edges edge.0 e edge.2) in
          let same : get_or a.events e.event [] ≡ name = ap (λ (k : ℕ). get_or a.events k []) edge.4 ∙ default a.events place.0 place.1 name place.2 in
          subst (λ (n : List ℕ). IsMember n (map (λ (x : Arc). x.event) (map (arc_named a.states a.events) a.edges))) same (map_member (λ (x : Arc). x.event) (arc_named a.states a.events e) (map (arc_named a.states a.events) a.edges) (map_member (arc_named a.states a.events) e a.edges has))
        where
          default : (names : List (List ℕ)) (k : ℕ) → k < length names → (name : List ℕ) → get_or names k name ≡ name → get_or names k [] ≡ name
          default [] k lt name e = absurd (omega arith)
          default (n ∷ names) zero lt name e = e
          default (n ∷ names) (suc k) lt name e = default names k (omega arith) name e

      known : (name : List ℕ) → IsMember name (map (λ (x : Arc). x.event) (map (arc_named a.states a.events) a.edges)) → IsMember name a.events
      known name m =
          let arc = member_map (λ (x : Arc). x.event) name (map (arc_named a.states a.events) a.edges) m in
          let edge = member_map (arc_named a.states a.events) arc.0 a.edges arc.1 in
          let in_range = all_member (λ (x : Edge). (x.from < length a.states) × (x.event < length a.events) × (x.to < length a.states)) a.edges edge.0 h.in_range edge.1 in
          let same : get_or a.events edge.0.event [] ≡ name = ap (λ (x : Arc). x.event) edge.2 ∙ arc.2 in
          subst (λ (n : List ℕ). IsMember n a.events) same (member_at a.events edge.0.event [] in_range.1)

  -- the moves of the arcs are those of the edges
  pub moves_again : moves_of (map (arc_move a.states a.events) (map (arc_named a.states a.events) a.edges)) ≡ map move_of a.edges
  moves_again = ap moves_of (each a.edges (λ e m. m)) ∙ moves_only a.edges edges_later
    where
      each : (es : List Edge) → ((e : Edge) → IsMember e es → IsMember e a.edges) → map (arc_move a.states a.events) (map (arc_named a.states a.events) es) ≡ map move_of es
      each [] f = refl
      each (e ∷ es) f = rw (arc_number e (f e (inl refl)), each es (λ x m. f x (inr m))) refl
