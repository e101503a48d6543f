-- What the definition gives is the automaton that the statements draw.
use Rattle.std.proofs.Common.{◌≡◌, ℕ, ◌≤◌, Bool, true, false, List, [], ◌∷◌, length, get_or, Option, Some, None, cond, refl, sym, ap, ◌∙◌, subst, inl, inr, arith}
use Rattle.std.specs.Prelude.{map, not, ◌&&◌, nat_lt, Result, Ok, Err}
use Rattle.std.specs.List.{list_all}
use Rattle.std.specs.Str.{bytes_eq}
use Rattle.std.proofs.lemmas.Bool.Decides.{nat_tests}
use Rattle.rv_text.specs.declared.refusals.Refusal.{Refusal}
use Rattle.rv_text.specs.declared.numbers.TheConstants.{DOT_SYNTAX, TWO_INITIALS, UNDECLARED_STATE, NOT_DETERMINISTIC, TOO_MANY_STATES, TOO_MANY_EVENTS}
use Rattle.rv_text.specs.Readings.{refused_with, and_then}
use Rattle.rv_model.specs.Machine.{Machine}
use Rattle.rv_model.specs.WellFormed.{IsAutomaton}
use Rattle.rv_dot.specs.declared.moves.Move.{Move}
use Rattle.rv_dot.specs.Text.{said_by}
use Rattle.rv_dot.specs.Statements.{Claim}
use Rattle.rv_dot.specs.Gathered.{Arc, states_in, targets_in, arcs_in, all_fit}
use Rattle.rv_dot.specs.Members.{IsMember}
use Rattle.rv_dot.specs.Sets.{stands_in, number_in}
use Rattle.rv_dot.specs.Moves.{moves_of, arc_move, edge_of}
use Rattle.rv_dot.specs.Canonical.{arc_named}
use Rattle.rv_dot.specs.Dot.{ends_declared, has_conflict, states_from, events_from, initial_of, machine_from, with_initial, machine_of, machine_said, dot_of}
use Rattle.rv_dot.specs.Drawn.{IsDrawnBy, IsDotOf}
use Rattle.rv_dot.proofs.AutomatonLaws.{IsDrawn, arcs_numbered, drawn_is_automaton}
use Rattle.rv_dot.proofs.ConflictLaws.{IsNumbered, arc_of_move, move_of_arc}
use Rattle.rv_dot.proofs.MemberLaws.{and_true, member_map, map_member, list_all_member}
use Rattle.rv_dot.proofs.NameSets.{set_members}
use Rattle.rv_dot.proofs.StandsLaws.{name_same, stands_member, member_states, states_member, number_at}

-- the one target
initial_given : (targets : List (List ℕ)) (first : List ℕ) → initial_of targets ≡ Ok first → IsMember first targets × ((t : List ℕ) → IsMember t targets → t ≡ first)
initial_given [] first h = absurd (cc)
initial_given (t ∷ targets) first h = go (list_all (bytes_eq t) targets) refl h
  where
    go : (b : Bool) → list_all (bytes_eq t) targets ≡ b → cond b (Ok t) (refused_with TWO_INITIALS) ≡ Ok first → IsMember first (t ∷ targets) × ((x : List ℕ) → IsMember x (t ∷ targets) → x ≡ first)
    go false e h = absurd (cc)
    go true e h =
        let same : t ≡ first = cc in
        (inl same, λ x m. elim m [ inl f ↦ sym f ∙ same | inr n ↦ sym (name_same t x (list_all_member (bytes_eq t) x targets e n)) ∙ same ])

-- what passed where an automaton was given
record Passed (claims : List Claim) (first : List ℕ) (a : Machine) : Type 0 where
  pub ends : (stands_in (states_in claims) first && list_all (ends_declared (states_in claims)) (arcs_in claims)) ≡ true
  pub calm : has_conflict (arcs_in claims) ≡ false
  pub states : nat_lt 31 (length (states_from first (states_in claims))) ≡ false
  pub events : nat_lt 64 (length (events_from (arcs_in claims))) ≡ false
  pub same : machine_from claims first ≡ a

-- an automaton is given where all tests pass
passed : (claims : List Claim) (first : List ℕ) (a : Machine) → with_initial claims first ≡ Ok a → Passed claims first a
unfolding with_initial
passed claims first a h =
    go (stands_in (states_in claims) first && list_all (ends_declared (states_in claims)) (arcs_in claims)) (has_conflict (arcs_in claims)) (nat_lt 31 (length (states_from first (states_in claims)))) (nat_lt 64 (length (events_from (arcs_in claims))))
    refl refl refl refl h
  where
    go : (p q r s : Bool) → (stands_in (states_in claims) first && list_all (ends_declared (states_in claims)) (arcs_in claims)) ≡ p → has_conflict (arcs_in claims) ≡ q
        → nat_lt 31 (length (states_from first (states_in claims))) ≡ r → nat_lt 64 (length (events_from (arcs_in claims))) ≡ s
        → cond (not p) (refused_with UNDECLARED_STATE) (cond q (refused_with NOT_DETERMINISTIC) (cond r (refused_with TOO_MANY_STATES) (cond s (refused_with TOO_MANY_EVENTS) (Ok (machine_from claims first))))) ≡ Ok a
        → Passed claims first a
    go false q r s e f g i h = absurd (cc)
    go true true r s e f g i h = absurd (cc)
    go true false true s e f g i h = absurd (cc)
    go true false false true e f g i h = absurd (cc)
    go true false false false e f g i h = record { ends = e; calm = f; states = g; events = i; same = cc }

-- an arc by the names of its numbers
arc_back : (states events : List (List ℕ)) (x : Arc) → IsNumbered states events x → arc_named states events (edge_of (arc_move states events x)) ≡ x
arc_back states events x n =
    let made : List ℕ → List ℕ → List ℕ → Arc = λ from event to. record { from = from; event = event; to = to } in
    let from = (number_at states x.from [] n.from).1 in
    let event = (number_at events x.event [] n.event).1 in
    let to = (number_at states x.to [] n.to).1 in
    ap (λ (f : List ℕ). made f (get_or events (number_in events x.event) []) (get_or states (number_in states x.to) [])) from
    ∙ ap (λ (e : List ℕ). made x.from e (get_or states (number_in states x.to) [])) event ∙ ap (made x.from x.event) to

-- the first state
first_of : (first : List ℕ) (declared : List (List ℕ)) → get_or (states_from first declared) 0 [] ≡ first
unfolding states_from
first_of first declared = refl

-- an automaton is drawn by the statements that it is made from
drawn_from : (claims : List Claim) (first : List ℕ) → IsDrawn claims first → IsMember first (targets_in claims) → ((t : List ℕ) → IsMember t (targets_in claims) → t ≡ first) → IsDrawnBy claims (machine_from claims first)
unfolding machine_from events_from
drawn_from claims first drawn some one =
    let states = states_from first (states_in claims) in
    let events = events_from (arcs_in claims) in
    let numbered_all = arcs_numbered claims first drawn in
    let moves = moves_of (map (arc_move states events) (arcs_in claims)) in
    let at_first = first_of first (states_in claims) in
    record {
      fit = drawn.fit;
      some_target = subst (λ t. IsMember t (targets_in claims)) (sym at_first) some;
      one_target = λ t m. one t m ∙ sym at_first;
      states = λ name. (member_states first (states_in claims) name (stands_member (states_in claims) first drawn.initial_declared), states_member first (states_in claims) name);
      events = λ name. set_members (map (λ (x : Arc). x.event) (arcs_in claims)) name;
      edges = λ x. (
        (λ m.
            let e = member_map (arc_named states events) x (map edge_of moves) m in
            let move = member_map edge_of e.0 moves e.1 in
            let arc = arc_of_move states events (arcs_in claims) numbered_all move.0 move.1 in
            let same : arc.0 ≡ x = sym (arc_back states events arc.0 (numbered_all arc.0 arc.1)) ∙ ap (λ (n : Move). arc_named states events (edge_of n)) arc.2 ∙ ap (arc_named states events) move.2 ∙ e.2 in
            subst (λ (y : Arc). IsMember y (arcs_in claims)) same arc.1),
        (λ m.
            subst (λ (y : Arc). IsMember y (map (arc_named states events) (map edge_of moves))) (arc_back states events x (numbered_all x m))
            (map_member (arc_named states events) (edge_of (arc_move states events x)) (map edge_of moves) (map_member edge_of (arc_move states events x) moves (move_of_arc states events (arcs_in claims) numbered_all x m)))),
      );
      marked = refl;
    }

-- no more than the most
within : (most n : ℕ) → nat_lt most n ≡ false → n ≤ most
within most n h = grind (arith, nat_tests)

-- what statements give is what they draw
claims_sound : (claims : List Claim) (a : Machine) → machine_of claims ≡ Ok a → IsAutomaton a × IsDrawnBy claims a
unfolding machine_of
claims_sound claims a h = go (all_fit claims) (initial_of (targets_in claims)) refl refl h
  where
    go : (t : Bool) (r : Result (List ℕ) Refusal) → all_fit claims ≡ t → initial_of (targets_in claims) ≡ r → cond t (and_then r (with_initial claims)) (refused_with DOT_SYNTAX) ≡ Ok a → IsAutomaton a × IsDrawnBy claims a
    go false r e f h = absurd (cc)
    go true (Err refusal) e f h = absurd (cc)
    go true (Ok first) e f h =
        let p = passed claims first a h in
        let targets = initial_given (targets_in claims) first f in
        let ends = and_true (stands_in (states_in claims) first) (list_all (ends_declared (states_in claims)) (arcs_in claims)) p.ends in
        let drawn : IsDrawn claims first = record { fit = e; initial_declared = ends.0; ends = ends.1 } in (
          subst IsAutomaton p.same (drawn_is_automaton claims first drawn p.calm (within 31 (length (states_from first (states_in claims))) p.states) (within 64 (length (events_from (arcs_in claims))) p.events)),
          subst (IsDrawnBy claims) p.same (drawn_from claims first drawn targets.0 targets.1),
        )

-- the definition's automaton is that of the text by its properties
pub dot_sound : (bytes : List ℕ) (a : Machine) → dot_of bytes ≡ Ok a → IsDotOf bytes a
unfolding dot_of
dot_sound bytes a h = go (nat_lt 1048576 (length bytes)) (said_by bytes) refl refl h
  where
    go : (t : Bool) (o : Option (List Claim)) → nat_lt 1048576 (length bytes) ≡ t → said_by bytes ≡ o → cond t (refused_with DOT_SYNTAX) (machine_said o) ≡ Ok a → IsDotOf bytes a
    go true o e f h = absurd (cc)
    go false None e f h = absurd (cc)
    go false (Some claims) e f h = let both = claims_sound claims a h in record { few_bytes = within 1048576 (length bytes) e; claims = claims; said = f; keeps = both.0; drawn = both.1 }
