use Rattle.std.proofs.Common.{◌≡◌, ◌≤◌, map, length, false, sym, ap, ◌∙◌, subst, arith}
use Rattle.std.specs.Prelude.{Ok}
use Rattle.std.proofs.lemmas.List.{length-map}
use Rattle.rv_model.specs.WellFormed.{IsAutomaton}
use Rattle.rv_dot.specs.inner.Held.{bytes_of, sayings_claims, arc}
use Rattle.rv_dot.specs.Moves.{moves_of, arc_move}
use Rattle.rv_dot.specs.inner.Clashes.{has_clash}
use Rattle.rv_dot.specs.inner.Numberings.{states_by, events_by}
use Rattle.rv_dot.proofs.InitialLaws.{ends_refused, is_drawn, clash_refused, states_refused, events_refused, machine_given, machine_keeps, machine_is, many_states, few_states_of}
use Rattle.rv_dot.proofs.reading.with_numbering.Goals as goal

pub returns-then-not-are_declared : goal.returns-then-not-are_declared
returns-then-not-are_declared c = rw c.refused.ensures (ends_refused (sayings_claims c.args.said.now) c.args.numbering.first.now (states_by c.args.numbering) (events_by c.args.numbering) (map arc c.args.arcs.now) c.requires.states c.requires.events c.requires.gathered c.requires.stands (sym c.are_declared.ensures ∙ c.if-not-are_declared.true))

pub returns-then-clash : goal.returns-then-clash
returns-then-clash c =
    let drawn = is_drawn (sayings_claims c.args.said.now) c.args.numbering.first.now (states_by c.args.numbering) (events_by c.args.numbering) (map arc c.args.arcs.now) c.requires.states c.requires.events c.requires.gathered c.requires.stands c.requires.fit (sym c.are_declared.ensures ∙ c.if-not-are_declared.false) in
    rw c.refused-then-clash.ensures (clash_refused (sayings_claims c.args.said.now) c.args.numbering.first.now (states_by c.args.numbering) (events_by c.args.numbering) (map arc c.args.arcs.now) c.requires.states c.requires.events c.requires.gathered c.requires.stands drawn (sym (c.clash.ensures ∙ ap has_clash (c.deref.ensures.value ∙ c.in_ok-moves.ensures)) ∙ c.if-clash.true))

pub returns-then-numbering-ge-MOST_STATES : goal.returns-then-numbering-ge-MOST_STATES
returns-then-numbering-ge-MOST_STATES c =
    let drawn = is_drawn (sayings_claims c.args.said.now) c.args.numbering.first.now (states_by c.args.numbering) (events_by c.args.numbering) (map arc c.args.arcs.now) c.requires.states c.requires.events c.requires.gathered c.requires.stands c.requires.fit (sym c.are_declared.ensures ∙ c.if-not-are_declared.false) in
    let calm : has_clash (moves_of (map (arc_move (states_by c.args.numbering) (events_by c.args.numbering)) (map arc c.args.arcs.now))) ≡ false = sym (c.clash.ensures ∙ ap has_clash (c.deref.ensures.value ∙ c.in_ok-moves.ensures)) ∙ c.if-clash.false in
    rw c.refused-then-numbering-ge-MOST_STATES.ensures (states_refused (sayings_claims c.args.said.now) c.args.numbering.first.now (states_by c.args.numbering) (events_by c.args.numbering) (map arc c.args.arcs.now) c.requires.states c.requires.events c.requires.gathered c.requires.stands drawn calm (many_states c.args.numbering.first.now c.args.numbering.others.now c.if-numbering-ge-MOST_STATES.true))

pub returns-then-numbering-gt-MOST_EVENTS : goal.returns-then-numbering-gt-MOST_EVENTS
returns-then-numbering-gt-MOST_EVENTS c =
    let drawn = is_drawn (sayings_claims c.args.said.now) c.args.numbering.first.now (states_by c.args.numbering) (events_by c.args.numbering) (map arc c.args.arcs.now) c.requires.states c.requires.events c.requires.gathered c.requires.stands c.requires.fit (sym c.are_declared.ensures ∙ c.if-not-are_declared.false) in
    let calm : has_clash (moves_of (map (arc_move (states_by c.args.numbering) (events_by c.args.numbering)) (map arc c.args.arcs.now))) ≡ false = sym (c.clash.ensures ∙ ap has_clash (c.deref.ensures.value ∙ c.in_ok-moves.ensures)) ∙ c.if-clash.false in
    let few : length (states_by c.args.numbering) ≤ 31 = few_states_of c.args.numbering.first.now c.args.numbering.others.now c.if-numbering-ge-MOST_STATES.false in
    rw c.refused-then-numbering-gt-MOST_EVENTS.ensures (events_refused (sayings_claims c.args.said.now) c.args.numbering.first.now (states_by c.args.numbering) (events_by c.args.numbering) (map arc c.args.arcs.now) c.requires.states c.requires.events c.requires.gathered c.requires.stands drawn calm few (omega (arith, length-map c.args.numbering.events.now bytes_of, c.if-numbering-gt-MOST_EVENTS.true)))

pub built-requires : goal.built-requires
built-requires c =
    let drawn = is_drawn (sayings_claims c.args.said.now) c.args.numbering.first.now (states_by c.args.numbering) (events_by c.args.numbering) (map arc c.args.arcs.now) c.requires.states c.requires.events c.requires.gathered c.requires.stands c.requires.fit (sym c.are_declared.ensures ∙ c.if-not-are_declared.false) in
    let calm : has_clash (moves_of (map (arc_move (states_by c.args.numbering) (events_by c.args.numbering)) (map arc c.args.arcs.now))) ≡ false = sym (c.clash.ensures ∙ ap has_clash (c.deref.ensures.value ∙ c.in_ok-moves.ensures)) ∙ c.if-clash.false in
    let few : length (states_by c.args.numbering) ≤ 31 = few_states_of c.args.numbering.first.now c.args.numbering.others.now c.if-numbering-ge-MOST_STATES.false in
    let few_events : length (events_by c.args.numbering) ≤ 64 = omega (arith, length-map c.args.numbering.events.now bytes_of, c.if-numbering-gt-MOST_EVENTS.false) in
    let same = machine_is (sayings_claims c.args.said.now) c.args.numbering.first.now (states_by c.args.numbering) (events_by c.args.numbering) (map arc c.args.arcs.now) c.requires.states c.requires.events c.requires.gathered c.requires.stands c.deref-2.result.now (c.deref-2.ensures.value ∙ c.in_ok-moves.ensures) in
    subst IsAutomaton (sym same) (machine_keeps (sayings_claims c.args.said.now) c.args.numbering.first.now (states_by c.args.numbering) (events_by c.args.numbering) (map arc c.args.arcs.now) c.requires.states c.requires.events c.requires.gathered c.requires.stands drawn calm few few_events)

pub returns : goal.returns
returns c =
    let drawn = is_drawn (sayings_claims c.args.said.now) c.args.numbering.first.now (states_by c.args.numbering) (events_by c.args.numbering) (map arc c.args.arcs.now) c.requires.states c.requires.events c.requires.gathered c.requires.stands c.requires.fit (sym c.are_declared.ensures ∙ c.if-not-are_declared.false) in
    let calm : has_clash (moves_of (map (arc_move (states_by c.args.numbering) (events_by c.args.numbering)) (map arc c.args.arcs.now))) ≡ false = sym (c.clash.ensures ∙ ap has_clash (c.deref.ensures.value ∙ c.in_ok-moves.ensures)) ∙ c.if-clash.false in
    let few : length (states_by c.args.numbering) ≤ 31 = few_states_of c.args.numbering.first.now c.args.numbering.others.now c.if-numbering-ge-MOST_STATES.false in
    let few_events : length (events_by c.args.numbering) ≤ 64 = omega (arith, length-map c.args.numbering.events.now bytes_of, c.if-numbering-gt-MOST_EVENTS.false) in
    let same = machine_is (sayings_claims c.args.said.now) c.args.numbering.first.now (states_by c.args.numbering) (events_by c.args.numbering) (map arc c.args.arcs.now) c.requires.states c.requires.events c.requires.gathered c.requires.stands c.deref-2.result.now (c.deref-2.ensures.value ∙ c.in_ok-moves.ensures) in
    machine_given (sayings_claims c.args.said.now) c.args.numbering.first.now (states_by c.args.numbering) (events_by c.args.numbering) (map arc c.args.arcs.now) c.requires.states c.requires.events c.requires.gathered c.requires.stands drawn calm few few_events ∙ ap Ok (sym same ∙ sym c.in_ok-built.ensures)
