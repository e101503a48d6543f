use Rattle.std.proofs.Common.{◌≡◌, ◌<◌, ℕ, List, length, get_or, take, Some, rules, sym, ap, ◌∙◌, subst, arith}
use Rattle.std.specs.Prelude.{slice_get}
use Rattle.std.proofs.lemmas.List.{take_all}
use Rattle.std.proofs.lemmas.Option.{get_or_from_slice_get, slice_get-get_or, slice_get_within}
use Rattle.std.specs.List.{list_all}
use Rattle.rv_bind.specs.RuleValues.{OnValue}
use Rattle.rv_route.specs.Asking.{holds}
use Rattle.rv_route.specs.Events.{places_on}
use Rattle.rv_matches.specs.declared.rule_lines.RuleLine.{RuleLine}
use Rattle.rv_matches.specs.RuleLines.{IsByTests}
use Rattle.rv_matches.specs.inner.RuleSteps.{CountsEventLine}
use Rattle.rv_matches.proofs.EventLineLemmas.{all_counted, kept_more, passed_more}
use Rattle.rv_matches.proofs.PlaceLemmas.{fits_at, fits_length, fits_set, is_place}
use Rattle.rv_matches.proofs.PlainLemmas.{step_at}
use Rattle.rv_matches.proofs.plain_events.add_plain.Goals as goal

pub bounds-counts-place : goal.bounds-counts-place
bounds-counts-place c =
    let all = c.args.rules.now in
    let counts = c.loop-place.counts in
    let list = c.deref-place-items.result.now in
    let place = get_or list c.loop-place.place-index 0 in
    let at = step_at all c.args.event.now list c.loop-place.place-index place c.requires.event c.deref-place-items.ensures.value (slice_get-get_or list c.loop-place.place-index 0 (omega arith)) in
    let inside : place < length all = slice_get_within all place at.rule at.there in
    let many : length all ≡ length counts = fits_length IsByTests all counts c.loop-place.invariant.places in
    let within : place < length counts = omega arith in
    within

pub offset_bounds-counts-place : goal.offset_bounds-counts-place
offset_bounds-counts-place c =
    let all = c.args.rules.now in
    let counts = c.loop-place.counts in
    let list = c.deref-place-items.result.now in
    let place = get_or list c.loop-place.place-index 0 in
    let at = step_at all c.args.event.now list c.loop-place.place-index place c.requires.event c.deref-place-items.ensures.value (slice_get-get_or list c.loop-place.place-index 0 (omega arith)) in
    let inside : place < length all = slice_get_within all place at.rule at.there in
    let many : length all ≡ length counts = fits_length IsByTests all counts c.loop-place.invariant.places in
    let within : place < length counts = omega arith in
    search rules

pub returns-in_err-add_fired-clause-places : goal.returns-in_err-add_fired-clause-places
returns-in_err-add_fired-clause-places c =
    let all = c.args.rules.now in
    let counts = c.loop-place.counts in
    let list = c.deref-place-items.result.now in
    let place = get_or list c.loop-place.place-index 0 in
    let at = step_at all c.args.event.now list c.loop-place.place-index place c.requires.event c.deref-place-items.ensures.value (slice_get-get_or list c.loop-place.place-index 0 (omega arith)) in
    let inside : place < length all = slice_get_within all place at.rule at.there in
    let many : length all ≡ length counts = fits_length IsByTests all counts c.loop-place.invariant.places in
    let within : place < length counts = omega arith in
    let old : RuleLine = get_or counts place c.index-counts-place.result in
    let was : IsByTests at.rule old = fits_at IsByTests all counts place at.rule old c.loop-place.invariant.places at.there (slice_get-get_or counts place c.index-counts-place.result within) in
    fits_set IsByTests all counts place at.rule c.add_fired.new.count c.loop-place.invariant.places at.there (c.add_fired.ensures.places at.rule was)

pub loop-place-preserved : goal.loop-place-preserved
loop-place-preserved c =
    let all = c.args.rules.now in
    let counts = c.loop-place.counts in
    let i = c.loop-place.place-index in
    let list = c.deref-place-items.result.now in
    let place = get_or list c.loop-place.place-index 0 in
    let at = step_at all c.args.event.now list i place c.requires.event c.deref-place-items.ensures.value (slice_get-get_or list i 0 (omega arith)) in
    let inside : place < length all = slice_get_within all place at.rule at.there in
    let many : length all ≡ length counts = fits_length IsByTests all counts c.loop-place.invariant.places in
    let within : place < length counts = omega arith in
    let old : RuleLine = get_or counts place c.index-counts-place.result in
    let now : RuleLine = c.add_fired.new.count in
    let was : IsByTests at.rule old = fits_at IsByTests all counts place at.rule old c.loop-place.invariant.places at.there (slice_get-get_or counts place c.index-counts-place.result within) in
    let placed = places_on c.args.event.now.name 0 all in
    let Counts : OnValue → RuleLine → RuleLine → Type 0 = λ (rule : OnValue) (from to : RuleLine). (fields : List ℕ) → CountsEventLine rule fields from to in
    let step : (rule : OnValue) (from : RuleLine) → slice_get all place ≡ Some rule → slice_get counts place ≡ Some from → (fields : List ℕ) → CountsEventLine rule fields from now = λ rule from at_rule at_from fields.
    (let same : at.rule ≡ rule = (let found : Some at.rule ≡ Some rule = sym at.there ∙ at_rule in cc) in
    subst (λ (f : RuleLine). CountsEventLine rule fields f now) (get_or_from_slice_get counts place from _ at_from)
    (c.in_ok-add_fired.ensures.counts rule fields (ap (λ (r : OnValue). list_all (holds fields) r.tests) (sym same) ∙ at.passes fields))) in
    record {
      places = fits_set IsByTests all counts place at.rule now c.loop-place.invariant.places at.there (c.add_fired.ensures.places at.rule was);
      passed = passed_more Counts all c.args.counts.now counts placed i place now at.inside at.is at.once within c.loop-place.invariant.passed c.loop-place.invariant.kept step;
      kept = kept_more Counts all c.args.counts.now counts placed i place now at.inside at.is at.once within c.loop-place.invariant.passed c.loop-place.invariant.kept;
    }

pub returns-clause-counts : goal.returns-clause-counts
returns-clause-counts c = λ fields lines line named is was.
    let all = c.args.rules.now in
    let event = c.args.event.now in
    let placed = places_on event.name 0 all in
    let list = c.deref-place-items.result.now in
    let many : length list ≡ length placed = ap length (c.deref-place-items.ensures.value ∙ c.requires.event.places) in
    let whole : take c.loop-place.place-index placed ≡ placed = take_all c.loop-place.place-index placed (omega arith) in
    all_counted all event.name fields c.args.counts.now c.loop-place.counts lines line (sym (fits_length IsByTests all c.loop-place.counts c.loop-place.invariant.places)) named is
    (λ place rule old new at_rule at_old at_new so. c.loop-place.invariant.passed place rule old new at_rule at_old at_new (ap (λ (ps : List ℕ). is_place ps place) whole ∙ so) fields)
    (λ place old new at_old at_new so. c.loop-place.invariant.kept place old new at_old at_new (ap (λ (ps : List ℕ). is_place ps place) whole ∙ so)) was
