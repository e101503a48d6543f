use Rattle.std.proofs.Common.{◌≡◌, ◌<◌, ◌||◌, ℕ, Bool, false, List, length, get_or, map, take, Some, rules, sym, ap, ap₂, ◌∙◌, subst, arith}
use Rattle.std.specs.Prelude.{filter, slice_get}
use Rattle.std.specs.List.{AllZip, list_all, list_any}
use Rattle.std.proofs.lemmas.List.{length-map, take_all}
use Rattle.std.proofs.lemmas.Option.{get_or_from_slice_get, slice_get-get_or, slice_get_within}
use Rattle.rv_bind.specs.RuleValues.{OnValue}
use Rattle.rv_route.specs.declared.event.Asked.{Asked}
use Rattle.rv_route.specs.Asking.{holds}
use Rattle.rv_route.specs.Events.{HasFound, IsAsked, asked_place, is_on_event, places_on}
use Rattle.rv_route.proofs.EventLemmas.{asked_at, asked-many, has_found}
use Rattle.rv_matches.specs.declared.rule_lines.RuleLine.{RuleLine}
use Rattle.rv_matches.specs.RuleLines.{IsByTests}
use Rattle.rv_matches.specs.inner.RuleSteps.{CountsEventLine}
use Rattle.rv_matches.proofs.EventLineLemmas.{all_counted, any_more, kept_more, passed_more, place_at}
use Rattle.rv_matches.proofs.PlaceLemmas.{fits_at, fits_length, fits_set, is_place, place_once}
use Rattle.rv_matches.proofs.rule_lines.add_event.Goals.{then-fired, else-fired}
use Rattle.rv_matches.proofs.rule_lines.add_event.Goals as goal

pub bounds-rules-asked : goal.bounds-rules-asked
bounds-rules-asked c =
    let all = c.args.rules.now in
    let event = c.args.event.now in
    let those = filter (is_on_event event.name) all in
    let list = c.deref-asked-items.result.now in
    let are = subst (λ (l : List Asked). AllZip (IsAsked all event.fields) l those) (sym c.deref-asked-items.ensures.value) c.requires.event.asked in
    let at = asked_at all event.fields list those c.loop-asked.asked-index c.asked-item.result are (omega arith) c.asked-item.is in
    slice_get_within all c.asked-item.result.rule at.rule at.asks.there

pub offset_bounds-rules-asked : goal.offset_bounds-rules-asked
offset_bounds-rules-asked c =
    let all = c.args.rules.now in
    let event = c.args.event.now in
    let those = filter (is_on_event event.name) all in
    let list = c.deref-asked-items.result.now in
    let are = subst (λ (l : List Asked). AllZip (IsAsked all event.fields) l those) (sym c.deref-asked-items.ensures.value) c.requires.event.asked in
    let at = asked_at all event.fields list those c.loop-asked.asked-index c.asked-item.result are (omega arith) c.asked-item.is in
    let inside : c.asked-item.result.rule < length all = slice_get_within all c.asked-item.result.rule at.rule at.asks.there in
    search rules

pub bounds-counts-asked : goal.bounds-counts-asked
bounds-counts-asked c =
    let all = c.args.rules.now in
    let event = c.args.event.now in
    let those = filter (is_on_event event.name) all in
    let list = c.deref-asked-items.result.now in
    let are = subst (λ (l : List Asked). AllZip (IsAsked all event.fields) l those) (sym c.deref-asked-items.ensures.value) c.requires.event.asked in
    let at = asked_at all event.fields list those c.loop-asked.asked-index c.asked-item.result are (omega arith) c.asked-item.is in
    let place = c.asked-item.result.rule in
    let inside : place < length all = slice_get_within all place at.rule at.asks.there in
    let many : length all ≡ length c.loop-asked.counts = fits_length IsByTests all c.loop-asked.counts c.loop-asked.invariant.places in
    let within : place < length c.loop-asked.counts = omega arith in
    within

pub offset_bounds-counts-asked : goal.offset_bounds-counts-asked
offset_bounds-counts-asked c =
    let all = c.args.rules.now in
    let event = c.args.event.now in
    let those = filter (is_on_event event.name) all in
    let list = c.deref-asked-items.result.now in
    let are = subst (λ (l : List Asked). AllZip (IsAsked all event.fields) l those) (sym c.deref-asked-items.ensures.value) c.requires.event.asked in
    let at = asked_at all event.fields list those c.loop-asked.asked-index c.asked-item.result are (omega arith) c.asked-item.is in
    let place = c.asked-item.result.rule in
    let inside : place < length all = slice_get_within all place at.rule at.asks.there in
    let many : length all ≡ length c.loop-asked.counts = fits_length IsByTests all c.loop-asked.counts c.loop-asked.invariant.places in
    let within : place < length c.loop-asked.counts = omega arith in
    search rules

pub add_line-requires-clause-found : goal.add_line-requires-clause-found
add_line-requires-clause-found c =
    let all = c.args.rules.now in
    let event = c.args.event.now in
    let those = filter (is_on_event event.name) all in
    let list = c.deref-asked-items.result.now in
    let are = subst (λ (l : List Asked). AllZip (IsAsked all event.fields) l those) (sym c.deref-asked-items.ensures.value) c.requires.event.asked in
    let at = asked_at all event.fields list those c.loop-asked.asked-index c.asked-item.result are (omega arith) c.asked-item.is in
    let rule : c.index-rules-asked.result ≡ at.rule = c.index-rules-asked.is ∙ get_or_from_slice_get all c.asked-item.result.rule at.rule _ at.asks.there in
    subst (HasFound c.args.fields.now c.args.found.now c.asked-item.result) (sym rule) (has_found c.args.fields.now event.fields c.args.found.now c.requires.found c.asked-item.result at.rule at.asks.fields)

pub add_line-requires-clause-places : goal.add_line-requires-clause-places
add_line-requires-clause-places c =
    let all = c.args.rules.now in
    let event = c.args.event.now in
    let those = filter (is_on_event event.name) all in
    let list = c.deref-asked-items.result.now in
    let are = subst (λ (l : List Asked). AllZip (IsAsked all event.fields) l those) (sym c.deref-asked-items.ensures.value) c.requires.event.asked in
    let at = asked_at all event.fields list those c.loop-asked.asked-index c.asked-item.result are (omega arith) c.asked-item.is in
    let rule : c.index-rules-asked.result ≡ at.rule = c.index-rules-asked.is ∙ get_or_from_slice_get all c.asked-item.result.rule at.rule _ at.asks.there in
    let place = c.asked-item.result.rule in
    let inside : place < length all = slice_get_within all place at.rule at.asks.there in
    let many : length all ≡ length c.loop-asked.counts = fits_length IsByTests all c.loop-asked.counts c.loop-asked.invariant.places in
    let within : place < length c.loop-asked.counts = omega arith in
    let old = get_or c.loop-asked.counts place c.index-counts-asked.result in
    subst (λ (r : OnValue). IsByTests r old) (sym rule) (fits_at IsByTests all c.loop-asked.counts place at.rule old c.loop-asked.invariant.places at.asks.there (slice_get-get_or c.loop-asked.counts place c.index-counts-asked.result within))

pub returns-in_err-fires-clause-places : goal.returns-in_err-fires-clause-places
returns-in_err-fires-clause-places c =
    let all = c.args.rules.now in
    let event = c.args.event.now in
    let those = filter (is_on_event event.name) all in
    let list = c.deref-asked-items.result.now in
    let are = subst (λ (l : List Asked). AllZip (IsAsked all event.fields) l those) (sym c.deref-asked-items.ensures.value) c.requires.event.asked in
    let at = asked_at all event.fields list those c.loop-asked.asked-index c.asked-item.result are (omega arith) c.asked-item.is in
    let rule : c.index-rules-asked.result ≡ at.rule = c.index-rules-asked.is ∙ get_or_from_slice_get all c.asked-item.result.rule at.rule _ at.asks.there in
    let place = c.asked-item.result.rule in
    fits_set IsByTests all c.loop-asked.counts place at.rule c.add_line.new.count c.loop-asked.invariant.places at.asks.there (subst (λ (r : OnValue). IsByTests r c.add_line.new.count) rule c.add_line.ensures.places)

pub loop-asked-preserved : goal.loop-asked-preserved
loop-asked-preserved c =
    let all = c.args.rules.now in
    let event = c.args.event.now in
    let those = filter (is_on_event event.name) all in
    let list = c.deref-asked-items.result.now in
    let are = subst (λ (l : List Asked). AllZip (IsAsked all event.fields) l those) (sym c.deref-asked-items.ensures.value) c.requires.event.asked in
    let at = asked_at all event.fields list those c.loop-asked.asked-index c.asked-item.result are (omega arith) c.asked-item.is in
    let rule : c.index-rules-asked.result ≡ at.rule = c.index-rules-asked.is ∙ get_or_from_slice_get all c.asked-item.result.rule at.rule _ at.asks.there in
    let place = c.asked-item.result.rule in
    let inside : place < length all = slice_get_within all place at.rule at.asks.there in
    let many : length all ≡ length c.loop-asked.counts = fits_length IsByTests all c.loop-asked.counts c.loop-asked.invariant.places in
    let within : place < length c.loop-asked.counts = omega arith in
    let counts = c.loop-asked.counts in
    let i = c.loop-asked.asked-index in
    let placed = places_on event.name 0 all in
    let stands = place_at list placed i c.asked-item.result (ap (map asked_place) c.deref-asked-items.ensures.value ∙ c.requires.event.places) (omega arith) c.asked-item.is in
    let once : is_place (take i placed) place ≡ false = place_once event.name 0 all i place stands.1 in
    let step : (r : OnValue) (old : RuleLine) → slice_get all place ≡ Some r → slice_get counts place ≡ Some old → CountsEventLine r c.args.fields.now old c.add_line.new.count = λ r old at_r at_old.
    subst (λ (x : OnValue). CountsEventLine x c.args.fields.now old c.add_line.new.count) (c.index-rules-asked.is ∙ get_or_from_slice_get all place r _ at_r)
    (subst (λ (o : RuleLine). CountsEventLine c.index-rules-asked.result c.args.fields.now o c.add_line.new.count) (get_or_from_slice_get counts place old _ at_old) c.in_ok-fires.ensures.counts) in
    let meets : OnValue → Bool = λ (r : OnValue). list_all (holds c.args.fields.now) r.tests in
    let joined : c.if-fired.fired ≡ (c.loop-asked.fired || c.in_ok-fires.fires) = elim c.if-fired.branch [
      | then-fired w ↦ w.fired-is ∙ w.if-fired.true ∙ sym (ap (λ b. b || c.in_ok-fires.fires) w.if-fired.true)
      | else-fired w ↦ w.fired-is ∙ sym (ap (λ b. b || c.in_ok-fires.fires) w.if-fired.false)
    ] in
    let here : c.in_ok-fires.fires ≡ meets at.rule = c.in_ok-fires.ensures.fires ∙ ap meets rule in
    record {
      places = fits_set IsByTests all c.loop-asked.counts place at.rule c.add_line.new.count c.loop-asked.invariant.places at.asks.there (subst (λ (r : OnValue). IsByTests r c.add_line.new.count) rule c.add_line.ensures.places);
      passed = passed_more (λ (r : OnValue) (old new : RuleLine). CountsEventLine r c.args.fields.now old new) all c.args.counts.now counts placed i place c.add_line.new.count stands.0 stands.2 once within c.loop-asked.invariant.passed c.loop-asked.invariant.kept step;
      kept = kept_more (λ (r : OnValue) (old new : RuleLine). CountsEventLine r c.args.fields.now old new) all c.args.counts.now counts placed i place c.add_line.new.count stands.0 stands.2 once within c.loop-asked.invariant.passed c.loop-asked.invariant.kept;
      fires = joined ∙ ap₂ (λ a b. a || b) c.loop-asked.invariant.fires here ∙ sym (any_more meets those i at.rule at.inside at.is);
    }

pub returns-clause-counts : goal.returns-clause-counts
returns-clause-counts c =
    λ lines line named is was.
    let all = c.args.rules.now in
    let event = c.args.event.now in
    let placed = places_on event.name 0 all in
    let list = c.deref-asked-items.result.now in
    let same : map asked_place list ≡ placed = ap (map asked_place) c.deref-asked-items.ensures.value ∙ c.requires.event.places in
    let many : length list ≡ length placed = sym (length-map list asked_place) ∙ ap length same in
    let whole : take c.loop-asked.asked-index placed ≡ placed = take_all c.loop-asked.asked-index placed (omega arith) in
    all_counted all event.name c.args.fields.now c.args.counts.now c.loop-asked.counts lines line (sym (fits_length IsByTests all c.loop-asked.counts c.loop-asked.invariant.places)) named is
    (λ place rule old new at_rule at_old at_new so. c.loop-asked.invariant.passed place rule old new at_rule at_old at_new (ap (λ (ps : List ℕ). is_place ps place) whole ∙ so))
    (λ place old new at_old at_new so. c.loop-asked.invariant.kept place old new at_old at_new (ap (λ (ps : List ℕ). is_place ps place) whole ∙ so)) was

pub returns-clause-fires : goal.returns-clause-fires
returns-clause-fires c =
    let all = c.args.rules.now in
    let event = c.args.event.now in
    let those = filter (is_on_event event.name) all in
    let many : length c.deref-asked-items.result.now ≡ length those = ap length c.deref-asked-items.ensures.value ∙ asked-many all event.fields event.rules.items those c.requires.event.asked in
    c.loop-asked.invariant.fires ∙ ap (list_any (λ (rule : OnValue). list_all (holds c.args.fields.now) rule.tests)) (take_all c.loop-asked.asked-index those (omega arith))
