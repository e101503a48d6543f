use Rattle.std.proofs.Common.{◌≡◌, List, [], ◌∷◌, ◌++◌, length, rules, refl, sym, ap, ◌∙◌, subst, arith}
use Rattle.std.specs.Prelude.{All}
use Rattle.std.specs.Vec.{vec_len, with_items}
use Rattle.std.specs.List.{AllZip}
use Rattle.std.proofs.lemmas.List.{with_items_is}
use Rattle.rv_bind.specs.RuleValues.{OnValue}
use Rattle.rv_route.specs.Asking.{text_at}
use Rattle.rv_matches.specs.declared.plain_events.PlainEvent.{PlainEvent}
use Rattle.rv_matches.specs.declared.rule_lines.RuleLine.{RuleLine}
use Rattle.rv_matches.specs.LineEvents.{event_on, stamp_on}
use Rattle.rv_matches.specs.RuleLines.{AreRuleLines, IsByTests, IsForRules, IsPlainEvent, IsRuleLine, rule_counts}
use Rattle.rv_matches.specs.inner.RuleSteps.{CountsLineOf}
use Rattle.rv_matches.proofs.AskedLemmas.{by_asked}
use Rattle.rv_matches.proofs.PlaceLemmas.{fits_length}
use Rattle.rv_matches.proofs.PlainLemmas.{named_as, named_within, plain_at, plain_more, still_made}
use Rattle.rv_matches.proofs.rule_lines.RuleLines.add.Goals as goal

pub at-requires : goal.at-requires
at-requires c = named_within c.self.inside.plain c.in-Some.place (text_at c.args.text.now c.args.line.now.name) c.in-Some.ensures

pub add_plain-requires-clause-event : goal.add_plain-requires-clause-event
add_plain-requires-clause-event c =
    let made = subst (IsForRules c.args.rules.now) (sym c.self.view_is) c.requires.made in
    let plain : All (IsPlainEvent c.as_slice.result.now) c.self.inside.plain = subst (λ (rs : List OnValue). All (IsPlainEvent rs) c.self.inside.plain) (sym c.as_slice.ensures.value) made.plain in
    plain_at c.as_slice.result.now c.self.inside.plain c.in-Some.place c.at.result.now plain c.at.ensures

pub add_plain-requires-clause-places : goal.add_plain-requires-clause-places
add_plain-requires-clause-places c =
    let made = subst (IsForRules c.args.rules.now) (sym c.self.view_is) c.requires.made in
    subst (λ (rs : List OnValue). AllZip IsByTests rs c.as_mut_slice.result.now) (sym c.as_slice.ensures.value)
    (subst (λ (l : List RuleLine). AllZip IsByTests c.self.inside.asked.items l) (sym c.as_mut_slice.ensures.value) made.places)

pub returns-in-Some-clause-counts : goal.returns-in-Some-clause-counts
returns-in-Some-clause-counts c = λ lines are_rules.
    let all = c.as_slice.result.now in
    let line = event_on c.args.text.now c.args.line.now in
    let events : List PlainEvent = c.self.inside.plain in
    let event : PlainEvent = c.at.result.now in
    let list = c.self.inside.rules in
    let counts = c.add_plain.new.counts in
    let made = subst (IsForRules c.args.rules.now) (sym c.self.view_is) c.requires.made in
    let plain : All (IsPlainEvent all) events = subst (λ (rs : List OnValue). All (IsPlainEvent rs) events) (sym c.as_slice.ensures.value) made.plain in
    let begun : AllZip IsByTests all c.as_mut_slice.result.now = subst (λ (rs : List OnValue). AllZip IsByTests rs c.as_mut_slice.result.now) (sym c.as_slice.ensures.value)
    (subst (λ (l : List RuleLine). AllZip IsByTests c.self.inside.asked.items l) (sym c.as_mut_slice.ensures.value) made.places) in
    let begun_many : length all ≡ length c.as_mut_slice.result.now = fits_length IsByTests all c.as_mut_slice.result.now begun in
    let now_many : length all ≡ length counts = fits_length IsByTests all counts c.add_plain.ensures.places in
    let same : length counts ≡ length list.items = sym now_many ∙ begun_many ∙ ap length c.as_mut_slice.ensures.value in
    let size : vec_len list ≡ length list.items = search rules in
    let written : (with_items list counts).items ≡ counts = with_items_is list counts (omega arith) in
    let more : CountsLineOf all event.name line.fields list.items (with_items list counts).items = λ before one named is was.
    (let Are : List RuleLine → Type 0 = λ (l : List RuleLine). AllZip (λ (rule : OnValue) (r : RuleLine). IsRuleLine (rule_counts before rule) r) all l in
    subst (λ (l : List RuleLine). AllZip (λ (rule : OnValue) (r : RuleLine). IsRuleLine (rule_counts (before ++ one ∷ []) rule) r) all l) (sym written)
    (c.in_ok-add_plain.ensures.counts line.fields before one named is (subst Are (sym c.as_mut_slice.ensures.value) was))) in
    by_asked c.args.rules.now all lines (lines ++ line ∷ []) c.args.self.now _ (c.as_slice.ensures.value ∙ made.asked) (λ are.
    plain_more all lines line event _ _ (plain_at all events c.in-Some.place event plain c.at.ensures) (named_as events c.in-Some.place line.name event c.in-Some.ensures c.at.ensures) more
    c.in_ok-self-inside.ensures c.in_ok-self-inside-2.ensures (subst (AreRuleLines all lines) (sym c.self.view_is) are)) are_rules

pub returns-clause-counts : goal.returns-clause-counts
returns-clause-counts c = c.in_ok-add_asked.ensures.counts c.args.line.now.number (stamp_on c.args.text.now c.args.line.now)

pub returns-in_err-add_plain-clause-made : goal.returns-in_err-add_plain-clause-made
returns-in_err-add_plain-clause-made c =
    let made = subst (IsForRules c.args.rules.now) (sym c.self.view_is) c.requires.made in
    let size : vec_len c.self.inside.rules ≡ length c.self.inside.rules.items = search rules in
    still_made c.args.rules.now _ c.self.inside.rules c.add_plain.new.counts _ _ size refl made (subst (λ (rs : List OnValue). AllZip IsByTests rs c.add_plain.new.counts) c.as_slice.ensures.value c.add_plain.ensures.places)

pub returns-in_err-self-inside-clause-made : goal.returns-in_err-self-inside-clause-made
returns-in_err-self-inside-clause-made c =
    let made = subst (IsForRules c.args.rules.now) (sym c.self.view_is) c.requires.made in
    let size : vec_len c.self.inside.rules ≡ length c.self.inside.rules.items = search rules in
    still_made c.args.rules.now _ c.self.inside.rules c.add_plain.new.counts _ _ size refl made (subst (λ (rs : List OnValue). AllZip IsByTests rs c.add_plain.new.counts) c.as_slice.ensures.value c.add_plain.ensures.places)

pub returns-in_err-self-inside-2-clause-made : goal.returns-in_err-self-inside-2-clause-made
returns-in_err-self-inside-2-clause-made c =
    let made = subst (IsForRules c.args.rules.now) (sym c.self.view_is) c.requires.made in
    let size : vec_len c.self.inside.rules ≡ length c.self.inside.rules.items = search rules in
    still_made c.args.rules.now _ c.self.inside.rules c.add_plain.new.counts _ _ size refl made (subst (λ (rs : List OnValue). AllZip IsByTests rs c.add_plain.new.counts) c.as_slice.ensures.value c.add_plain.ensures.places)

pub returns-in-Some-clause-made : goal.returns-in-Some-clause-made
returns-in-Some-clause-made c =
    let made = subst (IsForRules c.args.rules.now) (sym c.self.view_is) c.requires.made in
    let size : vec_len c.self.inside.rules ≡ length c.self.inside.rules.items = search rules in
    still_made c.args.rules.now _ c.self.inside.rules c.add_plain.new.counts _ _ size refl made (subst (λ (rs : List OnValue). AllZip IsByTests rs c.add_plain.new.counts) c.as_slice.ensures.value c.add_plain.ensures.places)
