use Rattle.std.proofs.Common.{◌≡◌, ◌≢◌, ◌+◌, ℕ, List, [], ◌∷◌, ◌++◌, Bool, true, false, cond, eqb, length, rules, refl, sym, ap, ap₂, ◌∙◌, subst, arith}
use Rattle.std.specs.Prelude.{filter, count_by}
use Rattle.std.specs.Vec.{vec_len, with_items}
use Rattle.std.proofs.lemmas.Bool.{eq-eqb, eqb-true}
use Rattle.std.specs.List.{AllZip, list_all, list_any}
use Rattle.std.proofs.lemmas.List.{with_items_is}
use Rattle.rv_bind.specs.RuleValues.{OnValue}
use Rattle.rv_route.specs.declared.event.Event.{Event}
use Rattle.rv_route.specs.Asking.{holds}
use Rattle.rv_route.specs.Events.{IsEventOf, IsIndexOf, is_on_event}
use Rattle.rv_route.proofs.EventLemmas.{asked-many}
use Rattle.rv_route.proofs.IndexLemmas.{found-event}
use Rattle.rv_matches.specs.declared.rule_lines.RuleLine.{RuleLine}
use Rattle.rv_matches.specs.LineEvents.{LineEvent}
use Rattle.rv_matches.specs.RuleLines.{AreRuleLines, IsByTests, IsForRules, IsRuleLine, is_fired, has_rule, rule_counts}
use Rattle.rv_matches.proofs.AskedLemmas.{by_asked}
use Rattle.rv_matches.proofs.NamedLemmas.{fired_by, fired_push, named_push, none_asked, none_on, some_any, unnamed}
use Rattle.rv_matches.proofs.PlaceLemmas.{fits_length}
use Rattle.rv_matches.proofs.PlainLemmas.{still_made}
use Rattle.rv_matches.proofs.rule_lines.RuleLines.add_asked.Goals as goal

pub returns-in_default-clause-counts : goal.returns-in_default-clause-counts
returns-in_default-clause-counts c = λ number stamp lines are.
    let line : LineEvent = record { number = number; stamp = stamp; name = c.args.name.now; fields = c.args.fields.now } in
    let all = c.self.inside.asked.items in
    let index : List Event = c.self.inside.index in
    let made = subst (IsForRules c.args.rules.now) (sym c.self.view_is) c.requires.made in
    by_asked c.args.rules.now all lines (lines ++ line ∷ []) _ _ made.asked (unnamed all lines line c.args.self.now (none_on line.name index all c.in_default.ensures.none made.index.has)) are

pub returns-then-is_empty-clause-counts : goal.returns-then-is_empty-clause-counts
returns-then-is_empty-clause-counts c = λ number stamp lines are.
    let line : LineEvent = record { number = number; stamp = stamp; name = c.args.name.now; fields = c.args.fields.now } in
    let all = c.self.inside.asked.items in
    let index : List Event = c.self.inside.index in
    let made = subst (IsForRules c.args.rules.now) (sym c.self.view_is) c.requires.made in
    let event : Event = c.in-Some.event.now in
    let of : IsEventOf all line.name event = found-event line.name index all event made.index c.in-Some.ensures.among c.in-Some.ensures.named in
    let empty : vec_len event.rules ≡ 0 = eqb-true (vec_len event.rules) 0 (sym c.is_empty.ensures ∙ c.if-is_empty.true) in
    let many : vec_len event.rules ≡ length event.rules.items = search rules in
    by_asked c.args.rules.now all lines (lines ++ line ∷ []) _ _ made.asked (unnamed all lines line c.args.self.now (none_asked all event.fields event.rules.items (filter (is_on_event line.name) all) (omega arith) of.asked)) are

pub returns-clause-counts : goal.returns-clause-counts
returns-clause-counts c = λ number stamp lines are_rules.
    let line : LineEvent = record { number = number; stamp = stamp; name = c.args.name.now; fields = c.args.fields.now } in
    let all = c.as_slice.result.now in
    let index : List Event = c.self.inside.index in
    let made = subst (IsForRules c.args.rules.now) (sym c.self.view_is) c.requires.made in
    let indexed : IsIndexOf all index = subst (λ (rs : List OnValue). IsIndexOf rs index) (sym c.as_slice.ensures.value) made.index in
    let event : Event = c.in-Some.event.now in
    let of : IsEventOf all line.name event = found-event line.name index all event indexed c.in-Some.ensures.among c.in-Some.ensures.named in
    let those = filter (is_on_event line.name) all in
    let many : vec_len event.rules ≡ length event.rules.items = search rules in
    let some : those ≢ [] = λ none.
    (let nothing : length event.rules.items ≡ 0 = asked-many all event.fields event.rules.items those of.asked ∙ ap length none in
    let empty : eqb (vec_len event.rules) 0 ≡ true = eq-eqb (vec_len event.rules) 0 (omega arith) in
    let not_empty : eqb (vec_len event.rules) 0 ≡ false = sym c.is_empty.ensures ∙ c.if-is_empty.false in
    cc) in
    let named : has_rule all line ≡ true = some_any (is_on_event line.name) all some in
    by_asked c.args.rules.now all lines (lines ++ line ∷ []) c.args.self.now _ (c.as_slice.ensures.value ∙ made.asked) (λ are.
    let was : AreRuleLines all lines _ = subst (AreRuleLines all lines) (sym c.self.view_is) are in
    let begun : AllZip (λ (rule : OnValue) (r : RuleLine). IsRuleLine (rule_counts lines rule) r) all c.as_mut_slice.result.now = subst (λ (l : List RuleLine). AllZip (λ (rule : OnValue) (r : RuleLine). IsRuleLine (rule_counts lines rule) r) all l) (sym c.as_mut_slice.ensures.value) was.each in
    let fields = c.args.fields.now in
    let fired : c.in_ok-fired.fired ≡ is_fired all line = c.in_ok-fired.ensures.fires ∙ ap (λ (n : List ℕ). list_any (λ (rule : OnValue). list_all (holds fields) rule.tests) (filter (is_on_event n) all)) c.in-Some.ensures.named ∙ fired_by all lines line fields refl in
    let now : AllZip (λ (rule : OnValue) (r : RuleLine). IsRuleLine (rule_counts (lines ++ line ∷ []) rule) r) all c.add_event.new.counts = c.in_ok-fired.ensures.counts lines line (sym c.in-Some.ensures.named) refl begun in
    let begun_many : length all ≡ length c.as_mut_slice.result.now = fits_length (λ (rule : OnValue) (r : RuleLine). IsRuleLine (rule_counts lines rule) r) all c.as_mut_slice.result.now begun in
    let now_many : length all ≡ length c.add_event.new.counts = fits_length (λ (rule : OnValue) (r : RuleLine). IsRuleLine (rule_counts (lines ++ line ∷ []) rule) r) all c.add_event.new.counts now in
    let same : length c.add_event.new.counts ≡ length c.self.inside.rules.items = sym now_many ∙ begun_many ∙ ap length c.as_mut_slice.ensures.value in
    let size : vec_len c.self.inside.rules ≡ length c.self.inside.rules.items = search rules in
    let written : (with_items c.self.inside.rules c.add_event.new.counts).items ≡ c.add_event.new.counts = with_items_is c.self.inside.rules c.add_event.new.counts (omega arith) in
    record {
      each = subst (λ (l : List RuleLine). AllZip (λ (rule : OnValue) (r : RuleLine). IsRuleLine (rule_counts (lines ++ line ∷ []) rule) r) all l) (sym written) now;
      named = c.in_ok-self-inside.ensures ∙ ap (λ n. n + 1) was.named ∙ sym (named_push all lines line ∙ ap (λ b. count_by (has_rule all) lines + cond b 1 0) named);
      fired = c.in_ok-self-inside-2.ensures ∙ ap₂ (λ (n : ℕ) (b : Bool). n + cond b 1 0) was.fired fired ∙ sym (fired_push all lines line);
    }) are_rules

pub returns-in_err-fired-clause-made : goal.returns-in_err-fired-clause-made
returns-in_err-fired-clause-made c =
    let made = subst (IsForRules c.args.rules.now) (sym c.self.view_is) c.requires.made in
    let size : vec_len c.self.inside.rules ≡ length c.self.inside.rules.items = search rules in
    still_made c.args.rules.now _ c.self.inside.rules c.add_event.new.counts _ _ size refl made (subst (λ (rs : List OnValue). AllZip IsByTests rs c.add_event.new.counts) c.as_slice.ensures.value c.add_event.ensures.places)

pub returns-in_err-self-inside-clause-made : goal.returns-in_err-self-inside-clause-made
returns-in_err-self-inside-clause-made c =
    let made = subst (IsForRules c.args.rules.now) (sym c.self.view_is) c.requires.made in
    let size : vec_len c.self.inside.rules ≡ length c.self.inside.rules.items = search rules in
    still_made c.args.rules.now _ c.self.inside.rules c.add_event.new.counts _ _ size refl made (subst (λ (rs : List OnValue). AllZip IsByTests rs c.add_event.new.counts) c.as_slice.ensures.value c.add_event.ensures.places)

pub returns-in_err-self-inside-2-clause-made : goal.returns-in_err-self-inside-2-clause-made
returns-in_err-self-inside-2-clause-made c =
    let made = subst (IsForRules c.args.rules.now) (sym c.self.view_is) c.requires.made in
    let size : vec_len c.self.inside.rules ≡ length c.self.inside.rules.items = search rules in
    still_made c.args.rules.now _ c.self.inside.rules c.add_event.new.counts _ _ size refl made (subst (λ (rs : List OnValue). AllZip IsByTests rs c.add_event.new.counts) c.as_slice.ensures.value c.add_event.ensures.places)

pub returns-clause-made : goal.returns-clause-made
returns-clause-made c =
    let made = subst (IsForRules c.args.rules.now) (sym c.self.view_is) c.requires.made in
    let size : vec_len c.self.inside.rules ≡ length c.self.inside.rules.items = search rules in
    still_made c.args.rules.now _ c.self.inside.rules c.add_event.new.counts _ _ size refl made (subst (λ (rs : List OnValue). AllZip IsByTests rs c.add_event.new.counts) c.as_slice.ensures.value c.add_event.ensures.places)
