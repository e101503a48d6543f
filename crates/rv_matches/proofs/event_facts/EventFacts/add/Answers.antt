use Rattle.std.proofs.Common.{◌≡◌, true, false, ℕ, List, sym, ap, ◌∙◌, subst}
use Rattle.rv_matches.specs.LineEvents.{event_on}
use Rattle.rv_matches.specs.inner.LateTimes.{IfLike, TellsTime, TimesValue}
use Rattle.rv_matches.specs.Times.{is_time}
use Rattle.rv_matches.specs.TraceFacts.{EventFactsValue, stamped}
use Rattle.rv_matches.proofs.EventFactLemmas.{names_push, told_timed, told_untimed}
use Rattle.rv_matches.proofs.event_facts.EventFacts.add.Goals as goal

pub returns-then-add_before : goal.returns-then-add_before
returns-then-add_before c = λ lines was.
    let line = event_on c.args.text.now c.args.line.now in
    let begun = c.self.view_is ∙ was in
    let names = names_push lines line c.self.inside.names c.add_in.new.self c.in_ok-add_in.ensures.counts (ap (λ (v : EventFactsValue). v.names) begun) in
    let told = subst (λ is. IfLike is (stamped line) c.self.inside.times c.add_before.new.self) c.if-add_before.true c.add_before.ensures in
    told_timed lines line _ _ begun c.in_ok-self-inside.ensures names told.0 told.1

pub returns-then-not-is_comparable : goal.returns-then-not-is_comparable
returns-then-not-is_comparable c = λ lines was.
    let line = event_on c.args.text.now c.args.line.now in
    let begun = c.self.view_is ∙ was in
    let names = names_push lines line c.self.inside.names c.add_in.new.self c.in_ok-add_in.ensures.counts (ap (λ (v : EventFactsValue). v.names) begun) in
    let kept : c.add_before.new.self ≡ c.self.inside.times = subst (λ is. IfLike is (stamped line) c.self.inside.times c.add_before.new.self) c.if-add_before.false c.add_before.ensures in
    let other : is_time line.stamp ≡ false = ap is_time (sym c.stamp_on-stamp.ensures) ∙ sym c.is_comparable.ensures ∙ c.if-not-is_comparable.true in
    told_untimed lines line _ _ begun c.in_ok-self-inside.ensures names other (ap (λ (t : TimesValue). t.latest) kept) (ap (λ (t : TimesValue). t.late) kept)

pub returns : goal.returns
returns c = λ lines was.
    let line = event_on c.args.text.now c.args.line.now in
    let begun = c.self.view_is ∙ was in
    let names = names_push lines line c.self.inside.names c.add_in.new.self c.in_ok-add_in.ensures.counts (ap (λ (v : EventFactsValue). v.names) begun) in
    let kept : c.add_before.new.self ≡ c.self.inside.times = subst (λ is. IfLike is (stamped line) c.self.inside.times c.add_before.new.self) c.if-add_before.false c.add_before.ensures in
    let timed : is_time line.stamp ≡ true = ap is_time (sym c.stamp_on-stamp.ensures) ∙ sym c.is_comparable.ensures ∙ c.if-not-is_comparable.false in
    let told = subst (λ (s : List ℕ). TellsTime (record { line = line.number; stamp = s }) c.add_before.new.self c.add.new.self) c.stamp_on-stamp.ensures c.in_ok-add.ensures in
    told_timed lines line _ _ begun c.in_ok-self-inside.ensures names timed (subst (λ (t : TimesValue). TellsTime (stamped line) t c.add.new.self) kept told)
