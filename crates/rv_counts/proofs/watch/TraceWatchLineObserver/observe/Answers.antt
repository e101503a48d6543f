use Rattle.std.proofs.Common.{◌≡◌, List, None, rules, refl, subst}
use Rattle.std.proofs.lemmas.Result.{on_ok_weaker}
use Rattle.rv_bind.specs.RuleValues.{OnValue}
use Rattle.rv_matches.specs.LineEvents.{event_on}
use Rattle.rv_matches.specs.RuleLines.{CountsRuleLine, IsForRules}
use Rattle.rv_counts.proofs.SeenLemmas.{watch_read, watch_skipped}
use Rattle.rv_counts.proofs.watch.TraceWatchLineObserver.observe.Goals as goal

pub returns-in_default : goal.returns-in_default
returns-in_default c = λ lines last is was.
    let none : c.args.taken.now.found ≡ None = search rules in
    watch_skipped c.args.bindings.now lines c.args.text.now c.args.taken.now last c.args.self.now (record { text = c.add.new.self; events = c.args.self.now.events; rules = c.args.self.now.rules }) is c.requires.read.says was c.in_ok-add.ensures none refl refl

pub returns : goal.returns
returns c = on_ok_weaker c.add-3.result
    (λ counts lines last is was.
    let event = event_on c.args.text.now c.in-Some.line in
    watch_read c.args.bindings.now lines c.args.text.now c.args.taken.now last c.args.self.now (record { text = c.add.new.self; events = c.add-2.new.self; rules = c.add-3.new.self }) is c.requires.read.says was c.in_ok-add.ensures c.in-Some.line c.in-Some.is c.in_ok-add-2.ensures
    (subst (λ (rs : List OnValue). CountsRuleLine rs event c.args.self.now.rules c.add-3.new.self) c.as_slice.ensures.value counts)
    (subst (λ (rs : List OnValue). IsForRules rs c.add-3.new.self) c.as_slice.ensures.value c.add-3.ensures.made))
    c.add-3.ensures.counts
