use Rattle.std.proofs.Common.{◌≡◌, ◌<◌, ◌≤◌, Some, None, sym, ap, ◌∙◌, subst, arith}
use Rattle.rv_route.specs.Routers.{RouterValue, IsFor}
use Rattle.rv_route.proofs.RoutedLemmas.{lanes_line}
use Rattle.rv_route.proofs.WorksLemmas.{fits_more}
use Rattle.rv_route.proofs.collector.Collector.line.Goals as goal

pub invariant_of-self-in-Ok : goal.invariant_of-self-in-Ok
invariant_of-self-in-Ok c = (
  c.self.invariant.0,
  c.self.invariant.1,
  λ none. lanes_line c.args.text.now c.args.bindings.now.monitors.items c.args.bindings.now.rules.items c.args.line.now c.self.inside.deliveries.routes c.take.new.deliveries.routes (c.self.invariant.2 none) c.in-Ok.ensures.gives,
)

pub returns-in-Ok-clause-made : goal.returns-in-Ok-clause-made
returns-in-Ok-clause-made c =
    let made = subst (IsFor c.args.bindings.now) (sym c.self.view_is) c.requires.made in
    let cpu : c.args.line.now.cpu < 64 = let l = c.requires.line.lies.cpu in omega arith in
    let from : c.self.inside.next ≤ c.args.line.now.number = let a = c.requires.ascends in let n = ap (λ (r : RouterValue). r.next) c.self.view_is in omega arith in
    record {
      index = made.index;
      rules = made.rules;
      targets = c.in-Ok.ensures.kept.targets ∙ made.targets;
      lines = c.in-Ok.ensures.kept.lines c.self.inside.next (omega arith) made.lines;
      fits = λ none. fits_more c.args.text.now c.args.bindings.now.monitors.items c.args.bindings.now.rules.items c.args.line.now c.self.inside.next c.self.inside.deliveries.routes c.take.new.deliveries.routes made.rules cpu from (made.fits none) c.in-Ok.ensures.gives;
    }

pub returns-in-Err-clause-made : goal.returns-in-Err-clause-made
returns-in-Err-clause-made c =
    let made = subst (IsFor c.args.bindings.now) (sym c.self.view_is) c.requires.made in
    let from : c.self.inside.next ≤ c.args.line.now.number = let a = c.requires.ascends in let n = ap (λ (r : RouterValue). r.next) c.self.view_is in omega arith in
    record {
      index = made.index;
      rules = made.rules;
      targets = c.in-Err.ensures.kept.targets ∙ made.targets;
      lines = c.in-Err.ensures.kept.lines c.self.inside.next (omega arith) made.lines;
      fits = λ none. let no : Some c.in-Err.refused ≡ None = none in cc;
    }
