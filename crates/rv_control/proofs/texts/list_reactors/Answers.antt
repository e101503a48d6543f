use Rattle.std.proofs.Common.{List, ℕ, ◌++◌, sym, append-nil, ap, ◌∙◌}
use Rattle.rv_control.specs.FileTexts.{reactor_line}
use Rattle.rv_control.proofs.TextLemmas.{grown-more, grown-all}
use Rattle.rv_control.proofs.texts.list_reactors.Goals as goal

pub loop-reactor-init : goal.loop-reactor-init
loop-reactor-init c = sym (append-nil c.args.out.now)

pub loop-reactor-preserved : goal.loop-reactor-preserved
loop-reactor-preserved c =
    c.in_ok-reactor_line.ensures
    ∙ grown-more (reactor_line c.args.chosen) c.args.reactors.now c.args.out.now c.loop-reactor.out c.loop-reactor.reactor-index _ c.loop-reactor-test.true c.loop-reactor.invariant

pub returns : goal.returns
returns c = c.loop-reactor.invariant ∙ ap (λ (z : List ℕ). c.args.out.now ++ z) (grown-all (reactor_line c.args.chosen) c.args.reactors.now c.loop-reactor.reactor-index c.loop-reactor-test.false)
