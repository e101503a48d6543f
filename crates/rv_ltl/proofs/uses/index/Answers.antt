use Rattle.std.proofs.Common.{sym, ap, ◌∙◌, below_more, arith}
use Rattle.rv_ltl.specs.declared.definitions.Definition.{Definition}
use Rattle.rv_ltl.specs.File.{Def}
use Rattle.rv_ltl.specs.inner.Machine.{defs}
use Rattle.rv_ltl.proofs.Elements.{read_def, length-defs, index_first, index_nowhere}
use Rattle.rv_ltl.proofs.uses.index.Goals as goal

pub returns-then-definitions-i : goal.returns-then-definitions-i
returns-then-definitions-i c =
    let ds = c.args.definitions.now in
    let name =
    ap (λ (d : Def). d.name) (read_def ds c.loop-i.i c.index-definitions-i.result c.loop-i-test.true c.index-definitions-i.is)
    ∙ ap (λ (d : Definition). d.name) c.index-definitions-i.is ∙ c.if-definitions-i.true in
    sym (index_first (defs ds) c.args.name c.loop-i.i c.loop-i.invariant (omega (arith, length-defs ds, c.loop-i-test.true)) name)

pub loop-i-preserved : goal.loop-i-preserved
loop-i-preserved c =
    let ds = c.args.definitions.now in
    let name =
    ap (λ (d : Def). d.name) (read_def ds c.loop-i.i c.index-definitions-i.result c.loop-i-test.true c.index-definitions-i.is)
    ∙ ap (λ (d : Definition). d.name) c.index-definitions-i.is in
    below_more _ _ c.loop-i.invariant (λ e. c.if-definitions-i.false (sym name ∙ e))

pub returns : goal.returns
returns c =
    let ds = c.args.definitions.now in
    sym (index_nowhere (defs ds) c.args.name (λ j below. c.loop-i.invariant j (omega (arith, length-defs ds, below, c.loop-i-test.false))))
