use Rattle.std.proofs.Common.{◌-◌, refl, sym, ◌∙◌, arith}
use Rattle.std.specs.Prelude.{map, reverse}
use Rattle.rv_model.specs.Formulas.{ltl}
use Rattle.rv_ltl.specs.inner.Machine.{defs}
use Rattle.rv_ltl.specs.inner.Collected.{built, ltls}
use Rattle.rv_ltl.proofs.Running.{run_more}
use Rattle.rv_ltl.proofs.BuiltFormulas.{last_formula, no_formula, built_code}
use Rattle.rv_ltl.proofs.building.+build.Goals as goal

pub build-returns-in-Some-pop : goal.build-returns-in-Some-pop
build-returns-in-Some-pop t c =
    let ds = c.args.definitions.now in
    last_formula (ltls (built (defs ds) c.args.atoms.now (c.args.depth - 1))) c.as_slice-code.result.now c.code.one-index c.code.stack.items c.pop.new.self.items c.in-Some-pop.formula c.code-test.false c.in-Some-pop.ensures.items c.code.invariant
    ∙ built_code ds c.args.atoms.now c.args.depth c.args.name c.in-Some.first c.index-definitions-first.result c.as_slice-code.result.now c.if-depth-eq0.false (sym c.in-Some.ensures) c.if-definitions-first.false c.index-definitions-first.is c.requires.coded c.as_slice-code.ensures.value

pub build-returns : goal.build-returns
build-returns t c =
    let ds = c.args.definitions.now in
    no_formula (ltls (built (defs ds) c.args.atoms.now (c.args.depth - 1))) c.as_slice-code.result.now c.code.one-index c.code.stack.items c.code-test.false (omega (arith, c.in-None.ensures.cases.0, c.code.stack.ok.0)) c.code.invariant
    ∙ built_code ds c.args.atoms.now c.args.depth c.args.name c.in-Some.first c.index-definitions-first.result c.as_slice-code.result.now c.if-depth-eq0.false (sym c.in-Some.ensures) c.if-definitions-first.false c.index-definitions-first.is c.requires.coded c.as_slice-code.ensures.value

pub build-code-init : goal.build-code-init
build-code-init t c = rw c.new-stack.ensures.items refl

pub build-code-preserved : goal.build-code-preserved
build-code-preserved t c =
    run_more (ltls (built (defs c.args.definitions.now) c.args.atoms.now (c.args.depth - 1))) c.as_slice-code.result.now c.code.one-index _ (reverse (map ltl c.code.stack.items)) (reverse (map ltl c.step.new.stack.items)) _ c.code-test.true c.in_ok-step.ensures c.code.invariant
