use Rattle.std.proofs.Common.{List, sym, subst, ◌∙◌}
use Rattle.std.proofs.lemmas.List.{take_all}
use Rattle.rv_ltl.specs.declared.token.CodeStep.{CodeStep}
use Rattle.rv_ltl.specs.inner.Machine.{defs}
use Rattle.rv_ltl.specs.inner.Reached.{IsRow}
use Rattle.rv_ltl.proofs.Elements.{length-defs}
use Rattle.rv_ltl.proofs.Rows.{row_start, row_step}
use Rattle.rv_ltl.proofs.uses.row.Goals as goal

pub code-init : goal.code-init
code-init c =
    let ds = c.args.definitions.now in
    row_start (defs ds) c.in_ok-flags.flags.items (c.in_ok-flags.ensures.each ∙ sym (length-defs ds)) c.in_ok-flags.ensures.none

pub code-preserved : goal.code-preserved
code-preserved c = row_step (defs c.args.definitions.now) c.args.code.now c.code.step-index _ c.code.flags.items c.flag.new.flags.items c.requires c.code-test.true c.code.invariant c.flag.ensures

pub returns : goal.returns
returns c =
    let P : List CodeStep → Type 0 = λ front. IsRow (defs c.args.definitions.now) front c.code.flags.items in
    subst P (take_all c.code.step-index c.args.code.now c.code-test.false) c.code.invariant
