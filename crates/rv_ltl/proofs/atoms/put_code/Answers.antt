use Rattle.rv_ltl.specs.inner.Machine.{defs}
use Rattle.rv_ltl.specs.inner.Collected.{is_free}
use Rattle.rv_ltl.proofs.Collecting.{code_fails, code_fits, code_done}
use Rattle.rv_ltl.proofs.atoms.put_code.Goals as goal

pub returns-then-not-fits : goal.returns-then-not-fits
returns-then-not-fits c =
    code_fails (is_free (defs c.args.definitions.now)) c.args.code.now c.code.step-index _ c.code.out.items c.put_step.new.out.items _ c.in_ok-fits.fits c.code-test.true c.if-not-fits.true c.in_ok-fits.ensures c.code.invariant.is

pub code-preserved : goal.code-preserved
code-preserved c =
    let p = code_fits (is_free (defs c.args.definitions.now)) c.args.code.now c.code.step-index _ c.code.out.items c.put_step.new.out.items _ c.in_ok-fits.fits c.code-test.true c.if-not-fits.false c.in_ok-fits.ensures c.code.invariant.is in
    record { few = p.0; is = p.1 }

pub returns : goal.returns
returns c = code_done (is_free (defs c.args.definitions.now)) c.args.code.now c.code.step-index c.code.out.items _ c.code-test.false c.code.invariant.few c.code.invariant.is
