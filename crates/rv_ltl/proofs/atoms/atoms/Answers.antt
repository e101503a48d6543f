use Rattle.std.proofs.Common.{◌≡◌, ℕ, length, ap, ◌∙◌, arith}
use Rattle.rv_ltl.specs.inner.Machine.{defs}
use Rattle.rv_ltl.specs.inner.Collected.{is_free, atoms_from}
use Rattle.rv_ltl.proofs.Collecting.{atoms_fail, atoms_fit}
use Rattle.rv_ltl.proofs.atoms.atoms.Goals as goal

pub returns-then-not-fits : goal.returns-then-not-fits
returns-then-not-fits c =
    let ds = c.args.definitions.now in
    atoms_fail (is_free (defs ds)) (defs ds) c.args.flags.now c.loop-i.i (length ds) c.loop-i.out.items c.put_definition.new.out.items c.in_ok-fits.fits c.loop-i-test.true c.if-not-fits.true c.in_ok-fits.ensures c.loop-i.invariant.is

pub loop-i-preserved : goal.loop-i-preserved
loop-i-preserved c =
    let ds = defs c.args.definitions.now in
    let p = atoms_fit (is_free ds) ds c.args.flags.now c.loop-i.i c.loop-i.out.items c.put_definition.new.out.items c.in_ok-fits.fits c.if-not-fits.false c.in_ok-fits.ensures c.loop-i.invariant.is in
    record { few = p.0; is = p.1 }

pub returns : goal.returns
returns c =
    let ds = defs c.args.definitions.now in
    let all : c.loop-i.i ≡ length c.args.definitions.now = omega arith in
    let is = c.loop-i.invariant.is ∙ ap (λ (n : ℕ). atoms_from (is_free ds) ds c.args.flags.now n) all in
    let few = c.loop-i.invariant.few in
    (is, omega (arith, few, ap length is))
