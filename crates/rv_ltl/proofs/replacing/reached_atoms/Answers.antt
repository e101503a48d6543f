use Rattle.std.proofs.Common.{length}
use Rattle.rv_ltl.specs.inner.Machine.{defs}
use Rattle.rv_ltl.proofs.Ending.{collects_reached}
use Rattle.rv_ltl.proofs.replacing.reached_atoms.Goals as goal

pub returns : goal.returns
returns c =
    let ds = c.args.definitions.now in
    collects_reached (defs ds) c.args.uses.now c.args.place (length ds) c.in_ok-flags.flags.items c.deref.result.now c.atoms.result c.in_ok-flags.ensures c.deref.ensures.value c.atoms.ensures
