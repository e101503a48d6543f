use Rattle.std.proofs.Common.{subst, rules}
use Rattle.rv_bind.specs.WellFormed.{IsWellFormed}
use Rattle.rv_bind.specs.BoundViews.{bound_value}
use Rattle.rv_bind.proofs.WellFormedLemmas.{monitor_formed}
use Rattle.rv_bind.proofs.bindings.Bound.add_monitor.Goals as goal

pub returns-clause-formed : goal.returns-clause-formed
returns-clause-formed c =
    let formed = monitor_formed (bound_value c.args.self.now) c.args.form.name.now c.args.container c.args.form.scope c.args.form.file.now c.args.compiled c.requires.formed c.requires.room c.requires.named c.requires.free c.requires.holder c.requires.compiles in
    subst IsWellFormed (search rules) formed
