use Rattle.std.proofs.Common.{ap}
use Rattle.std.specs.Prelude.{map}
use Rattle.rv_dot.specs.Sets.{ascending}
use Rattle.rv_dot.specs.inner.Held.{bytes_of}
use Rattle.rv_dot.proofs.SetLaws.{gathers_more}
use Rattle.rv_dot.proofs.numbering.gathered.Goals as goal

pub names-init : goal.names-init
unfolding ascending
names-init c = ap (map bytes_of) c.new-set.ensures.empty

pub names-preserved : goal.names-preserved
names-preserved c = gathers_more c.args.names.now c.names.name-index _ c.names.set.keys c.insert.new.self.keys c.names-test.true c.names.invariant c.in_ok-insert.ensures.keys
