use Rattle.std.proofs.Common.{refl}
use Rattle.std.specs.Prelude.{None}
use Rattle.rv_stream.proofs.PiecesLemmas.{none_routed}
use Rattle.rv_stream.proofs.routing.new_collector.Goals as goal

pub returns-then-listed-clause-routed : goal.returns-then-listed-clause-routed
returns-then-listed-clause-routed c =
    let made = c.in_ok-collector.ensures in
    none_routed c.args.bindings.now c.in_ok-collector.collector None made.made made.routes made.next made.accepted refl

pub returns-clause-routed : goal.returns-clause-routed
returns-clause-routed c =
    let made = c.in_ok-collector-2.ensures in
    none_routed c.args.bindings.now c.in_ok-collector-2.collector None made.made made.routes made.next made.accepted refl
