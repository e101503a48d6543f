-- The monitor's place is the first one of that name.
use Rattle.std.proofs.Common.{◌∙◌, sym}
use Rattle.rv_watch.proofs.InstanceLemmas.{scope-at, named-at}
use Rattle.rv_watch.proofs.instances.watched_slot.Goals as goal

pub slot_in-requires-clause-scope : goal.slot_in-requires-clause-scope
slot_in-requires-clause-scope c =
    let b = c.args.bindings.now in
    scope-at b.containers b.monitors.items c.args.monitor.now c.in_ok-place.place c.index.result.now (sym c.in_ok-place.ensures) c.index.ensures _ c.args.shape.now c.requires.shape

pub returns-clause-value : goal.returns-clause-value
returns-clause-value c =
    let b = c.args.bindings.now in
    c.slot_in.ensures.value
    ∙ named-at b.containers b.monitors.items c.args.monitor.now c.in_ok-place.place c.index.result.now (sym c.in_ok-place.ensures) c.index.ensures c.args.tasks.now c.args.shape.now c.args.instance.now c.requires.shape
