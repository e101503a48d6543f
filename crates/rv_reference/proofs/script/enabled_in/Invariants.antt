use Rattle.std.proofs.Common.{◌≡◌, take, filter}
use Rattle.rv_model.specs.Scripts.{is_enabled_by}
use Rattle.rv_reference.proofs.script.enabled_in.Given as goal

abbrev pub invariant-loop-delivery : goal.invariant-loop-delivery
invariant-loop-delivery l = l.shown.items ≡ filter (is_enabled_by l.look) (take l.delivery-index l.deliveries)
