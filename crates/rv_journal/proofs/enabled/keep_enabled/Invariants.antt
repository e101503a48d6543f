use Rattle.std.proofs.Common.{◌≡◌, ◌++◌, take}
use Rattle.std.specs.Prelude.{filter}
use Rattle.rv_model.specs.Scripts.{is_enabled_by}
use Rattle.rv_journal.proofs.enabled.keep_enabled.Given as goal

-- what is shown of the deliveries so far was kept
abbrev pub invariant-loop-delivery : goal.invariant-loop-delivery
invariant-loop-delivery l = l.kept.items ≡ l.fn.kept.items ++ filter (is_enabled_by l.switches) (take l.delivery-index l.delivery-items)
