use Rattle.std.proofs.Common.{◌≡◌, ◌-◌, drop, length}
use Rattle.std.specs.List.{list_any}
use Rattle.rv_header.specs.Naming.{is_unfit}
use Rattle.rv_header.proofs.naming.has_unfit_event.Given as goal

abbrev pub invariant-events : goal.invariant-events
invariant-events l = list_any is_unfit (drop l.place l.events) ≡ list_any is_unfit l.events

abbrev pub decreases-events : goal.decreases-events
decreases-events l = length l.events - l.place
