use Rattle.std.proofs.Common.{◌≡◌, ◌-◌, drop, length}
use Rattle.std.specs.List.{list_any}
use Rattle.rv_header.specs.Naming.{is_unfit_state}
use Rattle.rv_header.proofs.naming.has_unfit_state.Given as goal

abbrev pub invariant-states : goal.invariant-states
invariant-states l = list_any is_unfit_state (drop l.place l.states) ≡ list_any is_unfit_state l.states

abbrev pub decreases-states : goal.decreases-states
decreases-states l = length l.states - l.place
