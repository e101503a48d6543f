use Rattle.std.proofs.Common.{◌≡◌, ◌-◌, drop, length}
use Rattle.std.specs.List.{list_any}
use Rattle.rv_dot.specs.Sets.{stands_in}
use Rattle.rv_header.proofs.naming.share_a_name.Given as goal

abbrev pub invariant-states : goal.invariant-states
invariant-states l = list_any (stands_in l.events) (drop l.place l.states) ≡ list_any (stands_in l.events) l.states

abbrev pub decreases-states : goal.decreases-states
decreases-states l = length l.states - l.place
