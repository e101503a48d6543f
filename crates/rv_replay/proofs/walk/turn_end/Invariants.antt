-- All deliveries so far are of one line.
use Rattle.std.proofs.Common.{◌≡◌, ℕ, ◌-◌, ◌<◌, ◌≤◌, length, get_or}
use Rattle.rv_route.specs.Listing.{ListedDelivery}
use Rattle.rv_replay.proofs.walk.turn_end.Given as goal

abbrev pub invariant-loop-to : goal.invariant-loop-to
invariant-loop-to l = (l.from < l.to) × (l.to ≤ length l.list) × ((k : ℕ) (d : ListedDelivery) → l.from ≤ k → k < l.to → (get_or l.list k d).line ≡ (get_or l.list l.from d).line)

abbrev pub decreases-loop-to : goal.decreases-loop-to
decreases-loop-to l = length l.list - l.to
