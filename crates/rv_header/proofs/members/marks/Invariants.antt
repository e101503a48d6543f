use Rattle.std.proofs.Common.{◌≡◌, ◌-◌, ◌++◌, drop, length, map}
use Rattle.rv_dot.specs.Canonical.{State, states_marked}
use Rattle.rv_header.specs.HeaderText.{mark_text}
use Rattle.rv_header.proofs.members.marks.Given as goal

abbrev pub invariant-states : goal.invariant-states
invariant-states l = l.made ++ map (λ (s : State). mark_text s.is_marked) (states_marked l.bits (drop l.place l.states)) ≡ map (λ (s : State). mark_text s.is_marked) (states_marked l.marked l.states)

abbrev pub decreases-states : goal.decreases-states
decreases-states l = length l.states - l.place
