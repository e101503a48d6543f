-- A lane that keeps what one more delivery observed.
use Rattle.std.specs.Prelude.{◌≡◌, ◌≤◌, [], ◌∷◌, ◌++◌}
use Rattle.rv_journal.specs.declared.counted.Counted.{Counted}
use Rattle.rv_journal.specs.CountedLanes.{CountedLaneValue}

-- the lane has what one more delivery observed, at the end, and the work that it had
pub record KeepsObserved (lane lane' : CountedLaneValue) (observed : Counted) : Type 0 where
  pub work_is : lane'.work ≡ lane.work
  pub counted_is : lane'.counted ≡ lane.counted ++ observed ∷ []
  pub room : lane.room ≤ lane'.room
