use Rattle.std.proofs.Common.{◌≡◌, ◌-◌, ◌<◌, ◌≤◌, length}
use Rattle.rv_trace.specs.inner.FieldPlaces.{StandsNot}
use Rattle.rv_trace.proofs.fields.far_place.Given as goal

abbrev pub invariant-loop-place : goal.invariant-loop-place
invariant-loop-place l =
    StandsNot l.fields l.name l.place × (0 < l.place) × (l.place ≤ l.end) × (l.end ≡ length l.fields - length l.name)

abbrev pub decreases-loop-place : goal.decreases-loop-place
decreases-loop-place l = l.end - l.place

abbrev pub invariant-loop-place-2 : goal.invariant-loop-place-2
invariant-loop-place-2 l =
    StandsNot l.fields l.name l.place × (0 < l.place) × (l.place ≤ l.end) × (l.end ≡ length l.fields - length l.name)

abbrev pub decreases-loop-place-2 : goal.decreases-loop-place-2
decreases-loop-place-2 l = l.end - l.place
