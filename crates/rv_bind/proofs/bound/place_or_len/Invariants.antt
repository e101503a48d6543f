use Rattle.std.proofs.Common.{◌≡◌, ℕ, ◌<◌, false}
use Rattle.std.specs.Prelude.{bytes_eq, slice_index_or, []}
use Rattle.rv_bind.proofs.bound.place_or_len.Given as goal

abbrev pub invariant-loop-place : goal.invariant-loop-place
invariant-loop-place l = (k : ℕ) → k < l.place → bytes_eq (slice_index_or l.names k []) l.name ≡ false
