-- What the bytes of one load answer together: by a bit for each of them, or by how many agree from the first one on.
use Rattle.std.specs.Prelude.{◌≡◌, ◌≤◌, ◌<◌, ℕ, ◌+◌, Bool, true, false, ◌==◌, List, slice_index, if◌then◌else◌}
use Rattle.std.specs.Int.{bit_at, trailing_zeros, w64}

-- a bit of the mask for each of `count` bytes from a place on, set where the byte passes the test
pub record IsMask (test : ℕ → Bool) (text : List ℕ) (from count mask : ℕ) : Type 0 where
  pub bits : (k : ℕ) → k < count → bit_at mask k ≡ (if test (slice_index text (from + k)) then 1 else 0)
  pub within : (k : ℕ) → count ≤ k → bit_at mask k ≡ 0

-- the place of the lowest bit that is set, or the number of bits
abbrev pub first_set : ℕ → ℕ → ℕ
first_set mask count = if mask == 0 then count else trailing_zeros w64 mask

-- so many of the first `count` bytes of two texts pass the test, pair after pair, and the next pair does not
pub record IsPairRun (test : ℕ → ℕ → Bool) (one other : List ℕ) (count run : ℕ) : Type 0 where
  pub most : run ≤ count
  pub each : (k : ℕ) → k < run → test (slice_index one k) (slice_index other k) ≡ true
  pub stop : run < count → test (slice_index one run) (slice_index other run) ≡ false
