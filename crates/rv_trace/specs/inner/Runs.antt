-- A run of bytes within one load: the bytes of a load are looked at together, from the first one on.
use Rattle.std.specs.Prelude.{◌≡◌, ◌≤◌, ◌<◌, ◌⊎◌, ℕ, ◌+◌, Bool, true, false, List, slice_index}
use Rattle.rv_trace.specs.declared.line.TheConstants.{LAST_PID}

-- so many of the `count` bytes from a place on pass the test, one after the other, and the next of them does not
pub record IsRunIn (test : ℕ → Bool) (text : List ℕ) (from count run : ℕ) : Type 0 where
  pub most : run ≤ count
  pub each : (k : ℕ) → from ≤ k → k < from + run → test (slice_index text k) ≡ true
  pub stop : run < count → test (slice_index text (from + run)) ≡ false

-- a number stands for another one: it is the same, or both are larger than each number that a trace may have
abbrev pub CountsAs : ℕ → ℕ → Type 0
CountsAs number other = (number ≡ other) ⊎ ((LAST_PID < number) × (LAST_PID < other))
