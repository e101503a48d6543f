-- The bytes of a stream that are held, and where the next line is looked for in them.
use Rattle.std.specs.Prelude.{◌≡◌, ◌≢◌, ◌≤◌, ◌<◌, ℕ, ◌+◌, Bool, List, length, drop, slice_index}
use Rattle.rv_trace.specs.declared.trace.TheConstants.{MAX_BYTES}
use Rattle.rv_trace.specs.Streams.{IsPassed}

-- the held bytes are those of the stream behind so many
pub record IsPieceOf (fed held : List ℕ) (passed : ℕ) : Type 0 where
  pub is : held ≡ drop passed fed
  pub low : passed ≤ length fed

-- up to here no line end stands from the line's beginning on
pub record LooksAt (held : List ℕ) (from searched : ℕ) : Type 0 where
  pub order : from ≤ searched
  pub within : searched ≤ length held
  pub none : (k : ℕ) → from ≤ k → k < searched → slice_index held k ≢ 10

-- what holds of the bytes that are held, of the places of the next line, and of those of the last line that was taken
pub record IsHeldPart (fed held : List ℕ) (passed from searched number first last : ℕ) (ended : Bool) : Type 0 where
  pub piece : IsPieceOf fed held passed
  pub looks : LooksAt held from searched
  pub fits : passed + from ≤ MAX_BYTES
  pub order : first ≤ last
  pub within : last ≤ length held
  pub stands : IsPassed fed ended (passed + from) number
