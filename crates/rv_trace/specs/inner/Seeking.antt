-- Where the next line ends in the bytes that are held, and what is found from a place on.
use Rattle.std.specs.Prelude.{◌≡◌, ◌≢◌, ◌≤◌, ◌<◌, ℕ, ◌+◌, Bool, true, List, [], length, take, slice_index, IfOk, IfSome, IfNone, OnErr}
use Rattle.rv_text.specs.Places.{between}
use Rattle.rv_trace.specs.declared.seek.At.{At}
use Rattle.rv_trace.specs.declared.seek.Sought.{Sought}
use Rattle.rv_trace.specs.declared.trace.TheConstants.{MAX_BYTES}
use Rattle.rv_trace.specs.Held.{IsPieceOf, LooksAt}
use Rattle.rv_trace.specs.Lines.{LiesIn}
use Rattle.rv_trace.specs.Streams.{AnswersLine, IsPassed, part_read}

-- the line that begins at a place ends at another one: at a line end, or where the bytes end and nothing can follow
pub record EndsAt (held : List ℕ) (from : ℕ) (whole : Bool) (to : ℕ) : Type 0 where
  pub order : from ≤ to
  pub within : to ≤ length held
  pub none : (k : ℕ) → from ≤ k → k < to → slice_index held k ≢ 10
  pub ended : to < length held → slice_index held to ≡ 10
  pub last : to ≡ length held → (from < to) × (whole ≡ true)

-- no line ends behind a place
pub record HasNoLineEnd (held : List ℕ) (from : ℕ) (whole : Bool) : Type 0 where
  pub none : (k : ℕ) → from ≤ k → k < length held → slice_index held k ≢ 10
  pub last : whole ≡ true → from ≡ length held

-- what was found is the next line of the stream, and lines can be read on behind it
pub record TellsNext (fed held : List ℕ) (passed : ℕ) (start : At) (ended : Bool) (sought : Sought) : Type 0 where
  pub answers : AnswersLine (take (passed + start.from) fed) (take (passed + sought.at.from) fed) (part_read ended fed) (between held sought.from sought.to) sought.read
  pub behind : IsPassed fed ended (passed + sought.at.from) sought.at.number

-- what was found from a place on, where the bytes that are held stand behind so many of a stream
pub record Seeks (held : List ℕ) (passed : ℕ) (start : At) (ended : Bool) (sought : Sought) : Type 0 where
  pub looks : LooksAt held sought.at.from sought.at.searched
  pub fits : passed + sought.at.from ≤ MAX_BYTES
  pub order : sought.from ≤ sought.to
  pub within : sought.to ≤ length held
  pub small : sought.to ≤ MAX_BYTES
  pub lies : IfOk sought.read (λ found. IfSome found (LiesIn (between held sought.from sought.to)))
  pub none : IfOk sought.read (λ found. IfNone found (between held sought.from sought.to ≡ []))
  pub refused : OnErr sought.read (between held sought.from sought.to ≡ [])
  pub tells : (fed : List ℕ) → IsPieceOf fed held passed → IsPassed fed ended (passed + start.from) start.number → TellsNext fed held passed start ended sought
