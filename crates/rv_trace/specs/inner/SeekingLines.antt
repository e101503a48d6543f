-- What is found from a place on in the bytes that are held, where no line is skipped.
use Rattle.std.specs.Prelude.{◌≡◌, ◌≤◌, ℕ, ◌+◌, Bool, List, [], length, take, IfOk, IfSome, IfNone, OnErr}
use Rattle.rv_text.specs.Places.{between}
use Rattle.rv_trace.specs.declared.seek.At.{At}
use Rattle.rv_trace.specs.declared.seek_line.SoughtLine.{SoughtLine}
use Rattle.rv_trace.specs.declared.trace.TheConstants.{MAX_BYTES}
use Rattle.rv_trace.specs.AnyLines.{AnswersAny, IsReadOn}
use Rattle.rv_trace.specs.Held.{IsPieceOf, LooksAt}
use Rattle.rv_trace.specs.Streams.{IsPassed, part_read}

-- what was found is the next line of the stream, and lines can be read on behind it
pub record TellsLine (fed held : List ℕ) (passed : ℕ) (start : At) (ended : Bool) (sought : SoughtLine) : Type 0 where
  pub answers : AnswersAny (take (passed + start.from) fed) (take (passed + sought.at.from) fed) (part_read ended fed) (between held sought.from sought.to) sought.read
  pub behind : IsPassed fed ended (passed + sought.at.from) sought.at.number

-- what was found from a place on, where the bytes that are held stand behind so many of a stream
pub record SeeksLine (held : List ℕ) (passed : ℕ) (start : At) (ended : Bool) (sought : SoughtLine) : Type 0 where
  pub looks : LooksAt held sought.at.from sought.at.searched
  pub fits : passed + sought.at.from ≤ MAX_BYTES
  pub order : sought.from ≤ sought.to
  pub within : sought.to ≤ length held
  pub small : sought.to ≤ MAX_BYTES
  pub read_on : IfOk sought.read (λ found. IfSome found (IsReadOn (between held sought.from sought.to)))
  pub none : IfOk sought.read (λ found. IfNone found (between held sought.from sought.to ≡ []))
  pub refused : OnErr sought.read (between held sought.from sought.to ≡ [])
  pub tells : (fed : List ℕ) → IsPieceOf fed held passed → IsPassed fed ended (passed + start.from) start.number → TellsLine fed held passed start ended sought
