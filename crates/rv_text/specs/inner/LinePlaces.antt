-- Where a line stands in its text.
use Rattle.std.specs.Prelude.{◌≡◌, ◌≤◌, ℕ, ◌+◌, List, length}
use Rattle.rv_text.specs.Places.{between}
use Rattle.rv_text.specs.TextLines.{LineText}

-- the line's pieces lie in the text
pub record StandsIn (text : List ℕ) (line : LineText) : Type 0 where
  pub bytes : line.bytes ≡ between text line.from (line.from + length line.bytes)
  pub ended : line.from + length line.bytes ≤ line.end
  pub within : line.end ≤ length text
