-- A file is read in pieces.
use Rattle.std.specs.Prelude.{◌≡◌, ℕ, ◌<◌, ◌≤◌, List, ◌++◌, length, Option}
use Rattle.std.specs.Io.KnownBytes.{Consumes, IsAtEnd}

-- a piece of so many bytes was taken of what was left, and stands at the end of the text; none was taken only at the end
pub record ReadsMore (old new : Option (List ℕ)) (was now : List ℕ) (most count : ℕ) : Type 0 where
  pub piece : List ℕ
  pub length_is : length piece ≡ count
  pub bound : count ≤ most
  pub grows : now ≡ was ++ piece
  pub taken : Consumes old new piece
  pub at_end : count ≡ 0 → 0 < most → IsAtEnd new
