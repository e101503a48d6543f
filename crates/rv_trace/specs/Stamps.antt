-- A timestamp by its places alone: digits, then nothing or a point and digits, then a colon.
use Rattle.std.specs.Prelude.{◌≡◌, ◌<◌, ◌≤◌, ◌⊎◌, ℕ, ◌+◌, true, List, slice_index}
use Rattle.rv_text.specs.Places.{is_digit}
use Rattle.rv_trace.specs.declared.parts.LinePart.{LinePart}

-- one or more digits stand from a place up to another
pub record AreDigits (text : List ℕ) (from to : ℕ) : Type 0 where
  pub some : from < to
  pub each : (k : ℕ) → from ≤ k → k < to → is_digit (slice_index text k) ≡ true

-- digits stand before and behind a point
pub record HasPoint (text : List ℕ) (from to point : ℕ) : Type 0 where
  pub whole : AreDigits text from point
  pub mark : slice_index text point ≡ 46
  pub part : AreDigits text (point + 1) to

-- the word is a timestamp whose colon stands here
pub record IsStampTo (text : List ℕ) (word : LinePart) (colon : ℕ) : Type 0 where
  pub last : colon + 1 ≡ word.to
  pub mark : slice_index text colon ≡ 58
  pub digits : AreDigits text word.from colon ⊎ ((point : ℕ) × HasPoint text word.from colon point)

-- the word is a timestamp
abbrev pub IsStamp : List ℕ → LinePart → Type 0
IsStamp text word = (colon : ℕ) × IsStampTo text word colon
