-- The pieces of a text: what stands between the bytes that part it, of which each is the separator.
use Rattle.std.specs.Prelude.{ℕ, ◌==◌, List, [], ◌∷◌, Option, Some, None, if◌then◌else◌}

-- a byte in front of the first piece
abbrev pub begin_with : ℕ → List (List ℕ) → List (List ℕ)
begin_with byte [] = (byte ∷ []) ∷ []
begin_with byte (piece ∷ pieces) = (byte ∷ piece) ∷ pieces

-- the pieces of a text, one more than it has separators
unfoldable pub pieces_by : ℕ → List ℕ → List (List ℕ)
pieces_by separator [] = [] ∷ []
pieces_by separator (byte ∷ bytes) = if byte == separator then [] ∷ pieces_by separator bytes else begin_with byte (pieces_by separator bytes)

-- the pieces of what is left of a text
abbrev pub pieces_left : ℕ → Option (List ℕ) → List (List ℕ)
pieces_left separator None = []
pieces_left separator (Some text) = pieces_by separator text
