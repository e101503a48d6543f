-- A DOT text (this project's subset), from its bytes.
use Rattle.std.specs.Prelude.{ℕ, List, Option, true, ◌≡◌}
use Rattle.rv_dot.specs.Tokens.{tokens_of, ◌>>=◌}
use Rattle.rv_dot.specs.Pieces.{Piece, SplitsInto, tokens_in}
use Rattle.rv_dot.specs.Statements.{Claim, claims_of}
use Rattle.rv_dot.specs.Grammar.{File, IsFile, file}

-- the bytes are made of pieces, whose tokens spell the file
abbrev pub IsTextOf : List ℕ → File → Type 0
IsTextOf bytes f = IsFile f × (ps : List Piece) × SplitsInto true bytes ps × (tokens_in ps ≡ file f)

-- what the bytes say, where they are in the grammar
abbrev pub said_by : List ℕ → Option (List Claim)
said_by bytes = tokens_of bytes >>= claims_of
