-- Pieces as one text, and the two parts of what is printed about a fault.
use Rattle.std.specs.Prelude.{ℕ, List, ◌++◌, codes, map, decimal}
use Rattle.std.specs.Borrow.{Bor}
use Rattle.std.specs.List.{concat}

-- the pieces as one text
abbrev pub joined : List (Bor (List ℕ)) → List ℕ
joined pieces = concat (map (λ piece. piece.now) pieces)

-- the line up to its number
abbrev pub begun_text : List ℕ → List ℕ → List ℕ → List ℕ
begun_text front instance fault = front ++ codes "monitor " ++ instance ++ fault ++ codes " (line "

-- the number and the end
abbrev pub ended_text : ℕ → List ℕ
ended_text line = decimal line ++ codes ")\n"
