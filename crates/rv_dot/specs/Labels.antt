-- The events of a label (this project's choice of a DOT subset).
use Rattle.std.specs.Prelude.{ℕ, zero, suc, ◌+◌, ◌&&◌, ◌==◌, List, [], ◌∷◌, length, take, drop, Option, if◌then◌else◌}
use Rattle.std.specs.Option.{option_map, unwrap_or}
use Rattle.rv_text.specs.Places.{is_blank}
use Rattle.rv_dot.specs.Runs.{pair_len}

-- the bytes before the first backslash with an `n` behind it
abbrev pub piece_len : List ℕ → Option ℕ
piece_len label = pair_len 92 110 label

-- the bytes from the first on that is no blank
unfoldable pub without_blanks : List ℕ → List ℕ
without_blanks [] = []
without_blanks (b ∷ bytes) = if is_blank b then without_blanks bytes else b ∷ bytes

-- how many bytes stand up to the last that is no blank
unfoldable pub kept_len : List ℕ → ℕ
kept_len [] = 0
kept_len (b ∷ bytes) = if is_blank b && kept_len bytes == 0 then 0 else kept_len bytes + 1

-- the bytes without the blanks round them
abbrev pub trimmed : List ℕ → List ℕ
trimmed bytes = take (kept_len (without_blanks bytes)) (without_blanks bytes)

-- the first piece, without the blanks round it, and the bytes behind the cut
unfoldable pub piece_of : List ℕ → Option (List ℕ × List ℕ)
piece_of label = option_map (λ len. (trimmed (take len label), drop (len + 2) label)) (piece_len label)

-- the pieces of a label of at most so many bytes, cut at each backslash with an `n` behind it, without the blanks round them
unfoldable pub pieces_within : ℕ → List ℕ → List (List ℕ)
pieces_within zero label = trimmed label ∷ []
pieces_within (suc n) label = unwrap_or (option_map (λ x. x.0 ∷ pieces_within n x.1) (piece_of label)) (trimmed label ∷ [])

-- the events of a label: its pieces
abbrev pub label_events : List ℕ → List (List ℕ)
label_events label = pieces_within (length label) label
