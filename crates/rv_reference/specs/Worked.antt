-- Worked rules as plain values: their atoms are named by letters.
use Rattle.std.specs.Prelude.{ℕ, ◌+◌, List, [], ◌∷◌}
use Rattle.rv_model.specs.Numbers.{list_of}

-- the names A, B and so on, as many as there are
abbrev pub letter_name : ℕ → List ℕ
letter_name k = (65 + k) ∷ []

-- so many of these names, from A on
abbrev pub letter_names : ℕ → List (List ℕ)
letter_names n = list_of letter_name n
