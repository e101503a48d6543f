-- A name that may be near.
use Rattle.std.specs.Prelude.{◌≡◌, ℕ, ◌==◌, min, List, [], ◌∷◌, if◌then◌else◌}
use Rattle.rv_matches.specs.declared.near.Near.{Near}
use Rattle.rv_matches.specs.Words.{Counted}

-- a name that is told if its distance is this one
abbrev pub near_at : Counted → ℕ → ℕ → List Near
near_at name distance far = if distance == far then record { name = name.0; lines = name.1; distance = distance } ∷ [] else []

-- both distances are the same, or both are so far
abbrev pub IsAsNear : ℕ → ℕ → ℕ → Type 0
IsAsNear far one other = min one far ≡ min other far
