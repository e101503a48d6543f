-- When a word that was read is kept besides those before it.
use Rattle.std.specs.Prelude.{◌≡◌, ◌≢◌, ◌⊎◌, ℕ, ◌+◌, ◌<◌, List, [], ◌∷◌, ◌++◌, length}
use Rattle.rv_watch.specs.Words.{last_word, IsSeen}

-- ---- what is kept

-- the word is put behind the others where there are fewer than 1,024 and the last one is another, and else they stay as they are
abbrev pub AppendsWord : List ℕ → ℕ → List ℕ → Type 0
AppendsWord old word new = ((length old < 1024) × (0 < length old → last_word old ≢ word) × (new ≡ old ++ word ∷ [])) ⊎ (IsSeen old word × (new ≡ old))
