-- One line that a journal's reader takes.
use Rattle.std.specs.Prelude.{◌≡◌, ◌⊎◌, ℕ, ◌<◌, Bool, List, [], ◌∷◌, ◌++◌, length, MatchBool}
use Rattle.rv_check.specs.Checker.{CheckerValue, IsBegun}

-- the checker with one more line
abbrev pub one_more : CheckerValue → List ℕ → CheckerValue
one_more c line = record c { lines = c.lines ++ line ∷ [] }

-- what the checker was made with is kept
abbrev pub SameMaking : CheckerValue → CheckerValue → Type 0
SameMaking c new = new ≡ record c { lines = new.lines }

-- the line is good, and taken; or it is too long for an entry, or goes on with no beginning
abbrev pub TakesJournalLine : CheckerValue → List ℕ → Bool → CheckerValue → List ℕ → Type 0
TakesJournalLine c line good new tail =
    SameMaking c new
    × MatchBool good ((new ≡ one_more c line) × IsBegun new × (tail ≡ [])) ((200 < length line) ⊎ (IsBegun (one_more c line) → ⊥))
