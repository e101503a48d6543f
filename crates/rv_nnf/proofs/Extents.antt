-- How many operators a formula has, by which its numbering ends.
use Rattle.std.specs.Prelude.{ℕ, ◌+◌}
use Rattle.rv_model.specs.Ltl.{Ltl, True, False, Atom, Not, Next, Always, Eventually, And, Or, Imply, Equivalent, Until, Release, WeakUntil}

-- how many operators there are
abbrev pub extent : Ltl → ℕ
extent True = 0
extent False = 0
extent (Atom a) = 0
extent (Not f) = extent f + 1
extent (Next f) = extent f + 1
extent (Always f) = extent f + 1
extent (Eventually f) = extent f + 1
extent (And f g) = extent f + extent g + 1
extent (Or f g) = extent f + extent g + 1
extent (Imply f g) = extent f + extent g + 1
extent (Equivalent f g) = extent f + extent g + 1
extent (Until f g) = extent f + extent g + 1
extent (Release f g) = extent f + extent g + 1
extent (WeakUntil f g) = extent f + extent g + 1
