-- The weight of a formula, which bounds how deep it is.
use Rattle.std.specs.Prelude.{ℕ, ◌+◌, ◌*◌}
use Rattle.rv_model.specs.Ltl.{Ltl}

-- how many constants, atoms and operators a formula has, with `equivalent` as three operators on both its operands twice,
-- and `f weak_until g` as `g release (f or g)`
abbrev pub weight : Ltl → ℕ
weight Ltl.True = 1
weight Ltl.False = 1
weight (Ltl.Atom a) = 1
weight (Ltl.Not f) = 1 + weight f
weight (Ltl.Next f) = 1 + weight f
weight (Ltl.Always f) = 1 + weight f
weight (Ltl.Eventually f) = 1 + weight f
weight (Ltl.And f g) = 1 + (weight f + weight g)
weight (Ltl.Or f g) = 1 + (weight f + weight g)
weight (Ltl.Imply f g) = 1 + (weight f + weight g)
weight (Ltl.Equivalent f g) = 3 + 2 * (weight f + weight g)
weight (Ltl.Until f g) = 1 + (weight f + weight g)
weight (Ltl.Release f g) = 1 + (weight f + weight g)
weight (Ltl.WeakUntil f g) = 2 + (weight f + 2 * weight g)
