-- Labels: formulas that one letter judges.
use Rattle.std.specs.Prelude.{Bool, true, false, ◌&&◌, IsTrue}
use Rattle.rv_model.specs.Formulas.{HasAtomsBelow}
use Rattle.rv_model.specs.Ltl.{Ltl, True, False, Atom, Not, Next, Always, Eventually, And, Or, Imply, Equivalent, Until, Release, WeakUntil}

-- whether the formula has no temporal operator
abbrev pub is_propositional : Ltl → Bool
is_propositional True = true
is_propositional False = true
is_propositional (Atom a) = true
is_propositional (Not f) = is_propositional f
is_propositional (And f g) = is_propositional f && is_propositional g
is_propositional (Or f g) = is_propositional f && is_propositional g
is_propositional (Imply f g) = is_propositional f && is_propositional g
is_propositional (Equivalent f g) = is_propositional f && is_propositional g
is_propositional (Next f) = false
is_propositional (Always f) = false
is_propositional (Eventually f) = false
is_propositional (Until f g) = false
is_propositional (Release f g) = false
is_propositional (WeakUntil f g) = false

-- a label has no temporal operator, and its atoms are below 32
abbrev pub IsLabel : Ltl → Type 0
IsLabel f = IsTrue (is_propositional f) × HasAtomsBelow 32 f
