-- A bound on a formula's atoms.
use Rattle.std.proofs.Common.{ℕ, ◌≤◌, arith}
use Rattle.rv_model.specs.Formulas.{HasAtomsBelow}
use Rattle.rv_model.specs.Ltl.{Ltl, True, False, Atom, Not, Next, Always, Eventually, And, Or, Imply, Equivalent, Until, Release, WeakUntil}

-- a bound on the atoms may be wider
pub atoms_within : (n m : ℕ) → n ≤ m → (f : Ltl) → HasAtomsBelow n f → HasAtomsBelow m f
atoms_within n m h True a = tt
atoms_within n m h False a = tt
atoms_within n m h (Atom k) a = omega arith
atoms_within n m h (Not f) a = atoms_within n m h f a
atoms_within n m h (Next f) a = atoms_within n m h f a
atoms_within n m h (Always f) a = atoms_within n m h f a
atoms_within n m h (Eventually f) a = atoms_within n m h f a
atoms_within n m h (And f g) a = (atoms_within n m h f a.0, atoms_within n m h g a.1)
atoms_within n m h (Or f g) a = (atoms_within n m h f a.0, atoms_within n m h g a.1)
atoms_within n m h (Imply f g) a = (atoms_within n m h f a.0, atoms_within n m h g a.1)
atoms_within n m h (Equivalent f g) a = (atoms_within n m h f a.0, atoms_within n m h g a.1)
atoms_within n m h (Until f g) a = (atoms_within n m h f a.0, atoms_within n m h g a.1)
atoms_within n m h (Release f g) a = (atoms_within n m h f a.0, atoms_within n m h g a.1)
atoms_within n m h (WeakUntil f g) a = (atoms_within n m h f a.0, atoms_within n m h g a.1)
