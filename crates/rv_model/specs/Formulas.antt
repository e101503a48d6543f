-- The program's formulas and rules as plain data, and what a rule keeps.
use Rattle.std.specs.Prelude.{ℕ, ◌<◌, ◌≤◌, List, length, AllPairs}
use Rattle.std.specs.Coded.{Coded, code_by, coded×, coded_ℕ, coded_list}
use Rattle.std.proofs.Common.{refl}
use Rattle.rv_model.specs.Ltl.{Ltl}
use Rattle.rv_model.specs.LtlCode.{coded_ltl}
use Rattle.rv_model.specs.WellFormed.{IsBefore}
use Rattle.rv_model.specs.declared.formula.Formula.{Formula}
use Rattle.rv_model.specs.declared.formula.Formula.TheVariants.{True, False, Atom, Not', Next', Always', Eventually', And', Or', Imply', Equivalent', Until', Release', WeakUntil'}

-- a formula without its boxes
abbrev pub ltl : Formula → Ltl
ltl True = Ltl.True
ltl False = Ltl.False
ltl (Atom a) = Ltl.Atom a
ltl (Not' p f) = Ltl.Not (ltl f)
ltl (Next' p f) = Ltl.Next (ltl f)
ltl (Always' p f) = Ltl.Always (ltl f)
ltl (Eventually' p f) = Ltl.Eventually (ltl f)
ltl (And' p f q g) = Ltl.And (ltl f) (ltl g)
ltl (Or' p f q g) = Ltl.Or (ltl f) (ltl g)
ltl (Imply' p f q g) = Ltl.Imply (ltl f) (ltl g)
ltl (Equivalent' p f q g) = Ltl.Equivalent (ltl f) (ltl g)
ltl (Until' p f q g) = Ltl.Until (ltl f) (ltl g)
ltl (Release' p f q g) = Ltl.Release (ltl f) (ltl g)
ltl (WeakUntil' p f q g) = Ltl.WeakUntil (ltl f) (ltl g)

-- a rule as contracts see it
pub record RuleValue : Type 0 where
  pub atoms : List (List ℕ)
  pub formula : Ltl

-- each atom of the formula has a number below n
abbrev pub HasAtomsBelow : ℕ → Ltl → Type 0
HasAtomsBelow n Ltl.True = Unit {0}
HasAtomsBelow n Ltl.False = Unit {0}
HasAtomsBelow n (Ltl.Atom a) = a < n
HasAtomsBelow n (Ltl.Not f) = HasAtomsBelow n f
HasAtomsBelow n (Ltl.Next f) = HasAtomsBelow n f
HasAtomsBelow n (Ltl.Always f) = HasAtomsBelow n f
HasAtomsBelow n (Ltl.Eventually f) = HasAtomsBelow n f
HasAtomsBelow n (Ltl.And f g) = HasAtomsBelow n f × HasAtomsBelow n g
HasAtomsBelow n (Ltl.Or f g) = HasAtomsBelow n f × HasAtomsBelow n g
HasAtomsBelow n (Ltl.Imply f g) = HasAtomsBelow n f × HasAtomsBelow n g
HasAtomsBelow n (Ltl.Equivalent f g) = HasAtomsBelow n f × HasAtomsBelow n g
HasAtomsBelow n (Ltl.Until f g) = HasAtomsBelow n f × HasAtomsBelow n g
HasAtomsBelow n (Ltl.Release f g) = HasAtomsBelow n f × HasAtomsBelow n g
HasAtomsBelow n (Ltl.WeakUntil f g) = HasAtomsBelow n f × HasAtomsBelow n g

-- what a rule keeps
pub record IsRule (r : RuleValue) : Type 0 where
  pub few_atoms : length r.atoms ≤ 32
  pub atoms_ascend : AllPairs IsBefore r.atoms
  pub in_range : HasAtomsBelow (length r.atoms) r.formula

-- a rule by the code of its parts
abbrev pub coded_rule : Coded RuleValue
coded_rule =
    code_by (List (List ℕ) × Ltl) (coded× (coded_list (coded_list coded_ℕ)) coded_ltl)
    (λ r. (r.atoms, r.formula)) (λ p. record { atoms = p.0; formula = p.1 }) (λ _. refl)
