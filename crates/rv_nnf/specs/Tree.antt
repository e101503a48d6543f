-- The normal form of a formula as a tree, in which a negation stands inside a label alone (Gerth, Peled, Vardi and Wolper, 1995).
-- A label is a formula without temporal operators, and counts as one.
use Rattle.std.specs.Prelude.{Bool, true, false, not, cond}
use Rattle.rv_model.specs.Labels.{is_propositional}
use Rattle.rv_model.specs.Ltl.{Ltl, True, False, Atom, Not, Always, Eventually, Imply, Equivalent, WeakUntil}
use Rattle.rv_model.specs.Meaning.{Meaning, meaning, and_m, or_m, next_m, until_m, release_m}

-- a label; what holds next; both; one of two; the first until the second; the second up to where the first releases it
pub data Tree : Type 0 where
  Label : Ltl → Tree
  Next : Tree → Tree
  And Or Until Release : Tree → Tree → Tree
  deriving Discrete as Tree-discrete

-- the label of a negation
abbrev pub negated : Ltl → Ltl
negated True = False
negated False = True
negated f = Not f

-- the label of the formula at true, and of its negation at false
abbrev pub with_polarity : Bool → Ltl → Ltl
with_polarity true f = f
with_polarity false f = negated f

-- one label, where the formula has no temporal operator
abbrev pub or_label : Ltl → Bool → Tree → Tree
or_label f polarity t = cond (is_propositional f) (Label (with_polarity polarity f)) t

-- the normal form of the formula at true, and of its negation at false; that of `f weak_until g` is that of `g release (f or g)`
abbrev pub tree_of : Ltl → Bool → Tree
tree_of True polarity = Label (with_polarity polarity True)
tree_of False polarity = Label (with_polarity polarity False)
tree_of (Atom a) polarity = Label (with_polarity polarity (Atom a))
tree_of (Not f) polarity = or_label (Not f) polarity (tree_of f (not polarity))
tree_of (Ltl.And f g) true = or_label (Ltl.And f g) true (And (tree_of f true) (tree_of g true))
tree_of (Ltl.And f g) false = or_label (Ltl.And f g) false (Or (tree_of f false) (tree_of g false))
tree_of (Ltl.Or f g) true = or_label (Ltl.Or f g) true (Or (tree_of f true) (tree_of g true))
tree_of (Ltl.Or f g) false = or_label (Ltl.Or f g) false (And (tree_of f false) (tree_of g false))
tree_of (Imply f g) true = or_label (Imply f g) true (Or (tree_of f false) (tree_of g true))
tree_of (Imply f g) false = or_label (Imply f g) false (And (tree_of f true) (tree_of g false))
tree_of (Equivalent f g) true = or_label (Equivalent f g) true (Or (And (tree_of f true) (tree_of g true)) (And (tree_of f false) (tree_of g false)))
tree_of (Equivalent f g) false = or_label (Equivalent f g) false (Or (And (tree_of f true) (tree_of g false)) (And (tree_of f false) (tree_of g true)))
tree_of (Ltl.Next f) polarity = Next (tree_of f polarity)
tree_of (Ltl.Until f g) true = Until (tree_of f true) (tree_of g true)
tree_of (Ltl.Until f g) false = Release (tree_of f false) (tree_of g false)
tree_of (Ltl.Release f g) true = Release (tree_of f true) (tree_of g true)
tree_of (Ltl.Release f g) false = Until (tree_of f false) (tree_of g false)
tree_of (WeakUntil f g) true = Release (tree_of g true) (or_label (Ltl.Or f g) true (Or (tree_of f true) (tree_of g true)))
tree_of (WeakUntil f g) false = Until (tree_of g false) (or_label (Ltl.Or f g) false (And (tree_of f false) (tree_of g false)))
tree_of (Always f) true = Release (Label False) (tree_of f true)
tree_of (Always f) false = Until (Label True) (tree_of f false)
tree_of (Eventually f) true = Until (Label True) (tree_of f true)
tree_of (Eventually f) false = Release (Label False) (tree_of f false)

-- what a normal form says: a label as its formula, and a release as the until that it denies
abbrev pub tree_meaning : Tree → Meaning
tree_meaning (Label f) = meaning f
tree_meaning (Next a) = next_m (tree_meaning a)
tree_meaning (And a b) = and_m (tree_meaning a) (tree_meaning b)
tree_meaning (Or a b) = or_m (tree_meaning a) (tree_meaning b)
tree_meaning (Until a b) = until_m (tree_meaning a) (tree_meaning b)
tree_meaning (Release a b) = release_m (tree_meaning a) (tree_meaning b)
