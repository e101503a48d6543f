-- The normal form of each operator of two operands at either sign, and of `always` and `eventually`,
-- as two operands joined.
use Rattle.std.proofs.Common.{◌≡◌, Bool, true, false, not, cond, List, refl, ap}
use Rattle.rv_text.specs.Readings.{and_then}
use Rattle.rv_model.specs.Labels.{is_propositional}
use Rattle.rv_model.specs.Ltl.{Ltl, Always, Eventually, Imply, Equivalent, WeakUntil}
use Rattle.rv_nnf.specs.declared.numbers.Joint.{Joint}
use Rattle.rv_nnf.specs.declared.numbers.Joint.TheVariants as joints
use Rattle.rv_nnf.specs.inner.Entering.{try_enter, numbers, and_or_of, until_release_of, part_of, tree_joined}
use Rattle.rv_nnf.specs.Parts.{PartValue}
use Rattle.rv_nnf.specs.Tree.{Tree, Label, tree_of, with_polarity}

-- the operands first, then the part that joins them
pub joined_numbers : (ps : List PartValue) (joint : Joint) (a b : Tree) → numbers ps (tree_joined joint a b) ≡ and_then (numbers ps a) (λ r. and_then (numbers r.0 b) (λ q. try_enter q.0 (part_of joint r.1 q.1)))
joined_numbers ps joints.And a b = refl
joined_numbers ps joints.Or a b = refl
joined_numbers ps joints.Until a b = refl
joined_numbers ps joints.Release a b = refl

-- `always f` is `false release f`
pub always_joined : (f : Ltl) (s : Bool) → tree_of (Always f) s ≡ tree_joined (until_release_of (not s)) (tree_of Ltl.False s) (tree_of f s)
always_joined f true = refl
always_joined f false = refl

-- `eventually f` is `true until f`
pub eventually_joined : (f : Ltl) (s : Bool) → tree_of (Eventually f) s ≡ tree_joined (until_release_of s) (tree_of Ltl.True s) (tree_of f s)
eventually_joined f true = refl
eventually_joined f false = refl

pub until_joined : (f g : Ltl) (s : Bool) → tree_of (Ltl.Until f g) s ≡ tree_joined (until_release_of s) (tree_of f s) (tree_of g s)
until_joined f g true = refl
until_joined f g false = refl

pub release_joined : (f g : Ltl) (s : Bool) → tree_of (Ltl.Release f g) s ≡ tree_joined (until_release_of (not s)) (tree_of f s) (tree_of g s)
release_joined f g true = refl
release_joined f g false = refl

-- `f weak_until g` is `g release (f or g)`
pub weak_until_joined : (f g : Ltl) (s : Bool) → tree_of (WeakUntil f g) s ≡ tree_joined (until_release_of (not s)) (tree_of g s) (tree_of (Ltl.Or f g) s)
weak_until_joined f g true = refl
weak_until_joined f g false = refl

-- a formula with an operator of time in it is no label
no_label : (f : Ltl) (s : Bool) (t : Tree) → is_propositional f ≡ false → cond (is_propositional f) (Label (with_polarity s f)) t ≡ t
no_label f s t h = ap (λ b. cond b (Label (with_polarity s f)) t) h

pub and_joined : (f g : Ltl) (s : Bool) → is_propositional (Ltl.And f g) ≡ false → tree_of (Ltl.And f g) s ≡ tree_joined (and_or_of s) (tree_of f s) (tree_of g s)
and_joined f g true h = no_label (Ltl.And f g) true _ h
and_joined f g false h = no_label (Ltl.And f g) false _ h

pub or_joined : (f g : Ltl) (s : Bool) → is_propositional (Ltl.Or f g) ≡ false → tree_of (Ltl.Or f g) s ≡ tree_joined (and_or_of (not s)) (tree_of f s) (tree_of g s)
or_joined f g true h = no_label (Ltl.Or f g) true _ h
or_joined f g false h = no_label (Ltl.Or f g) false _ h

pub imply_joined : (f g : Ltl) (s : Bool) → is_propositional (Imply f g) ≡ false → tree_of (Imply f g) s ≡ tree_joined (and_or_of (not s)) (tree_of f (not s)) (tree_of g s)
imply_joined f g true h = no_label (Imply f g) true _ h
imply_joined f g false h = no_label (Imply f g) false _ h

-- both hold, or none
pub equivalent_joined : (f g : Ltl) (s : Bool) → is_propositional (Equivalent f g) ≡ false → tree_of (Equivalent f g) s ≡ tree_joined joints.Or (tree_joined joints.And (tree_of f true) (tree_of g s)) (tree_joined joints.And (tree_of f false) (tree_of g (not s)))
equivalent_joined f g true h = no_label (Equivalent f g) true _ h
equivalent_joined f g false h = no_label (Equivalent f g) false _ h
