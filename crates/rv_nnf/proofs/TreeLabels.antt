-- The labels of a normal form are proper: no temporal operators, and atoms below 32.
use Rattle.std.proofs.Common.{◌≡◌, Bool, true, false, cond, refl}
use Rattle.rv_model.specs.Formulas.{HasAtomsBelow}
use Rattle.rv_model.specs.Ltl.{Ltl, True, False, Atom, Not, Next, Always, Eventually, And, Or, Imply, Equivalent, Until, Release, WeakUntil}
use Rattle.rv_nnf.specs.Tree.{Tree, Label, negated, with_polarity, or_label, tree_of}
use Rattle.rv_model.specs.Labels.{is_propositional, IsLabel}
use Rattle.rv_nnf.proofs.Walked.{IsPlainTree}

-- the negation of a label is one
label_negated : (f : Ltl) → IsLabel f → IsLabel (negated f)
label_negated True h = (refl, tt)
label_negated False h = (refl, tt)
label_negated f h = h

-- at either sign
label_with_polarity : (s : Bool) (f : Ltl) → IsLabel f → IsLabel (with_polarity s f)
label_with_polarity true f h = h
label_with_polarity false f h = label_negated f h

-- a formula is one label, or its tree has proper ones
plain_label : (f : Ltl) (s : Bool) (t : Tree) → HasAtomsBelow 32 f → IsPlainTree t → IsPlainTree (or_label f s t)
plain_label f s t a h = go (is_propositional f) refl
  where
    go : (b : Bool) → is_propositional f ≡ b → IsPlainTree (cond b (Label (with_polarity s f)) t)
    go true e = label_with_polarity s f (e, a)
    go false e = h

-- all labels of a normal form are proper
pub tree_plain : (f : Ltl) (s : Bool) → HasAtomsBelow 32 f → IsPlainTree (tree_of f s)
tree_plain True s a = label_with_polarity s True (refl, tt)
tree_plain False s a = label_with_polarity s False (refl, tt)
tree_plain (Atom n) s a = label_with_polarity s (Atom n) (refl, a)
tree_plain (Not f) true a = plain_label (Not f) true _ a (tree_plain f false a)
tree_plain (Not f) false a = plain_label (Not f) false _ a (tree_plain f true a)
tree_plain (And f g) true a = plain_label (And f g) true _ a (tree_plain f true a.0, tree_plain g true a.1)
tree_plain (And f g) false a = plain_label (And f g) false _ a (tree_plain f false a.0, tree_plain g false a.1)
tree_plain (Or f g) true a = plain_label (Or f g) true _ a (tree_plain f true a.0, tree_plain g true a.1)
tree_plain (Or f g) false a = plain_label (Or f g) false _ a (tree_plain f false a.0, tree_plain g false a.1)
tree_plain (Imply f g) true a = plain_label (Imply f g) true _ a (tree_plain f false a.0, tree_plain g true a.1)
tree_plain (Imply f g) false a = plain_label (Imply f g) false _ a (tree_plain f true a.0, tree_plain g false a.1)
tree_plain (Equivalent f g) true a = plain_label (Equivalent f g) true _ a ((tree_plain f true a.0, tree_plain g true a.1), (tree_plain f false a.0, tree_plain g false a.1))
tree_plain (Equivalent f g) false a = plain_label (Equivalent f g) false _ a ((tree_plain f true a.0, tree_plain g false a.1), (tree_plain f false a.0, tree_plain g true a.1))
tree_plain (Next f) s a = tree_plain f s a
tree_plain (Until f g) true a = (tree_plain f true a.0, tree_plain g true a.1)
tree_plain (Until f g) false a = (tree_plain f false a.0, tree_plain g false a.1)
tree_plain (Release f g) true a = (tree_plain f true a.0, tree_plain g true a.1)
tree_plain (Release f g) false a = (tree_plain f false a.0, tree_plain g false a.1)
tree_plain (WeakUntil f g) true a = (tree_plain g true a.1, plain_label (Or f g) true _ a (tree_plain f true a.0, tree_plain g true a.1))
tree_plain (WeakUntil f g) false a = (tree_plain g false a.1, plain_label (Or f g) false _ a (tree_plain f false a.0, tree_plain g false a.1))
tree_plain (Always f) true a = ((refl, tt), tree_plain f true a)
tree_plain (Always f) false a = ((refl, tt), tree_plain f false a)
tree_plain (Eventually f) true a = ((refl, tt), tree_plain f true a)
tree_plain (Eventually f) false a = ((refl, tt), tree_plain f false a)
