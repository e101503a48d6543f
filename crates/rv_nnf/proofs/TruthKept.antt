-- The normal form keeps truth.
use Rattle.std.proofs.Common.{◌≡◌, ℕ, Bool, true, false, cond, List, refl, sym, ap, ◌∙◌}
use mathlib.Core.Path.{ap₂}
use Rattle.rv_model.specs.Labels.{is_propositional}
use Rattle.rv_model.specs.Ltl.{Ltl, True, False, Atom, Not, Next, Always, Eventually, And, Or, Imply, Equivalent, Until, Release, WeakUntil}
use Rattle.rv_model.specs.Truth.{View}
use Rattle.rv_model.specs.Meaning.{Meaning, true_m, not_m, and_m, or_m, next_m, until_m, release_m, meaning}
use Rattle.rv_model.proofs.TruthLemmas.{proper}
use Rattle.rv_nnf.specs.Tree.{Tree, Label, negated, with_polarity, or_label, tree_of, tree_meaning}
use Rattle.rv_nnf.proofs.Denials.{not_not_m, not_and_m, not_or_m, not_next_m, not_true_m, not_false_m, not_until_m, not_same_m}
use Rattle.rv_nnf.proofs.NarrowViews.{narrow}

-- the meaning with a sign
abbrev says : Bool → Meaning → Meaning
says true m = m
says false m = not_m m

-- the label of a negation denies
negated_says : (f : Ltl) → meaning (negated f) ≡ not_m (meaning f)
negated_says True = sym not_true_m
negated_says False = sym not_false_m
negated_says f = refl

-- at either sign
with_polarity_says : (s : Bool) (f : Ltl) → meaning (with_polarity s f) ≡ says s (meaning f)
with_polarity_says true f = refl
with_polarity_says false f = negated_says f

-- a formula that is one label, or its tree
label_says : (f : Ltl) (s : Bool) (t : Tree) → tree_meaning t ≡ says s (meaning f) → tree_meaning (or_label f s t) ≡ says s (meaning f)
label_says f s t h = elim (is_propositional f) as (λ b. tree_meaning (cond b (Label (with_polarity s f)) t) ≡ says s (meaning f)) [ true ↦ with_polarity_says s f | false ↦ h ]

-- the normal form says what the formula says, and that of the negation what its denial says
pub keeps : (f : Ltl) (s : Bool) → tree_meaning (tree_of f s) ≡ says s (meaning f)
keeps True s = with_polarity_says s True
keeps False s = with_polarity_says s False
keeps (Atom a) s = with_polarity_says s (Atom a)
keeps (Not f) true = label_says (Not f) true _ (keeps f false)
keeps (Not f) false = label_says (Not f) false _ (keeps f true ∙ sym (not_not_m (meaning f) (proper f)))
keeps (And f g) true = label_says (And f g) true _ (ap₂ and_m (keeps f true) (keeps g true))
keeps (And f g) false = label_says (And f g) false _ (ap₂ or_m (keeps f false) (keeps g false) ∙ sym (not_and_m (meaning f) (meaning g)))
keeps (Or f g) true = label_says (Or f g) true _ (ap₂ or_m (keeps f true) (keeps g true))
keeps (Or f g) false = label_says (Or f g) false _ (ap₂ and_m (keeps f false) (keeps g false) ∙ sym (not_or_m (meaning f) (meaning g)))
keeps (Imply f g) true = label_says (Imply f g) true _ (ap₂ or_m (keeps f false) (keeps g true))
keeps (Imply f g) false = label_says (Imply f g) false _ (ap₂ and_m (keeps f true ∙ sym (not_not_m (meaning f) (proper f))) (keeps g false) ∙ sym (not_or_m (not_m (meaning f)) (meaning g)))
keeps (Equivalent f g) true = label_says (Equivalent f g) true _ (ap₂ or_m (ap₂ and_m (keeps f true) (keeps g true)) (ap₂ and_m (keeps f false) (keeps g false)))
keeps (Equivalent f g) false = label_says (Equivalent f g) false _ (ap₂ or_m (ap₂ and_m (keeps f true) (keeps g false)) (ap₂ and_m (keeps f false) (keeps g true)) ∙ sym (not_same_m (meaning f) (meaning g) (narrow f) (narrow g)))
keeps (Next f) true = ap next_m (keeps f true)
keeps (Next f) false = ap next_m (keeps f false) ∙ sym (not_next_m (meaning f) (proper f))
keeps (Until f g) true = ap₂ until_m (keeps f true) (keeps g true)
keeps (Until f g) false = ap₂ release_m (keeps f false) (keeps g false) ∙ sym (not_until_m (meaning f) (meaning g) (proper f) (proper g))
keeps (Release f g) true = ap₂ release_m (keeps f true) (keeps g true)
keeps (Release f g) false = ap₂ until_m (keeps f false) (keeps g false) ∙ sym (not_not_m (until_m (not_m (meaning f)) (not_m (meaning g))) (λ v. refl))
keeps (WeakUntil f g) true = ap₂ release_m (keeps g true) (label_says (Or f g) true _ (ap₂ or_m (keeps f true) (keeps g true)))
keeps (WeakUntil f g) false =
    ap₂ until_m (keeps g false) (label_says (Or f g) false _ (ap₂ and_m (keeps f false) (keeps g false) ∙ sym (not_or_m (meaning f) (meaning g))))
    ∙ sym (not_not_m (until_m (not_m (meaning g)) (not_m (or_m (meaning f) (meaning g)))) (λ v. refl))
keeps (Always f) true = ap (release_m (meaning False)) (keeps f true) ∙ ap (λ m. not_m (until_m m (not_m (meaning f)))) not_false_m
keeps (Always f) false = ap (until_m true_m) (keeps f false) ∙ sym (not_not_m (until_m true_m (not_m (meaning f))) (λ v. refl))
keeps (Eventually f) true = ap (until_m true_m) (keeps f true)
keeps (Eventually f) false = ap (release_m (meaning False)) (keeps f false) ∙ ap (λ m. release_m m (not_m (meaning f))) (sym not_true_m) ∙ sym (not_until_m true_m (meaning f) (λ v. refl) (proper f))

-- in each view, on all letters
pub keeps_at : (f : Ltl) (s : Bool) (v : View) (w : List ℕ) → tree_meaning (tree_of f s) v w ≡ says s (meaning f) v w
keeps_at f s v w = ap (λ (m : Meaning). m v w) (keeps f s)
