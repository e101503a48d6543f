-- Cuts of a history with one more entry.
use Rattle.std.proofs.Common.{◌≡◌, List, [], ◌∷◌, ◌++◌, ◌⊎◌, inl, inr, reverse, refl, sym, ap, ◌∙◌, subst, append_assoc, append-nil}
use Rattle.std.proofs.lemmas.List.{reverse-append}
use Rattle.rv_model.specs.declared.entry.Entry.{Entry}
use Rattle.rv_model.specs.Cuts.{AtEach}

-- an empty history has no cut
no_cut : (before : List Entry) (e : Entry) (after : List Entry) → [] ≡ before ++ e ∷ after → ⊥
no_cut [] e after eq = cc
no_cut (x ∷ before) e after eq = cc

-- a cut of a list with one more is the new end, or a cut of the list
pub last-cut : (h : List Entry) (e : Entry) (before : List Entry) (f : Entry) (after : List Entry) → h ++ e ∷ [] ≡ before ++ f ∷ after
    → ((before ≡ h) × (f ≡ e)) ⊎ ((rest : List Entry) × (h ≡ before ++ f ∷ rest))
last-cut [] e [] f after eq = inl (refl, cc)
last-cut [] e (x ∷ before) f after eq = absurd (let t : [] ≡ before ++ f ∷ after = cc in no_cut before f after t)
last-cut (y ∷ h) e [] f after eq = inr (h, let same : y ≡ f = cc in ap (λ (z : Entry). z ∷ h) same)
last-cut (y ∷ h) e (x ∷ before) f after eq =
    let tail : h ++ e ∷ [] ≡ before ++ f ∷ after = cc in
    let head : y ≡ x = cc in
    elim (last-cut h e before f after tail) [
      | inl both ↦ inl (let b : before ≡ h = both.0 in ap (λ (z : Entry). z ∷ before) (sym head) ∙ ap (λ (zs : List Entry). y ∷ zs) b, both.1)
      | inr rest ↦ inr (rest.0, ap (λ (z : Entry). z ∷ h) head ∙ ap (λ (zs : List Entry). x ∷ zs) rest.1)
    ]

-- any fact holds at each entry of an empty history
pub at_each-nil : (P : List Entry → Entry → Type 0) → AtEach P []
at_each-nil P before e after eq = absurd (no_cut before e after eq)

-- one more entry, at the end
pub at_each-snoc : (P : List Entry → Entry → Type 0) (h : List Entry) (e : Entry) → AtEach P h → P h e → AtEach P (h ++ e ∷ [])
at_each-snoc P h e all here before f after eq =
    elim (last-cut h e before f after eq) [
      | inl both ↦ subst (λ (b : List Entry). P b f) (sym both.0) (subst (P h) (sym both.1) here)
      | inr rest ↦ all before f rest.0 rest.1
    ]

-- what holds at each entry holds at the last one
pub at_each-last : (P : List Entry → Entry → Type 0) (h : List Entry) (e : Entry) → AtEach P (h ++ e ∷ []) → P h e
at_each-last P h e all = all h e [] refl

-- what holds at each entry holds at each entry of a front
pub at_each-front : (P : List Entry → Entry → Type 0) (h more : List Entry) → AtEach P (h ++ more) → AtEach P h
at_each-front P h more all before e after eq = all before e (after ++ more) (ap (λ (z : List Entry). z ++ more) eq ∙ append_assoc before (e ∷ after) more)

-- where one fact follows from another, it holds at each entry at which the other does
pub at_each-weaker : (P Q : List Entry → Entry → Type 0) → ((before : List Entry) (e : Entry) → P before e → Q before e) → (h : List Entry) → AtEach P h → AtEach Q h
at_each-weaker P Q weaker h all before e after eq = weaker before e (all before e after eq)

-- a cut of a history, read backwards
pub reverse-cut : (before : List Entry) (e : Entry) (after : List Entry) → reverse (before ++ e ∷ after) ≡ reverse after ++ e ∷ reverse before
reverse-cut before e after =
    reverse-append before (e ∷ after) ∙ ap (λ (z : List Entry). z ++ reverse before) (reverse-append (e ∷ []) after) ∙ append_assoc (reverse after) (e ∷ []) (reverse before)

-- more entries, each with what stands before it
pub at_each-append : (P : List Entry → Entry → Type 0) (es more : List Entry) → AtEach P more → ((before : List Entry) (e : Entry) (after : List Entry) → es ≡ before ++ e ∷ after → P (more ++ before) e) → AtEach P (more ++ es)
at_each-append P [] more all here = subst (AtEach P) (sym (append-nil more)) all
at_each-append P (e ∷ es) more all here =
    let first : P more e = subst (λ (b : List Entry). P b e) (append-nil more) (here [] e es refl) in
    let rest = at_each-append P es (more ++ e ∷ []) (at_each-snoc P more e all first)
    (λ before f after eq. subst (λ (b : List Entry). P b f) (sym (append_assoc more (e ∷ []) before)) (here (e ∷ before) f after (ap (λ (z : List Entry). e ∷ z) eq))) in
    subst (AtEach P) (append_assoc more (e ∷ []) es) rest
