-- Lists by their places, and the first element that passes.
use Rattle.std.proofs.Common.{◌≡◌, ℕ, zero, suc, ◌<◌, Bool, true, false, cond, inl, inr, List, [], ◌∷◌, ◌++◌, length, get_or, Some, arith, refl, sym, ap, ◌∙◌, subst, length-append}
use Rattle.std.proofs.lemmas.List.{get_or_append_left}
use Rattle.std.proofs.Math.Seq.{get_or-append_seam}
use Rattle.std.specs.Prelude.{find}
use Rattle.rv_model.specs.Numbers.{list_of}
use Rattle.rv_model.proofs.NumberLemmas.{nat_lt_or}

-- ---- lists by their places
pub length-list_of : {X : Type 0} (f : ℕ → X) (n : ℕ) → length (list_of f n) ≡ n
unfolding list_of
length-list_of f zero = refl
length-list_of f (suc n) = rw (length-append, length-list_of f n) (omega arith)

-- the list of a function's values has at each place the value there
pub get_or-list_of : {X : Type 0} (f : ℕ → X) (n i : ℕ) (d : X) → i < n → get_or (list_of f n) i d ≡ f i
unfolding list_of
get_or-list_of f zero i d lt = absurd (omega arith)
get_or-list_of f (suc n) i d lt =
    elim (nat_lt_or i n (omega arith)) [
      | inl below ↦
          let l : i < length (list_of f n) = rw (length-list_of f n) below in
          get_or_append_left (list_of f n) (f n ∷ []) d i l ∙ get_or-list_of f n i d below
      | inr same ↦
          let e : i ≡ length (list_of f n) = same ∙ sym (length-list_of f n) in
          ap (λ k. get_or (list_of f n ++ f n ∷ []) k d) e ∙ get_or-append_seam (list_of f n) (f n) [] d ∙ ap f (sym same)
    ]

-- ---- the first element that passes
pub record Found {X : Type 0} (p : X → Bool) (xs : List X) (x : X) : Type 0 where
  pub place : ℕ
  pub below : place < length xs
  pub is : get_or xs place x ≡ x
  pub passes : p x ≡ true

-- the element that is found stands in the list and passes
pub find-found : {X : Type 0} (p : X → Bool) (xs : List X) (x : X) → find p xs ≡ Some x → Found p xs x
find-found p [] x e = cc
find-found p (y ∷ ys) x e = go (p y) refl (find-found p ys x)
  where
    go : (b : Bool) → p y ≡ b → (find p ys ≡ Some x → Found p ys x) → Found p (y ∷ ys) x
    go true h rest =
        let here : Some y ≡ Some x = subst (λ b. cond b (Some y) (find p ys) ≡ Some x) h e in
        let same : y ≡ x = cc in
        record { place = 0; below = omega arith; is = same; passes = rw (← same) h }
    go false h rest =
        let f = rest (subst (λ b. cond b (Some y) (find p ys) ≡ Some x) h e) in
        record { place = suc f.place; below = let b = f.below in omega arith; is = f.is; passes = f.passes }

-- where an element passes, one is found
pub find-some : {X : Type 0} (p : X → Bool) (xs : List X) (k : ℕ) (d : X) → k < length xs → p (get_or xs k d) ≡ true → (x : X) × (find p xs ≡ Some x)
find-some p [] k d lt h = absurd (omega arith)
find-some p (y ∷ ys) zero d lt h = (y, rw h refl)
find-some p (y ∷ ys) (suc k) d lt h =
    let f = find-some p ys k d (omega arith) h in
    elim (p y) as (λ b. (x : _) × (cond b (Some y) (find p ys) ≡ Some x)) [ true ↦ (y, refl) | false ↦ f ]
