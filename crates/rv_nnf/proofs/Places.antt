-- Places in a list by a test of equality.
use Rattle.std.proofs.Common.{◌≡◌, ℕ, zero, suc, ◌<◌, ◌≤◌, Bool, true, false, ◌||◌, cond, List, [], ◌∷◌, ◌++◌, length, get_or, refl, sym, ap, ◌∙◌, arith}
use Rattle.std.specs.Bool.{Decides}
use Rattle.std.proofs.lemmas.List.Folds.{list_any-append}
use Rattle.std.proofs.lemmas.Bool.{false≢true, or_left, or_right}
use Rattle.rv_nnf.specs.Lists.{decided, among, place, with_new, firsts}

-- a decision as a test decides
pub decided_decides : {P : Type 0} (d : Dec P) → Decides (decided d) P
decided_decides (yes p) = (λ _. p, λ _. refl)
decided_decides (no n) = (λ e. absurd (false≢true e), λ p. absurd (n p))

module _ {A : Type 0} (same : A → A → Bool) (ok : (a b : A) → Decides (same a b) (a ≡ b)) where
  -- each is the same as itself
  refl_true : (a : A) → same a a ≡ true
  refl_true a = (ok a a).1 refl

  -- what is there has a place
  pub place_lt : (xs : List A) (x : A) → among same xs x ≡ true → place same xs x < length xs
  place_lt [] x h = absurd (false≢true h)
  place_lt (y ∷ ys) x h = go (same y x) h (place_lt ys x)
    where
      go : (b : Bool) → (b || among same ys x) ≡ true → (among same ys x ≡ true → place same ys x < length ys) → cond b 0 (suc (place same ys x)) < suc (length ys)
      go true e ih = omega arith
      go false e ih = let l = ih e in omega arith

  -- at its place it stands
  pub get_place : (xs : List A) (x d : A) → among same xs x ≡ true → get_or xs (place same xs x) d ≡ x
  get_place [] x d h = absurd (false≢true h)
  get_place (y ∷ ys) x d h = go (same y x) refl h (get_place ys x d)
    where
      go : (b : Bool) → same y x ≡ b → (b || among same ys x) ≡ true → (among same ys x ≡ true → get_or ys (place same ys x) d ≡ x) → get_or (y ∷ ys) (cond b 0 (suc (place same ys x))) d ≡ x
      go true e h ih = (ok y x).0 e
      go false e h ih = ih h

  -- it keeps its place as the list goes on
  pub place_append : (xs ys : List A) (x : A) → among same xs x ≡ true → place same (xs ++ ys) x ≡ place same xs x
  place_append [] ys x h = absurd (false≢true h)
  place_append (y ∷ xs) ys x h = go (same y x) h (place_append xs ys x)
    where
      go : (b : Bool) → (b || among same xs x) ≡ true → (among same xs x ≡ true → place same (xs ++ ys) x ≡ place same xs x) → cond b 0 (suc (place same (xs ++ ys) x)) ≡ cond b 0 (suc (place same xs x))
      go true e ih = refl
      go false e ih = ap suc (ih e)

  -- what is new at the end has the last place
  pub place_end : (xs : List A) (x : A) → among same xs x ≡ false → place same (xs ++ x ∷ []) x ≡ length xs
  place_end [] x h = ap (λ b. cond b 0 (suc 0)) (refl_true x)
  place_end (y ∷ ys) x h = go (same y x) h (place_end ys x)
    where
      go : (b : Bool) → (b || among same ys x) ≡ false → (among same ys x ≡ false → place same (ys ++ x ∷ []) x ≡ length ys) → cond b 0 (suc (place same (ys ++ x ∷ []) x)) ≡ suc (length ys)
      go true e ih = absurd (false≢true (sym e))
      go false e ih = ap suc (ih e)

  -- in a list that goes on
  pub among_append : (xs ys : List A) (x : A) → among same (xs ++ ys) x ≡ (among same xs x || among same ys x)
  among_append xs ys x = list_any-append (λ y. same y x) xs ys

  -- what is there stays
  pub among_kept : (xs ys : List A) (x : A) → among same xs x ≡ true → among same (xs ++ ys) x ≡ true
  among_kept xs ys x h = among_append xs ys x ∙ or_left _ _ h

  -- what comes last is there
  pub among_end : (xs : List A) (x : A) → among same (xs ++ x ∷ []) x ≡ true
  among_end xs x = among_append xs (x ∷ []) x ∙ or_right _ _ (or_left _ _ (refl_true x))

  -- what stands at a place is there
  pub among_get : (xs : List A) (k : ℕ) (d : A) → k < length xs → among same xs (get_or xs k d) ≡ true
  among_get [] k d h = absurd (omega arith)
  among_get (y ∷ ys) zero d h = or_left _ _ (refl_true y)
  among_get (y ∷ ys) (suc k) d h = or_right _ _ (among_get ys k d (omega arith))

  -- two that have one place are one
  pub place_inj : (xs : List A) (x y : A) → among same xs x ≡ true → among same xs y ≡ true → place same xs x ≡ place same xs y → x ≡ y
  place_inj xs x y h k e = sym (get_place xs x x h) ∙ ap (λ n. get_or xs n x) e ∙ get_place xs y x k

  -- what is there already stays where it is
  pub new_kept : (xs : List A) (x u : A) → among same xs u ≡ true → among same (with_new same xs x) u ≡ true
  new_kept xs x u h = go (among same xs x)
    where
      go : (b : Bool) → among same (cond b xs (xs ++ x ∷ [])) u ≡ true
      go true = h
      go false = among_kept xs (x ∷ []) u h

  -- and keeps its place
  pub new_place : (xs : List A) (x u : A) → among same xs u ≡ true → place same (with_new same xs x) u ≡ place same xs u
  new_place xs x u h = go (among same xs x)
    where
      go : (b : Bool) → place same (cond b xs (xs ++ x ∷ [])) u ≡ place same xs u
      go true = refl
      go false = place_append xs (x ∷ []) u h

  -- what is added is there
  pub new_there : (xs : List A) (x : A) → among same (with_new same xs x) x ≡ true
  new_there xs x = go (among same xs x) refl
    where
      go : (b : Bool) → among same xs x ≡ b → among same (cond b xs (xs ++ x ∷ [])) x ≡ true
      go true e = e
      go false e = among_end xs x

  -- first uses in two lists, one after the other
  pub firsts_append : (done xs ys : List A) → firsts same done (xs ++ ys) ≡ firsts same (firsts same done xs) ys
  firsts_append done [] ys = refl
  firsts_append done (x ∷ xs) ys = firsts_append (with_new same done x) xs ys

  -- what is done stays
  pub firsts_kept : (done xs : List A) (u : A) → among same done u ≡ true → among same (firsts same done xs) u ≡ true
  firsts_kept done [] u h = h
  firsts_kept done (x ∷ xs) u h = firsts_kept (with_new same done x) xs u (new_kept done x u h)

  -- and keeps its place through all of them
  pub firsts_place : (done xs : List A) (u : A) → among same done u ≡ true → place same (firsts same done xs) u ≡ place same done u
  firsts_place done [] u h = refl
  firsts_place done (x ∷ xs) u h = firsts_place (with_new same done x) xs u (new_kept done x u h) ∙ new_place done x u h

  -- a place is within the list
  pub place_le : (xs : List A) (x : A) → place same xs x ≤ length xs
  place_le [] x = omega arith
  place_le (y ∷ ys) x = go (same y x) (place_le ys x)
    where
      go : (b : Bool) → place same ys x ≤ length ys → cond b 0 (suc (place same ys x)) ≤ suc (length ys)
      go true l = omega arith
      go false l = omega arith

  -- what has a place is there
  pub among_from_place : (xs : List A) (x : A) → place same xs x < length xs → among same xs x ≡ true
  among_from_place [] x h = absurd (omega arith)
  among_from_place (y ∷ ys) x h = go (same y x) h (among_from_place ys x)
    where
      go : (b : Bool) → cond b 0 (suc (place same ys x)) < suc (length ys) → (place same ys x < length ys → among same ys x ≡ true) → (b || among same ys x) ≡ true
      go true l ih = refl
      go false l ih = ih (omega arith)

  -- what has none is not
  pub not_among : (xs : List A) (x : A) → length xs ≤ place same xs x → among same xs x ≡ false
  not_among xs x h = go (among same xs x) refl
    where
      go : (b : Bool) → among same xs x ≡ b → b ≡ false
      go true e = let l = place_lt xs x e in absurd (omega arith)
      go false e = refl
