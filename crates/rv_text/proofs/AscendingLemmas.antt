-- An ascending list with one key more ascends, and what holds of all of a list holds of the one at a place.
use Rattle.std.proofs.Common.{◌≡◌, ℕ, zero, suc, ◌<◌, List, [], ◌∷◌, length, get_or, refl, ap, ◌∙◌, arith}
use Rattle.std.specs.List.{AllByRecursion}
use Rattle.std.specs.BTreeSet.{insert_key}
use Rattle.std.specs.Cmp.{IsTotalOrder}
use Rattle.std.specs.Ordering.{match_ordering, ordering_reverse}
use Rattle.std.specs.declared.cmp.Ordering.{Ordering}
use Rattle.std.specs.declared.cmp.Ordering.TheVariants.{Less, Equal, Greater}
use Rattle.rv_text.specs.inner.Ascending.{Ascends}

-- what holds of all holds of the one at a place
pub all_at : {K : Type 0} (P : K → Type 0) (xs : List K) (i : ℕ) (d : K) → AllByRecursion P xs → i < length xs → P (get_or xs i d)
all_at P [] i d all lt = absurd (omega arith)
all_at P (x ∷ xs) zero d all lt = all.0
all_at P (x ∷ xs) (suc i) d all lt = all_at P xs i d all.1 (omega arith)

-- what follows from a fact that holds of all holds of all too
all_more : {K : Type 0} (P Q : K → Type 0) (xs : List K) → ((x : K) → P x → Q x) → AllByRecursion P xs → AllByRecursion Q xs
all_more P Q [] f all = tt
all_more P Q (x ∷ xs) f all = (f x all.0, all_more P Q xs f all.1)

module _ {K : Type 0} (cmp : K → K → Ordering) (o : IsTotalOrder cmp) where
  -- what holds of the key and of each member of the set holds of each member of the set with the key
  all_inserted : (P : K → Type 0) (k : K) (ks : List K) → P k → AllByRecursion P ks → AllByRecursion P (insert_key cmp ks k)
  all_inserted P k [] p all = (p, tt)
  all_inserted P k (y ∷ ys) p all = go (cmp k y) (all_inserted P k ys p all.1)
    where
      go : (t : Ordering) → AllByRecursion P (insert_key cmp ys k) → AllByRecursion P (match_ordering t (k ∷ y ∷ ys) (y ∷ ys) (y ∷ insert_key cmp ys k))
      go Less later = (p, all)
      go Equal later = all
      go Greater later = (all.0, later)

  -- the set with one key more ascends
  pub insert_ascends : (k : K) (ks : List K) → Ascends cmp ks → Ascends cmp (insert_key cmp ks k)
  insert_ascends k [] h = (tt, tt)
  insert_ascends k (y ∷ ys) h = go (cmp k y) refl (insert_ascends k ys h.1)
    where
      go : (t : Ordering) → cmp k y ≡ t → Ascends cmp (insert_key cmp ys k) → Ascends cmp (match_ordering t (k ∷ y ∷ ys) (y ∷ ys) (y ∷ insert_key cmp ys k))
      go Less e later = ((e, all_more (λ z. cmp y z ≡ Less) (λ z. cmp k z ≡ Less) ys (λ z below. o.trans k y z e below) h.0), h)
      go Equal e later = h
      go Greater e later =
          let below : cmp y k ≡ Less = o.antisymm y k ∙ ap ordering_reverse e in
          (all_inserted (λ z. cmp y z ≡ Less) k ys below h.0, later)

  -- nothing is below itself
  pub irreflexive : (x : K) → cmp x x ≡ Less → ⊥
  irreflexive x h = let back : cmp x x ≡ Greater = o.antisymm x x ∙ ap ordering_reverse h in cc
