-- Places of names in lists of names that ascend.
use Rattle.std.proofs.Common.{◌≡◌, ℕ, zero, suc, ◌<◌, ◌≤◌, Bool, true, false, List, [], ◌∷◌, length, get_or, Option, Some, None, cond, refl, sym, ap, ◌∙◌, subst, arith, Bor}
use Rattle.std.specs.Prelude.{map, nat_lt}
use Rattle.std.proofs.lemmas.Bool.Decides.{nat_tests}
use Rattle.std.specs.List.{AllByRecursion}
use Rattle.std.specs.List.Sorted.{IsNonDecreasingBy, IsPartitionPoint}
use Rattle.std.specs.Str.{bytes_eq}
use Rattle.std.specs.Cmp.Lexicographic.{slice_cmp, nat_list_cmp_total}
use Rattle.std.specs.Ordering.{nat_cmp, ordering_index, is_eq}
use Rattle.std.specs.declared.cmp.Ordering.{Ordering}
use Rattle.std.specs.declared.cmp.Ordering.TheVariants.{Less, Equal, Greater}
use Rattle.std.proofs.lemmas.Map.Text.{is_eq-slice_cmp}
use Rattle.rv_text.specs.inner.Ascending.{Ascends}
use Rattle.rv_dot.specs.Sets.{place_of}
use Rattle.rv_dot.specs.inner.Held.{bytes_of}
use Rattle.rv_dot.proofs.NameSets.{same_name}

-- names compare by bytes
abbrev pub by_bytes : List ℕ → List ℕ → Ordering
by_bytes x y = slice_cmp nat_cmp x y

-- what holds of each name holds of the name at a place
all_at : (P : List ℕ → Type 0) (names : List (Bor (List ℕ))) (i : ℕ) (d : Bor (List ℕ)) → AllByRecursion P (map bytes_of names) → i < length names → P (get_or names i d).now
all_at P [] i d all lt = absurd (omega arith)
all_at P (x ∷ names) zero d all lt = all.0
all_at P (x ∷ names) (suc i) d all lt = all_at P names i d all.1 (omega arith)

-- a name at an earlier place is below one at a later place
pub ascends_at : (names : List (Bor (List ℕ))) (i j : ℕ) (d : Bor (List ℕ)) → Ascends (slice_cmp nat_cmp) (map bytes_of names) → i < j → j < length names → by_bytes (get_or names i d).now (get_or names j d).now ≡ Less
ascends_at [] i j d up lt within = absurd (omega arith)
ascends_at (x ∷ names) zero zero d up lt within = absurd (omega arith)
ascends_at (x ∷ names) zero (suc j) d up lt within = all_at (λ y. by_bytes x.now y ≡ Less) names j d up.0 (omega arith)
ascends_at (x ∷ names) (suc i) zero d up lt within = absurd (omega arith)
ascends_at (x ∷ names) (suc i) (suc j) d up lt within = ascends_at names i j d up.1 (omega arith) (omega arith)

-- equal names pass the test
same_test : (x y : List ℕ) → by_bytes x y ≡ Equal → bytes_eq x y ≡ true
same_test x y e = sym (is_eq-slice_cmp x y) ∙ ap is_eq e

-- names in order are apart
pub below_test : (x y : List ℕ) → by_bytes x y ≡ Less → bytes_eq x y ≡ false
below_test x y e = sym (is_eq-slice_cmp x y) ∙ ap is_eq e

-- the name at a place of an ascending list has this place
pub place_of-found : (names : List (Bor (List ℕ))) (name : List ℕ) (i : ℕ) (d : Bor (List ℕ)) → Ascends (slice_cmp nat_cmp) (map bytes_of names) → i < length names → by_bytes (get_or names i d).now name ≡ Equal → place_of name (map bytes_of names) ≡ Some i
unfolding place_of
place_of-found [] name i d up lt is = absurd (omega arith)
place_of-found (x ∷ names) name zero d up lt is = rw (same_test x.now name is) refl
place_of-found (x ∷ names) name (suc i) d up lt is =
    let below : by_bytes x.now (get_or names i d).now ≡ Less = all_at (λ y. by_bytes x.now y ≡ Less) names i d up.0 (omega arith) in
    let apart : by_bytes x.now name ≡ Less = subst (λ z. by_bytes x.now z ≡ Less) (same_name (get_or names i d).now name is) below in
    rw (below_test x.now name apart, place_of-found names name i d up.1 (omega arith) is) (ap Some (omega arith))

-- no place
abbrev nothing : Option ℕ
nothing = None

-- a name that compares as equal to none has no place
pub place_of-none : (names : List (Bor (List ℕ))) (name : List ℕ) → ((i : ℕ) (d : Bor (List ℕ)) → i < length names → by_bytes (get_or names i d).now name ≡ Equal → ⊥) → place_of name (map bytes_of names) ≡ None
unfolding place_of
place_of-none [] name none = refl
place_of-none (x ∷ names) name none =
    rw (place_of-none names name (λ i d lt is. none (suc i) d (omega arith) is)) (go (by_bytes x.now name) refl (is_eq-slice_cmp x.now name))
  where
    go : (o : Ordering) → by_bytes x.now name ≡ o → is_eq (by_bytes x.now name) ≡ bytes_eq x.now name → cond (bytes_eq x.now name) (Some 0) nothing ≡ nothing
    go Less e test = rw (sym test ∙ ap is_eq e) refl
    go Equal e test = absurd (none 0 x (omega arith) e)
    go Greater e test = rw (sym test ∙ ap is_eq e) refl

-- there are three answers
few : (o : Ordering) → ordering_index o ≤ 2
few Less = omega arith
few Equal = omega arith
few Greater = omega arith

-- the answers of a search rise along an ascending list
pub rises : (names : List (Bor (List ℕ))) (name : List ℕ) → Ascends (slice_cmp nat_cmp) (map bytes_of names) → IsNonDecreasingBy (λ (y : Bor (List ℕ)). ordering_index (by_bytes y.now name)) names
rises names name up i j d le within = go (nat_lt i j) refl
  where
    earlier : i < j → (o : Ordering) → by_bytes (get_or names j d).now name ≡ o → ordering_index (by_bytes (get_or names i d).now name) ≤ ordering_index o
    earlier lt Less e =
        let less : by_bytes (get_or names i d).now name ≡ Less = nat_list_cmp_total.trans (get_or names i d).now (get_or names j d).now name (ascends_at names i j d up lt within) e in
        rw less (omega arith)
    earlier lt Equal e =
        let less : by_bytes (get_or names i d).now name ≡ Less = subst (λ z. by_bytes (get_or names i d).now z ≡ Less) (same_name (get_or names j d).now name e) (ascends_at names i j d up lt within) in
        rw less (omega arith)
    earlier lt Greater e = few (by_bytes (get_or names i d).now name)

    go : (t : Bool) → nat_lt i j ≡ t → ordering_index (by_bytes (get_or names i d).now name) ≤ ordering_index (by_bytes (get_or names j d).now name)
    go true h = let lt : i < j = grind (arith, nat_tests) in earlier lt (by_bytes (get_or names j d).now name) refl
    go false h = let e : i ≡ j = grind (arith, nat_tests) in subst (λ k. ordering_index (by_bytes (get_or names i d).now name) ≤ ordering_index (by_bytes (get_or names k d).now name)) e (omega arith)

-- where a search ends between the lower and the higher names there is no place
pub place_of-between : (names : List (Bor (List ℕ))) (name : List ℕ) (i : ℕ) → IsPartitionPoint (λ (y : Bor (List ℕ)). by_bytes y.now name ≡ Less) (λ (y : Bor (List ℕ)). by_bytes y.now name ≡ Greater) names i → place_of name (map bytes_of names) ≡ None
place_of-between names name i h = place_of-none names name (λ k d lt is. go k d lt is (nat_lt k i) refl)
  where
    go : (k : ℕ) (d : Bor (List ℕ)) → k < length names → by_bytes (get_or names k d).now name ≡ Equal → (t : Bool) → nat_lt k i ≡ t → ⊥
    go k d lt is true e = let less : by_bytes (get_or names k d).now name ≡ Less = h.0 k d (omega arith) (grind (arith, nat_tests)) in cc
    go k d lt is false e = let more : by_bytes (get_or names k d).now name ≡ Greater = h.1 k d (grind (arith, nat_tests)) lt in cc
