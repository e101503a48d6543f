-- An ascending list with one number more.
use Rattle.std.proofs.Common.{◌≡◌, ◌≢◌, ℕ, suc, ◌+◌, ◌<◌, ◌≤◌, Bool, true, false, cond, ltb, eqb, List, [], ◌∷◌, ◌⊎◌, length, refl, sym, ap, ◌∙◌, inl, inr, arith}
use Rattle.std.specs.List.{insert}
use Rattle.std.proofs.lemmas.List.Edits.{length-insert}
use Rattle.std.proofs.lemmas.Bool.{eqb-true, eqb-false, ltb-true, ltb-false}
use Rattle.rv_ltl.specs.Atoms.{Has, Rises, inserted}
use Rattle.rv_ltl.specs.inner.Collected.{count_below, stands}

-- an ascending list with one number more at its place ascends
pub rises_inserted : (low x : ℕ) (xs : List ℕ) → low ≤ x → Rises low xs → Rises low (inserted x xs)
rises_inserted low x [] le h = (le, tt)
rises_inserted low x (y ∷ ys) le h = by_less (ltb y x) refl (λ lt. rises_inserted (suc y) x ys lt h.1)
  where
    by_same : (b : Bool) → eqb y x ≡ b → ltb y x ≡ false → Rises low (cond b (y ∷ ys) (x ∷ (y ∷ ys)))
    by_same true t f = h
    by_same false t f =
        let ne : y ≢ x = eqb-false y x t in
        let le' : x ≤ y = ltb-false y x f in
        (le, (omega arith, h.1))

    by_less : (b : Bool) → ltb y x ≡ b → (suc y ≤ x → Rises (suc y) (inserted x ys)) → Rises low (cond b (y ∷ inserted x ys) (cond (eqb y x) (y ∷ ys) (x ∷ (y ∷ ys))))
    by_less true t ih = let lt : y < x = ltb-true y x t in (h.0, ih (omega arith))
    by_less false t ih = by_same (eqb y x) refl t

-- what stands in it is the number or stood there before
pub has_inserted : (x y : ℕ) (xs : List ℕ) → Has (inserted x xs) y → (x ≡ y) ⊎ Has xs y
has_inserted x y [] (inl e) = inl e
has_inserted x y [] (inr n) = absurd n
has_inserted x y (z ∷ zs) h = by_tests (ltb z x) (eqb z x) h (has_inserted x y zs)
  where
    by_tests : (b c : Bool) → Has (cond b (z ∷ inserted x zs) (cond c (z ∷ zs) (x ∷ (z ∷ zs)))) y → (Has (inserted x zs) y → (x ≡ y) ⊎ Has zs y) → (x ≡ y) ⊎ Has (z ∷ zs) y
    by_tests true c h ih = elim h [ inl e ↦ inr (inl e) | inr g ↦ elim (ih g) [ inl e ↦ inl e | inr k ↦ inr (inr k) ] ]
    by_tests false true h ih = inr h
    by_tests false false h ih = h

-- the number stands in it
pub inserted_has : (x : ℕ) (xs : List ℕ) → Has (inserted x xs) x
inserted_has x [] = inl refl
inserted_has x (z ∷ zs) = by_tests (ltb z x) (eqb z x) refl (inserted_has x zs)
  where
    by_tests : (b c : Bool) → eqb z x ≡ c → Has (inserted x zs) x → Has (cond b (z ∷ inserted x zs) (cond c (z ∷ zs) (x ∷ (z ∷ zs)))) x
    by_tests true c t ih = inr ih
    by_tests false true t ih = inl (eqb-true z x t)
    by_tests false false t ih = inl refl

-- what stood there before still stands in it
pub inserted_keeps : (x y : ℕ) (xs : List ℕ) → Has xs y → Has (inserted x xs) y
inserted_keeps x y [] h = absurd h
inserted_keeps x y (z ∷ zs) h = by_tests (ltb z x) (eqb z x) (inserted_keeps x y zs)
  where
    by_tests : (b c : Bool) → (Has zs y → Has (inserted x zs) y) → Has (cond b (z ∷ inserted x zs) (cond c (z ∷ zs) (x ∷ (z ∷ zs)))) y
    by_tests true c ih = elim h [ inl e ↦ inl e | inr g ↦ inr (ih g) ]
    by_tests false true ih = h
    by_tests false false ih = inr h

-- the list with one number more is no shorter
pub length_inserted : (x : ℕ) (xs : List ℕ) → length xs ≤ length (inserted x xs)
length_inserted x [] = omega arith
length_inserted x (z ∷ zs) = by_tests (ltb z x) (eqb z x) (length_inserted x zs)
  where
    by_tests : (b c : Bool) → length zs ≤ length (inserted x zs) → length (z ∷ zs) ≤ length (cond b (z ∷ inserted x zs) (cond c (z ∷ zs) (x ∷ (z ∷ zs))))
    by_tests true c ih = omega arith
    by_tests false true ih = omega arith
    by_tests false false ih = omega arith

-- a list in which the number stands stays as it is
pub inserted_there : (x : ℕ) (xs : List ℕ) → stands x xs ≡ true → inserted x xs ≡ xs
inserted_there x [] h = absurd cc
inserted_there x (z ∷ zs) h = by_tests (ltb z x) (eqb z x) h (inserted_there x zs)
  where
    by_tests : (b c : Bool) → cond b (stands x zs) c ≡ true → (stands x zs ≡ true → inserted x zs ≡ zs) → cond b (z ∷ inserted x zs) (cond c (z ∷ zs) (x ∷ (z ∷ zs))) ≡ z ∷ zs
    by_tests true c h ih = ap (λ (ys : List ℕ). z ∷ ys) (ih h)
    by_tests false true h ih = refl
    by_tests false false h ih = absurd cc

-- a number that does not stand there goes behind those that are below it
pub inserted_new : (x : ℕ) (xs : List ℕ) → stands x xs ≡ false → inserted x xs ≡ insert xs (count_below x xs) x
inserted_new x [] h = refl
inserted_new x (z ∷ zs) h = by_tests (ltb z x) (eqb z x) h (inserted_new x zs)
  where
    by_tests : (b c : Bool) → cond b (stands x zs) c ≡ false → (stands x zs ≡ false → inserted x zs ≡ insert zs (count_below x zs) x)
        → cond b (z ∷ inserted x zs) (cond c (z ∷ zs) (x ∷ (z ∷ zs))) ≡ insert (z ∷ zs) (cond b (suc (count_below x zs)) 0) x
    by_tests true c h ih = ap (λ (ys : List ℕ). z ∷ ys) (ih h)
    by_tests false true h ih = absurd cc
    by_tests false false h ih = refl

-- no more numbers are below another than the list has
count_below_le : (x : ℕ) (xs : List ℕ) → count_below x xs ≤ length xs
count_below_le x [] = omega arith
count_below_le x (z ∷ zs) = by_test (ltb z x) (count_below_le x zs)
  where
    by_test : (b : Bool) → count_below x zs ≤ length zs → cond b (suc (count_below x zs)) 0 ≤ length (z ∷ zs)
    by_test true h = omega arith
    by_test false h = omega arith

-- a new number makes the list longer by one
pub length-inserted_new : (x : ℕ) (xs : List ℕ) → stands x xs ≡ false → length (inserted x xs) ≡ length xs + 1
length-inserted_new x xs h = ap length (inserted_new x xs h) ∙ length-insert xs (count_below x xs) x (count_below_le x xs)

-- a list of at most 32 in which the number stands is the list with that number
pub put_there : (x : ℕ) (xs : List ℕ) (b : Bool) → true ≡ stands x xs → length xs ≤ 32 → (xs ≡ inserted x xs) × (length (inserted x xs) ≤ 32)
put_there x xs b h le = let e = inserted_there x xs (sym h) in (sym e, omega (arith, ap length e))

-- a list of fewer than 32 with the new number at its place is the list with that number
pub put_new : (x place : ℕ) (xs new : List ℕ) → false ≡ stands x xs → place ≡ count_below x xs → new ≡ insert xs place x → length xs ≤ 32 → length xs ≢ 32 → (new ≡ inserted x xs) × (length (inserted x xs) ≤ 32)
put_new x place xs new h p i le ne =
    let e = inserted_new x xs (sym h) in
    let l = length-inserted_new x xs (sym h) in
    (i ∙ ap (λ (n : ℕ). insert xs n x) p ∙ sym e, omega (arith, l))

-- ---- one list for the same members

-- what stands in a list is no smaller than its first bound
pub has_low : (low : ℕ) (xs : List ℕ) (x : ℕ) → Rises low xs → Has xs x → low ≤ x
has_low low [] x r h = absurd h
has_low low (y ∷ ys) x r (inl e) = let k : low ≤ y = r.0 in omega (arith, e, k)
has_low low (y ∷ ys) x r (inr h) = let k : low ≤ y = r.0 in let l = has_low (suc y) ys x r.1 h in omega (arith, l, k)

-- where the heads are the same number, what stands in the one tail stands in the other
rest : (x y : ℕ) (xs ys : List ℕ) → x ≡ y → Rises (suc x) xs → ((z : ℕ) → Has (x ∷ xs) z → Has (y ∷ ys) z) → (z : ℕ) → Has xs z → Has ys z
rest x y xs ys e r f z h =
    elim (f z (inr h)) [
      | inl k ↦ let l = has_low (suc x) xs z r h in absurd (omega (arith, l, e, k))
      | inr k ↦ k
    ]

-- two ascending lists with the same members are one
pub same_list : (low low' : ℕ) (xs ys : List ℕ) → Rises low xs → Rises low' ys → ((z : ℕ) → Has xs z → Has ys z) → ((z : ℕ) → Has ys z → Has xs z) → xs ≡ ys
same_list low low' [] [] r s f g = refl
same_list low low' [] (y ∷ ys) r s f g = absurd (g y (inl refl))
same_list low low' (x ∷ xs) [] r s f g = absurd (f x (inl refl))
same_list low low' (x ∷ xs) (y ∷ ys) r s f g =
    let a = has_low y (y ∷ ys) x (omega arith, s.1) (f x (inl refl)) in
    let b = has_low x (x ∷ xs) y (omega arith, r.1) (g y (inl refl)) in
    let e : x ≡ y = omega (arith, a, b) in
    let tails = same_list (suc x) (suc y) xs ys r.1 s.1 (rest x y xs ys e r.1 f) (rest y x ys xs (sym e) s.1 g) in
    ap (λ (z : ℕ). z ∷ xs) e ∙ ap (λ (zs : List ℕ). y ∷ zs) tails
