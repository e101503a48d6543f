-- Names stay apart where one more is added that no container and no monitor has.
use Rattle.std.proofs.Common.{◌≡◌, ℕ, suc, ◌<◌, Bool, true, false, ◌&&◌, ◌||◌, List, [], ◌∷◌, ◌++◌, map, length, get_or, inl, inr, refl, sym, ap, ◌∙◌, subst, arith, append-nil}
use Rattle.std.specs.Prelude.{IsTrue, bytes_eq, is_some, position}
use Rattle.std.specs.List.{AllByRecursion, list_all, list_any, position_or_len}
use Rattle.std.proofs.lemmas.Bool.{cases_lt, lt-ltb}
use Rattle.std.proofs.lemmas.Cmp.{nat_list_eq_equiv}
use Rattle.std.proofs.lemmas.List.Folds.{list_any-append}
use Rattle.std.proofs.lemmas.List.Sums.{fails_before_first}
use Rattle.rv_bind.specs.Values.{BoundValue}
use Rattle.rv_bind.specs.LineWords.{is_name}
use Rattle.rv_bind.specs.Bound.{is_called, is_taken}
use Rattle.rv_bind.specs.WellFormed.{NamesDiffer, all_names}

-- ---- a name that nothing has

-- where each element fails, none passes
none_passes : {X : Type 0} (p : X → Bool) (xs : List X) (d : X) → ((k : ℕ) → k < length xs → p (get_or xs k d) ≡ false) → list_any p xs ≡ false
none_passes p [] d each = refl
none_passes p (x ∷ xs) d each = rw (each 0 (omega arith)) (none_passes p xs d (λ k lt. each (suc k) (omega arith)))

-- where no first place passes, no element does
nowhere : {X : Type 0} (p : X → Bool) (xs : List X) → is_some (position p xs) ≡ false → list_any p xs ≡ false
nowhere p [] none = refl
nowhere p (x ∷ xs) none =
    elim (cases_lt (position_or_len p (x ∷ xs)) (length (x ∷ xs))) [
      | inl lt ↦ absurd (let found : is_some (position p (x ∷ xs)) ≡ true = rw (lt-ltb (position_or_len p (x ∷ xs)) (length (x ∷ xs)) lt) refl in cc)
      | inr le ↦ none_passes p (x ∷ xs) x (λ k lt. fails_before_first p (x ∷ xs) k x (omega arith))
    ]

-- a test of what is seen of each element
list_any_map : {X Y : Type 0} (p : Y → Bool) (f : X → Y) (xs : List X) → list_any p (map f xs) ≡ list_any (λ x. p (f x)) xs
list_any_map p f [] = refl
list_any_map p f (x ∷ xs) = ap (λ (b : Bool). p (f x) || b) (list_any_map p f xs)

-- of two tests that do not pass together neither passes
neither : (a b : Bool) → a || b ≡ false → (a ≡ false) × (b ≡ false)
neither true b none = cc
neither false b none = (refl, none)

-- a name that is not taken is the name of nothing
pub free-none : (b : BoundValue) (name : List ℕ) → is_taken b name ≡ false → list_any (λ other. bytes_eq other name) (all_names b) ≡ false
free-none b name free =
    let apart = neither (is_some (position (is_called name) b.monitors)) (is_some (position (λ other. bytes_eq other name) b.containers)) free in
    let none : list_any (λ other. bytes_eq other name) b.containers ≡ false = nowhere (λ other. bytes_eq other name) b.containers apart.1 in
    let nor : list_any (λ other. bytes_eq other name) (map (λ m. m.name) b.monitors) ≡ false = list_any_map (λ other. bytes_eq other name) (λ m. m.name) b.monitors ∙ nowhere (is_called name) b.monitors apart.0 in
    list_any-append (λ other. bytes_eq other name) b.containers (map (λ m. m.name) b.monitors) ∙ rw (none, nor) refl

-- ---- one more name

-- it is apart from all others
apart_from : (name : List ℕ) (others : List (List ℕ)) → list_any (λ other. bytes_eq other name) others ≡ false → AllByRecursion (λ other. bytes_eq name other ≡ false) others
apart_from name [] none = tt
apart_from name (other ∷ others) none =
    let both = neither (bytes_eq other name) (list_any (λ o. bytes_eq o name) others) none in
    (nat_list_eq_equiv.symm name other ∙ both.0, apart_from name others both.1)

-- one more element between others
all-insert : {X : Type 0} (P : X → Type 0) (xs ys : List X) (y : X) → AllByRecursion P (xs ++ ys) → P y → AllByRecursion P (xs ++ y ∷ ys)
all-insert P [] ys y all here = (here, all)
all-insert P (x ∷ xs) ys y all here = (all.0, all-insert P xs ys y all.1 here)

-- names stay apart
pub distinct-insert : (xs ys : List (List ℕ)) (name : List ℕ) → NamesDiffer (xs ++ ys) → list_any (λ other. bytes_eq other name) (xs ++ ys) ≡ false → NamesDiffer (xs ++ name ∷ ys)
distinct-insert [] ys name apart none = (apart_from name ys none, apart)
distinct-insert (x ∷ xs) ys name apart none =
    let both = neither (bytes_eq x name) (list_any (λ other. bytes_eq other name) (xs ++ ys)) none in
    (all-insert (λ other. bytes_eq x other ≡ false) xs ys name apart.0 both.0, distinct-insert xs ys name apart.1 both.1)

-- so they do with one more at the end
pub distinct-push : (xs : List (List ℕ)) (name : List ℕ) → NamesDiffer xs → list_any (λ other. bytes_eq other name) xs ≡ false → NamesDiffer (xs ++ name ∷ [])
distinct-push xs name apart none =
    distinct-insert xs [] name (subst NamesDiffer (sym (append-nil xs)) apart) (ap (list_any (λ other. bytes_eq other name)) (append-nil xs) ∙ none)

-- all are names
pub named-insert : (xs ys : List (List ℕ)) (name : List ℕ) → IsTrue (list_all is_name (xs ++ ys)) → IsTrue (is_name name) → IsTrue (list_all is_name (xs ++ name ∷ ys))
named-insert [] ys name all here = go (is_name name) here
  where
    go : (b : Bool) → IsTrue b → IsTrue (b && list_all is_name ys)
    go true is = all
    go false is = cc
named-insert (x ∷ xs) ys name all here = go (is_name x) all (λ rest. named-insert xs ys name rest here)
  where
    go : (b : Bool) → IsTrue (b && list_all is_name (xs ++ ys)) → (IsTrue (list_all is_name (xs ++ ys)) → IsTrue (list_all is_name (xs ++ name ∷ ys))) → IsTrue (b && list_all is_name (xs ++ name ∷ ys))
    go true all later = later all
    go false all later = cc

-- so they are with one more at the end
pub named-push : (xs : List (List ℕ)) (name : List ℕ) → IsTrue (list_all is_name xs) → IsTrue (is_name name) → IsTrue (list_all is_name (xs ++ name ∷ []))
named-push xs name all here = named-insert xs [] name (subst (λ (ns : List (List ℕ)). IsTrue (list_all is_name ns)) (sym (append-nil xs)) all) here
