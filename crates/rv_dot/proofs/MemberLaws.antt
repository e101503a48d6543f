-- Members of lists: of what is made of a list, and at their places.
use Rattle.std.proofs.Common.{◌≡◌, ℕ, zero, suc, ◌<◌, Bool, true, false, List, [], ◌∷◌, length, get_or, cond, refl, sym, ap, ◌∙◌, subst, ◌⊎◌, inl, inr, arith}
use Rattle.std.specs.Prelude.{map, ◌&&◌, ◌||◌, All, AllPairs}
use Rattle.std.specs.List.{AllByRecursion, filter, filter_map, list_all, list_any, cons_option}
use Rattle.std.specs.declared.option.Option.{Option}
use Rattle.std.specs.declared.option.Option.TheVariants.{None, Some}
use Rattle.std.specs.declared.cmp.Ordering.{Ordering}
use Rattle.std.specs.declared.cmp.Ordering.TheVariants.{Less}
use Rattle.rv_text.specs.inner.Ascending.{Ascends}
use Rattle.rv_dot.specs.Members.{IsMember}
use Rattle.rv_dot.proofs.SetOrder.{all_from_members, member_of_all}

-- both tests pass
both : (a b : Bool) → (a && b) ≡ true → (a ≡ true) × (b ≡ true)
both true b h = (refl, h)
both false b h = absurd (cc)

-- both tests pass
pub and_true : (a b : Bool) → (a && b) ≡ true → (a ≡ true) × (b ≡ true)
and_true a b h = both a b h

-- one of the tests passes
pub or_true : (a b : Bool) → (a || b) ≡ true → (a ≡ true) ⊎ (b ≡ true)
or_true true b h = inl refl
or_true false b h = inr h

-- an image's member is the image of a member
pub member_map : {A B : Type 0} (f : A → B) (y : B) (xs : List A) → IsMember y (map f xs) → (x : A) × IsMember x xs × (f x ≡ y)
member_map f y [] m = absurd m
member_map f y (x ∷ xs) m = elim m [ inl e ↦ (x, inl refl, e) | inr n ↦ let later = member_map f y xs n in (later.0, inr later.1, later.2) ]

-- a member's image is a member of the image
pub map_member : {A B : Type 0} (f : A → B) (x : A) (xs : List A) → IsMember x xs → IsMember (f x) (map f xs)
map_member f x [] m = absurd m
map_member f x (y ∷ xs) m = elim m [ inl e ↦ inl (ap f e) | inr n ↦ inr (map_member f x xs n) ]

-- what is kept is a member that passes
pub member_filter : {A : Type 0} (p : A → Bool) (x : A) (xs : List A) → IsMember x (filter p xs) → IsMember x xs × (p x ≡ true)
member_filter p x [] m = absurd m
member_filter {A} p x (y ∷ xs) m = go (p y) refl m (λ n. member_filter p x xs n)
  where
    go : (t : Bool) → p y ≡ t → IsMember x (cond t (y ∷ filter p xs) (filter p xs)) → (IsMember x (filter p xs) → IsMember x xs × (p x ≡ true)) → IsMember x (y ∷ xs) × (p x ≡ true)
    go true e m more = elim m [ inl f ↦ (inl f, ap p (sym f) ∙ e) | inr n ↦ let later = more n in (inr later.0, later.1) ]
    go false e m more = let later = more m in (inr later.0, later.1)

-- a member that passes is kept
pub filter_member : {A : Type 0} (p : A → Bool) (x : A) (xs : List A) → IsMember x xs → p x ≡ true → IsMember x (filter p xs)
filter_member p x [] m h = absurd m
filter_member p x (y ∷ xs) m h = go (p y) refl m (λ n. filter_member p x xs n h)
  where
    go : (t : Bool) → p y ≡ t → IsMember x (y ∷ xs) → (IsMember x xs → IsMember x (filter p xs)) → IsMember x (cond t (y ∷ filter p xs) (filter p xs))
    go true e m more = elim m [ inl f ↦ inl f | inr n ↦ inr (more n) ]
    go false e m more = elim m [ inl f ↦ absurd (let apart : true ≡ false = sym h ∙ ap p (sym f) ∙ e in cc) | inr n ↦ more n ]

-- what is found is found of a member
pub member_filter_map : {A B : Type 0} (h : A → Option B) (y : B) (xs : List A) → IsMember y (filter_map h xs) → (x : A) × IsMember x xs × (h x ≡ Some y)
member_filter_map h y [] m = absurd m
member_filter_map {A} {B} h y (x ∷ xs) m = go (h x) refl m (λ n. member_filter_map h y xs n)
  where
    go : (o : Option B) → h x ≡ o → IsMember y (cons_option o (filter_map h xs)) → (IsMember y (filter_map h xs) → (z : A) × IsMember z xs × (h z ≡ Some y)) → (z : A) × IsMember z (x ∷ xs) × (h z ≡ Some y)
    go None e m more = let later = more m in (later.0, inr later.1, later.2)
    go (Some w) e m more = elim m [ inl f ↦ (x, inl refl, e ∙ ap Some f) | inr n ↦ let later = more n in (later.0, inr later.1, later.2) ]

-- a test of all passes at a member
pub list_all_member : {A : Type 0} (p : A → Bool) (x : A) (xs : List A) → list_all p xs ≡ true → IsMember x xs → p x ≡ true
list_all_member p x [] h m = absurd m
list_all_member p x (y ∷ xs) h m = let parts = both (p y) (list_all p xs) h in elim m [ inl e ↦ ap p (sym e) ∙ parts.0 | inr n ↦ list_all_member p x xs parts.1 n ]

-- a test that passes at each member passes at all
pub list_all_from : {A : Type 0} (p : A → Bool) (xs : List A) → ((x : A) → IsMember x xs → p x ≡ true) → list_all p xs ≡ true
list_all_from p [] h = refl
list_all_from p (x ∷ xs) h = rw (h x (inl refl)) (list_all_from p xs (λ y m. h y (inr m)))

-- a test of any passes at some member
pub list_any_member : {A : Type 0} (p : A → Bool) (xs : List A) → list_any p xs ≡ true → (x : A) × IsMember x xs × (p x ≡ true)
list_any_member p [] h = absurd (cc)
list_any_member p (x ∷ xs) h = elim (or_true (p x) (list_any p xs) h) [ inl e ↦ (x, inl refl, e) | inr k ↦ let later = list_any_member p xs k in (later.0, inr later.1, later.2) ]

-- a test that passes at a member passes at any
pub list_any_from : {A : Type 0} (p : A → Bool) (x : A) (xs : List A) → IsMember x xs → p x ≡ true → list_any p xs ≡ true
list_any_from p x [] m h = absurd m
list_any_from p x (y ∷ xs) m h = elim m [ inl e ↦ rw (ap p e ∙ h) refl | inr n ↦ or_right (p y) (list_any p xs) (list_any_from p x xs n h) ]
  where
    or_right : (a b : Bool) → b ≡ true → (a || b) ≡ true
    or_right true b h = refl
    or_right false b h = h

-- equal tests agree on all
pub list_all_same : {A : Type 0} (p q : A → Bool) (xs : List A) → ((x : A) → p x ≡ q x) → list_all p xs ≡ list_all q xs
list_all_same p q [] h = refl
list_all_same p q (x ∷ xs) h = rw (h x, list_all_same p q xs h) refl

-- the element at a place is a member
pub member_at : {A : Type 0} (xs : List A) (k : ℕ) (d : A) → k < length xs → IsMember (get_or xs k d) xs
member_at [] k d lt = absurd (omega arith)
member_at (x ∷ xs) zero d lt = inl refl
member_at (x ∷ xs) (suc k) d lt = inr (member_at xs k d (omega arith))

-- what holds of members holds of all
pub all_members : {A : Type 0} (P : A → Type 0) (xs : List A) → ((x : A) → IsMember x xs → P x) → All P xs
all_members P xs h k d lt = h (get_or xs k d) (member_at xs k d lt)

-- a member stands at some place
pub place_of_member : {A : Type 0} (x : A) (xs : List A) → IsMember x xs → (k : ℕ) × (k < length xs) × (get_or xs k x ≡ x)
place_of_member x [] m = absurd m
place_of_member x (y ∷ xs) m = elim m [ inl e ↦ (0, omega arith, e) | inr n ↦ let later = place_of_member x xs n in (suc later.0, omega (arith, later.1), later.2) ]

-- what holds of each element and each later one holds of all pairs
abbrev pub AllLater : {A : Type 0} → (A → A → Type 0) → List A → Type 0
AllLater R [] = Unit {0}
AllLater R (x ∷ xs) = AllByRecursion (λ y. R x y) xs × AllLater R xs

-- so they hold at all pairs
pub pairs_from : {A : Type 0} (R : A → A → Type 0) (xs : List A) → AllLater R xs → AllPairs R xs
pairs_from R [] h i j d lt within = absurd (omega arith)
pairs_from R (x ∷ xs) h zero zero d lt within = absurd (omega arith)
pairs_from R (x ∷ xs) h zero (suc j) d lt within = member_of_all (λ y. R x y) (get_or xs j d) xs h.0 (member_at xs j d (omega arith))
pairs_from R (x ∷ xs) h (suc i) zero d lt within = absurd (omega arith)
pairs_from R (x ∷ xs) h (suc i) (suc j) d lt within = pairs_from R xs h.1 i j d (omega arith) (omega arith)

-- an ascending list is in order at all pairs
pub ascends_later : {A : Type 0} (cmp : A → A → Ordering) (xs : List A) → Ascends cmp xs → AllLater (λ x y. cmp x y ≡ Less) xs
ascends_later cmp [] h = tt
ascends_later cmp (x ∷ xs) h = (h.0, ascends_later cmp xs h.1)

-- what is kept of an ascending list ascends
pub ascends_filter : {A : Type 0} (cmp : A → A → Ordering) (p : A → Bool) (xs : List A) → Ascends cmp xs → Ascends cmp (filter p xs)
ascends_filter cmp p [] h = tt
ascends_filter {A} cmp p (x ∷ xs) h = go (p x) (ascends_filter cmp p xs h.1)
  where
    go : (t : Bool) → Ascends cmp (filter p xs) → Ascends cmp (cond t (x ∷ filter p xs) (filter p xs))
    go true later = (all_from_members (λ y. cmp x y ≡ Less) (filter p xs) (λ y m. member_of_all (λ z. cmp x z ≡ Less) y xs h.0 (member_filter p y xs m).0), later)
    go false later = later

-- what holds of all holds of a member
pub all_member : {A : Type 0} (P : A → Type 0) (xs : List A) (x : A) → All P xs → IsMember x xs → P x
all_member P xs x all m = let at = place_of_member x xs m in subst P at.2 (all at.0 x at.1)
