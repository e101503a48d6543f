-- What holds of each and of some element: of a list cut in two, of one from its end, of what was made of each, and of two lists side by side.
use Rattle.std.proofs.Common.{◌≡◌, ℕ, ◌-◌, List, [], ◌∷◌, ◌++◌, length, map, reverse, arith, refl, sym, ap, ◌∙◌, subst}
use Rattle.std.specs.Prelude.{All, Any, Contains, Bool, true, filter, drop, take}
use Rattle.std.specs.List.{AllZip}
use Rattle.std.proofs.lemmas.List.{reverse-append, reverse-reverse, get_or-reverse, get_or-map, length-map, length-reverse, map-append, take_at}
use Rattle.std.proofs.lemmas.List.Elements.{All-nil, All-cons, All-head, All-tail, All-contains, All-contains_itself, Contains-append_left, filter-append, length_all_zip}

-- ---- cut in two

module _ {X : Type 0} where
  -- what holds of each holds of the front
  pub All-front : (P : X → Type 0) (xs ys : List X) → All P (xs ++ ys) → All P xs
  All-front P [] ys all = All-nil P
  All-front P (x ∷ xs) ys all = All-cons P x xs (All-head P x (xs ++ ys) all) (All-front P xs ys (All-tail P x (xs ++ ys) all))

  -- and of the rest
  pub All-back : (P : X → Type 0) (xs ys : List X) → All P (xs ++ ys) → All P ys
  All-back P [] ys all = all
  All-back P (x ∷ xs) ys all = All-back P xs ys (All-tail P x (xs ++ ys) all)

  -- lists that go together, one behind the other
  pub AllZip-append : (R : X → X → Type 0) (xs xs' ys ys' : List X) → AllZip R xs xs' → AllZip R ys ys' → AllZip R (xs ++ ys) (xs' ++ ys')
  AllZip-append R [] [] ys ys' one two = two
  AllZip-append R [] (y ∷ xs') ys ys' one two = absurd one
  AllZip-append R (x ∷ xs) [] ys ys' one two = absurd one
  AllZip-append R (x ∷ xs) (y ∷ xs') ys ys' one two = (one.0, AllZip-append R xs xs' ys ys' one.1 two)

-- what holds of each that passes holds of one that does
pub kept-holds : {X : Type 0} (P : X → Type 0) (passes : X → Bool) (h before : List X) (e : X) (after : List X) → h ≡ before ++ e ∷ after → passes e ≡ true → All P (filter passes h) → P e
kept-holds P passes h before e after cut passed all =
    let here : filter passes (e ∷ after) ≡ e ∷ filter passes after = rw passed refl in
    let parts : filter passes h ≡ filter passes before ++ e ∷ filter passes after = ap (filter passes) cut ∙ filter-append passes before (e ∷ after) ∙ ap (λ (z : List _). filter passes before ++ z) here in
    All-head P e (filter passes after) (All-back P (filter passes before) (e ∷ filter passes after) (subst (All P) parts all))

-- ---- from the end

-- what was made of one element more, from the end
pub map-reverse-more : {X Y : Type 0} (f : X → Y) (x : X) (xs : List X) → reverse (map f (x ∷ xs)) ≡ reverse (map f xs) ++ f x ∷ []
map-reverse-more f x xs = reverse-append (f x ∷ []) (map f xs)

-- what was made of each, from the end
pub map-reverse : {X Y : Type 0} (f : X → Y) (xs : List X) → map f (reverse xs) ≡ reverse (map f xs)
map-reverse f [] = refl
map-reverse f (x ∷ xs) = ap (map f) (reverse-append (x ∷ []) xs) ∙ map-append f (reverse xs) (x ∷ []) ∙ ap (λ (z : List _). z ++ f x ∷ []) (map-reverse f xs) ∙ sym (reverse-append (f x ∷ []) (map f xs))

module _ {X : Type 0} (P : X → Type 0) where
  -- what holds of each holds of each from the end
  pub All-reverse : (xs : List X) → All P xs → All P (reverse xs)
  All-reverse xs all k d lt =
      let n = length-reverse xs in
      subst P (sym (get_or-reverse xs k d (omega arith))) (all (length xs - 1 - k) d (omega arith))

  -- and so for one
  pub Any-reverse : (xs : List X) → Any P xs → Any P (reverse xs)
  Any-reverse xs (k, x, lt, at, p) =
      let each : All (Contains (reverse xs)) xs = subst (All (Contains (reverse xs))) (reverse-reverse xs) (contained (reverse xs)) in
      let c = All-contains (Contains (reverse xs)) xs x each (k, lt, at) in
      (c.0, x, c.1, c.2, p)
    where
      contained : (ys : List X) → All (Contains ys) (reverse ys)
      contained ys k d lt = let n = length-reverse ys in subst (Contains ys) (sym (get_or-reverse ys k d (omega arith))) (All-contains_itself ys (length ys - 1 - k) d (omega arith))

  -- one of the front
  pub Any-front : (xs ys : List X) → Any P xs → Any P (xs ++ ys)
  Any-front xs ys (k, x, lt, at, p) = let c = Contains-append_left xs ys x (k, lt, at) in (c.0, x, c.1, c.2, p)

  -- one of which it follows
  pub Any-implied : (Q : X → Type 0) (xs : List X) → All (λ x. P x → Q x) xs → Any P xs → Any Q xs
  Any-implied Q xs all (k, x, lt, at, p) = (k, x, lt, at, All-contains (λ x. P x → Q x) xs x all (k, lt, at) p)

-- one of which something was made
pub Any-map : {X Y : Type 0} (P : Y → Type 0) (f : X → Y) (xs : List X) → Any (λ x. P (f x)) xs → Any P (map f xs)
Any-map P f xs (k, x, lt, at, p) =
    let many = length-map xs f in
    (k, f x, omega arith, get_or-map f xs k x (f x) lt ∙ ap f at, p)

-- ---- side by side

module _ {X : Type 0} (R : X → X → Type 0) where
  -- what holds of each two, with what holds of each on either side
  pub zip-with : (A B : X → Type 0) (C : X → X → Type 0) → ((x y : X) → R x y → A x → B y → C x y) → (xs ys : List X) → AllZip R xs ys → All A xs → All B ys → AllZip C xs ys
  zip-with A B C f [] [] zip a b = tt
  zip-with A B C f [] (y ∷ ys) zip a b = absurd zip
  zip-with A B C f (x ∷ xs) [] zip a b = absurd zip
  zip-with A B C f (x ∷ xs) (y ∷ ys) zip a b =
      (f x y zip.0 (All-head A x xs a) (All-head B y ys b), zip-with A B C f xs ys zip.1 (All-tail A x xs a) (All-tail B y ys b))

  -- what follows for the elements of either list
  zip-each : (A B : X → Type 0) → ((x y : X) → R x y → A x × B y) → (xs ys : List X) → AllZip R xs ys → All A xs × All B ys
  zip-each A B f [] [] zip = (All-nil A, All-nil B)
  zip-each A B f [] (y ∷ ys) zip = absurd zip
  zip-each A B f (x ∷ xs) [] zip = absurd zip
  zip-each A B f (x ∷ xs) (y ∷ ys) zip = let one = f x y zip.0 in let rest = zip-each A B f xs ys zip.1 in (All-cons A x xs one.0 rest.0, All-cons B y ys one.1 rest.1)

  -- of the left list
  pub zip-left : (A : X → Type 0) → ((x y : X) → R x y → A x) → (xs ys : List X) → AllZip R xs ys → All A xs
  zip-left A f xs ys zip = (zip-each A (λ y. Unit {0}) (λ x y both. (f x y both, tt)) xs ys zip).0

  -- of the right list
  pub zip-right : (B : X → Type 0) → ((x y : X) → R x y → B y) → (xs ys : List X) → AllZip R xs ys → All B ys
  zip-right B f xs ys zip = (zip-each (λ x. Unit {0}) B (λ x y both. (tt, f x y both)) xs ys zip).1

  -- where the same is made of each two
  pub zip-map : {Y : Type 0} (f : X → Y) → ((x y : X) → R x y → f y ≡ f x) → (xs ys : List X) → AllZip R xs ys → map f ys ≡ map f xs
  zip-map f same [] [] zip = refl
  zip-map f same [] (y ∷ ys) zip = absurd zip
  zip-map f same (x ∷ xs) [] zip = absurd zip
  zip-map f same (x ∷ xs) (y ∷ ys) zip = λ i. same x y zip.0 i ∷ zip-map f same xs ys zip.1 i

-- what a list is after it was lent as a slice
pub lent : {X : Type 0} (R : X → X → Type 0) (n : ℕ) (xs slice ys : List X) → n ≡ length xs → slice ≡ xs → AllZip R slice ys → AllZip R xs (take n (ys ++ drop (length ys) xs))
lent R n xs slice ys count is zip =
    let zip' : AllZip R xs ys = subst (λ (z : List _). AllZip R z ys) is zip in
    let same : length ys ≡ n = sym (length_all_zip R xs ys zip') ∙ sym count in
    subst (AllZip R xs) (sym (take_at ys (drop (length ys) xs) n same)) zip'
