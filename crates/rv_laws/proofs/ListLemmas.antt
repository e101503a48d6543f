-- Lists that are mapped, filtered and read backwards.
use Rattle.std.proofs.Common.{◌≡◌, Bool, true, false, ◌&&◌, List, [], ◌∷◌, ◌++◌, map, reverse, refl, sym, ap, ◌∙◌}
use Rattle.std.specs.Prelude.{filter}
use Rattle.std.proofs.lemmas.List.{map-append, reverse-append, reverse-reverse}

module _ {X Y : Type 0} (f : X → Y) where
  -- a test of what a list was made into
  pub filter-map : (test : Y → Bool) (xs : List X) → filter test (map f xs) ≡ map f (filter (λ x. test (f x)) xs)
  filter-map test [] = refl
  filter-map test (x ∷ xs) = go (test (f x)) refl (filter-map test xs)
    where
      go : (b : Bool) → test (f x) ≡ b → filter test (map f xs) ≡ map f (filter (λ x. test (f x)) xs) → filter test (map f (x ∷ xs)) ≡ map f (filter (λ x. test (f x)) (x ∷ xs))
      go true kept rest = rw kept (ap (λ (z : List Y). f x ∷ z) rest)
      go false gone rest = rw gone rest

  -- backwards and made into others
  pub map-reverse : (xs : List X) → map f (reverse xs) ≡ reverse (map f xs)
  map-reverse [] = refl
  map-reverse (x ∷ xs) = ap (map f) (reverse-append (x ∷ []) xs) ∙ map-append f (reverse xs) (x ∷ []) ∙ ap (λ (z : List Y). z ++ f x ∷ []) (map-reverse xs) ∙ sym (reverse-append (f x ∷ []) (map f xs))

  -- what two functions in turn make
  pub map-map : {Z : Type 0} (g : Y → Z) (xs : List X) → map g (map f xs) ≡ map (λ x. g (f x)) xs
  map-map g [] = refl
  map-map {Z = Z} g (x ∷ xs) = ap (λ (z : List Z). g (f x) ∷ z) (map-map g xs)

module _ {X : Type 0} where
  -- the fact holds of each
  abbrev pub Every : (X → Type 0) → List X → Type 0
  Every P [] = Unit {0}
  Every P (x ∷ xs) = P x × Every P xs

  -- of each of two lists
  pub every-append : (P : X → Type 0) (xs ys : List X) → Every P xs → Every P ys → Every P (xs ++ ys)
  every-append P [] ys h g = g
  every-append P (x ∷ xs) ys h g = (h.0, every-append P xs ys h.1 g)

  -- of each that is kept
  pub every-filter : (P : X → Type 0) (test : X → Bool) (xs : List X) → Every P xs → Every P (filter test xs)
  every-filter P test [] h = tt
  every-filter P test (x ∷ xs) h = inner (every-filter P test xs h.1) (test x) refl
    where
      inner : Every P (filter test xs) → (b : Bool) → test x ≡ b → Every P (filter test (x ∷ xs))
      inner rest true kept = rw kept (h.0, rest)
      inner rest false gone = rw gone rest

  -- another fact that follows
  pub every-weaker : (P Q : X → Type 0) → ((x : X) → P x → Q x) → (xs : List X) → Every P xs → Every Q xs
  every-weaker P Q weaker [] h = tt
  every-weaker P Q weaker (x ∷ xs) h = (weaker x h.0, every-weaker P Q weaker xs h.1)

  -- of each that is kept, and its test
  pub every-kept : (P : X → Type 0) (test : X → Bool) (xs : List X) → Every P xs → Every (λ x. P x × (test x ≡ true)) (filter test xs)
  every-kept P test [] h = tt
  every-kept P test (x ∷ xs) h = inner (every-kept P test xs h.1) (test x) refl
    where
      inner : Every (λ x. P x × (test x ≡ true)) (filter test xs) → (b : Bool) → test x ≡ b → Every (λ x. P x × (test x ≡ true)) (filter test (x ∷ xs))
      inner rest true kept = rw kept ((h.0, kept), rest)
      inner rest false gone = rw gone rest

  -- two tests that agree on each of the list
  pub filter-same : (p q : X → Bool) (xs : List X) → Every (λ x. p x ≡ q x) xs → filter p xs ≡ filter q xs
  filter-same p q [] h = refl
  filter-same p q (x ∷ xs) h = go (q x) refl (filter-same p q xs h.1)
    where
      go : (b : Bool) → q x ≡ b → filter p xs ≡ filter q xs → filter p (x ∷ xs) ≡ filter q (x ∷ xs)
      go true kept rest = let kept' : p x ≡ true = h.0 ∙ kept in rw (kept, kept') (ap (λ (z : List X). x ∷ z) rest)
      go false gone rest = let gone' : p x ≡ false = h.0 ∙ gone in rw (gone, gone') rest

  -- none passes
  pub filter-none : (p : X → Bool) (xs : List X) → Every (λ x. p x ≡ false) xs → filter p xs ≡ []
  filter-none p [] h = refl
  filter-none p (x ∷ xs) h = rw h.0 (filter-none p xs h.1)

  -- two tests in turn
  pub filter-both : (p q : X → Bool) (xs : List X) → filter p (filter q xs) ≡ filter (λ x. q x && p x) xs
  filter-both p q [] = refl
  filter-both p q (x ∷ xs) = go (q x) refl (p x) refl (filter-both p q xs)
    where
      go : (b : Bool) → q x ≡ b → (c : Bool) → p x ≡ c → filter p (filter q xs) ≡ filter (λ x. q x && p x) xs → filter p (filter q (x ∷ xs)) ≡ filter (λ x. q x && p x) (x ∷ xs)
      go true is_q true is_p rest = rw (is_q, is_p) (ap (λ (z : List X). x ∷ z) rest)
      go true is_q false not_p rest = rw (is_q, not_p) rest
      go false not_q c is rest = rw not_q rest

  -- all pass
  pub filter-all : (p : X → Bool) (xs : List X) → Every (λ x. p x ≡ true) xs → filter p xs ≡ xs
  filter-all p [] h = refl
  filter-all p (x ∷ xs) h = rw h.0 (ap (λ (z : List X). x ∷ z) (filter-all p xs h.1))

  -- what was filtered stays so
  pub filter-twice : (p : X → Bool) (xs : List X) → filter p (filter p xs) ≡ filter p xs
  filter-twice p [] = refl
  filter-twice p (x ∷ xs) = go (p x) refl (filter-twice p xs)
    where
      go : (b : Bool) → p x ≡ b → filter p (filter p xs) ≡ filter p xs → filter p (filter p (x ∷ xs)) ≡ filter p (x ∷ xs)
      go true kept rest = rw (kept, kept) (ap (λ (z : List X). x ∷ z) rest)
      go false gone rest = rw gone rest

  -- the order of two tests is no matter
  pub filter-swap : (p q : X → Bool) (xs : List X) → filter p (filter q xs) ≡ filter q (filter p xs)
  filter-swap p q [] = refl
  filter-swap p q (x ∷ xs) = go (q x) refl (p x) refl (filter-swap p q xs)
    where
      go : (b : Bool) → q x ≡ b → (c : Bool) → p x ≡ c → filter p (filter q xs) ≡ filter q (filter p xs) → filter p (filter q (x ∷ xs)) ≡ filter q (filter p (x ∷ xs))
      go true is_q true is_p rest = rw (is_q, is_p, is_q) (ap (λ (z : List X). x ∷ z) rest)
      go true is_q false not_p rest = rw (is_q, not_p) rest
      go false not_q true is_p rest = rw (not_q, is_p, not_q) rest
      go false not_q false not_p rest = rw (not_q, not_p) rest

  -- lists that are one list backwards are one list
  pub reverse-same : (xs ys : List X) → reverse xs ≡ reverse ys → xs ≡ ys
  reverse-same xs ys same = sym (reverse-reverse xs) ∙ ap reverse same ∙ reverse-reverse ys
