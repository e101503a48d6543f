-- A list whose values are taken one after another from one function to another.
use Rattle.std.proofs.Common.{◌≡◌, ℕ, zero, suc, ◌+◌, ◌<◌, ◌≤◌, List, [], ◌∷◌, length, get_or, set, map, refl, sym, ap, ◌∙◌, arith}

module _ {X Y : Type 0} (f g : X → Y) where
  -- the values of the second function up to a place, and of the first from there on
  abbrev pub mixed : List X → ℕ → List Y
  mixed [] i = []
  mixed (x ∷ xs) zero = f x ∷ map f xs
  mixed (x ∷ xs) (suc i) = g x ∷ mixed xs i

  -- at first all are of the first function
  pub mixed_none : (xs : List X) → mixed xs 0 ≡ map f xs
  mixed_none [] = refl
  mixed_none (x ∷ xs) = refl

  -- at last all are of the second
  pub mixed_all : (xs : List X) (i : ℕ) → length xs ≤ i → mixed xs i ≡ map g xs
  mixed_all [] i past = refl
  mixed_all (x ∷ xs) zero past = absurd (omega arith)
  mixed_all (x ∷ xs) (suc i) past = ap (λ (ys : List Y). g x ∷ ys) (mixed_all xs i (omega arith))

  -- at its place stands a value of the first
  pub mixed_at : (xs : List X) (i : ℕ) (d : X) (e : Y) → i < length xs → get_or (mixed xs i) i e ≡ f (get_or xs i d)
  mixed_at [] i d e inside = absurd (omega arith)
  mixed_at (x ∷ xs) zero d e inside = refl
  mixed_at (x ∷ xs) (suc i) d e inside = mixed_at xs i d e (omega arith)

  step : (xs : List X) (i : ℕ) (d : X) → i < length xs → set (mixed xs i) i (g (get_or xs i d)) ≡ mixed xs (suc i)
  step [] i d inside = absurd (omega arith)
  step (x ∷ xs) zero d inside = ap (λ (ys : List Y). g x ∷ ys) (sym (mixed_none xs))
  step (x ∷ xs) (suc i) d inside = ap (λ (ys : List Y). g x ∷ ys) (step xs i d (omega arith))

  -- one more is of the second
  pub mixed_more : (xs : List X) (i : ℕ) (d : X) (y : Y) → i < length xs → y ≡ g (get_or xs i d) → set (mixed xs i) i y ≡ mixed xs (i + 1)
  mixed_more xs i d y inside is = ap (set (mixed xs i) i) is ∙ step xs i d inside ∙ ap (mixed xs) (let e : suc i ≡ i + 1 = omega arith in e)

  -- they are as many
  pub length-mixed : (xs : List X) (i : ℕ) → length (mixed xs i) ≡ length xs
  length-mixed [] i = refl
  length-mixed (x ∷ xs) zero = ap suc (lengths xs)
    where
      lengths : (ys : List X) → length (map f ys) ≡ length ys
      lengths [] = refl
      lengths (y ∷ ys) = ap suc (lengths ys)
  length-mixed (x ∷ xs) (suc i) = ap suc (length-mixed xs i)
