-- Numbers by their bits.
use Rattle.std.proofs.Common.{◌≡◌, ℕ, zero, suc, ◌+◌, ◌-◌, ◌*◌, ◌^◌, ◌<◌, ◌≤◌, Bool, true, false, List, [], ◌∷◌, length, get_or, drop, cond, ap, ◌∙◌, arith, Bor, drop-cons, length-drop}
use Rattle.std.proofs.lemmas.List.{length-map}
use Rattle.std.specs.Prelude.{map}
use Rattle.std.proofs.Math.Nat.{pow-succ'}
use Rattle.rv_dot.specs.inner.Held.{bytes_of}
use Rattle.rv_dot.specs.Dot.{bits_of}

-- so many bits stay below the power of 2
pub bits_below : (bits : List Bool) (n : ℕ) → length bits ≤ n → bits_of bits < 2 ^ n
bits_below [] n h = some n
  where
    some : (n : ℕ) → 0 < 2 ^ n
    some zero = omega arith
    some (suc n) = rw (pow-succ' 2 n) (omega (arith, some n))
bits_below (b ∷ bits) zero h = absurd (omega arith)
bits_below (b ∷ bits) (suc n) h = rw (pow-succ' 2 n) (go b (bits_below bits n (omega arith)))
  where
    go : (b : Bool) → bits_of bits < 2 ^ n → cond b 1 0 + 2 * bits_of bits < 2 * 2 ^ n
    go true k = omega arith
    go false k = omega arith

-- the bits of the names from a place on
abbrev pub bits_from : (List ℕ → Bool) → ℕ → List (Bor (List ℕ)) → ℕ
bits_from f count names = bits_of (map f (map bytes_of (drop count names)))

-- one name more in front
pub bits_more : (f : List ℕ → Bool) (names : List (Bor (List ℕ))) (count : ℕ) (d : Bor (List ℕ)) → 0 < count → count ≤ length names
    → bits_from f (count - 1) names ≡ cond (f (get_or names (count - 1) d).now) 1 0 + 2 * bits_from f count names
bits_more f names count d some within =
    let cut : drop (count - 1) names ≡ get_or names (count - 1) d ∷ drop (suc (count - 1)) names = drop-cons names (count - 1) d (omega arith) in
    let back : suc (count - 1) ≡ count = omega arith in
    ap (λ (ns : List (Bor (List ℕ))). bits_of (map f (map bytes_of ns))) cut ∙ ap (λ (n : ℕ). cond (f (get_or names (count - 1) d).now) 1 0 + 2 * bits_from f n names) back

-- at most 31 names leave room for one bit more
pub bits_small : (f : List ℕ → Bool) (names : List (Bor (List ℕ))) (count : ℕ) → 0 < count → length names ≤ 31 → bits_from f count names < 1073741824
bits_small f names count some few = bits_below (map f (map bytes_of (drop count names))) 30 (few_left names count some few)
  where
    few_left : (names : List (Bor (List ℕ))) (count : ℕ) → 0 < count → length names ≤ 31 → length (map f (map bytes_of (drop count names))) ≤ 30
    few_left names count some few = rw (length-map (map bytes_of (drop count names)) f, length-map (drop count names) bytes_of, length-drop count names) (omega arith)
