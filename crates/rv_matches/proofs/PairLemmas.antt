-- From the lanes of two loads to the run of pairs that pass a test.
use Rattle.std.proofs.Common.{◌≡◌, ℕ, ◌<◌, ◌≤◌, Bool, true, false, not, cond, ◌&&◌, ◌||◌, eqb, ltb, List, [], ◌∷◌, map, length, replicate, bit_and, bit_or, refl, sym, ap, ap₂, ◌∙◌, arith}
use Rattle.std.proofs.lemmas.Bool.{agree_below_at, eqb-true}
use Rattle.std.proofs.lemmas.Simd.{length-chunk, zip2_splat}
use lib.Lanes.{chunk, zip2, top}
use Rattle.rv_text.specs.Places.{is_digit}
use Rattle.rv_trace.proofs.LaneLemmas.{itself, joined, splat_is}
use Rattle.rv_matches.specs.inner.Lanes.{is_alike}

-- ---- bytes of one form

-- the lane of a byte that is no digit
abbrev pub outside : ℕ → ℕ
outside x = bit_or (cond (ltb x 48) 255 0) (cond (ltb 57 x) 255 0)

-- the lane of a pair that is not of one form
abbrev pub apart : ℕ → ℕ → ℕ
apart a b = bit_or (bit_and (cond (not (eqb a b)) 255 0) (bit_or (outside a) (outside b))) (cond (ltb b 46) 255 0)

-- it is set at bytes that are no digits
outside_is : (x : ℕ) → x < 256 → outside x ≡ cond (not (is_digit x)) 255 0
outside_is x byte = eqb-true _ _ (agree_below_at (λ b. eqb (outside b) (cond (not (is_digit b)) 255 0)) (λ b. true) 256 x refl byte)

pair_lane : (same front back low : Bool) → top 7 (bit_or (bit_and (cond (not same) 255 0) (bit_or (cond (not front) 255 0) (cond (not back) 255 0))) (cond low 255 0)) ≡ not (not low && (same || (front && back)))
pair_lane true true true true = refl
pair_lane true true true false = refl
pair_lane true true false true = refl
pair_lane true true false false = refl
pair_lane true false true true = refl
pair_lane true false true false = refl
pair_lane true false false true = refl
pair_lane true false false false = refl
pair_lane false true true true = refl
pair_lane false true true false = refl
pair_lane false true false true = refl
pair_lane false true false false = refl
pair_lane false false true true = refl
pair_lane false false true false = refl
pair_lane false false false true = refl
pair_lane false false false false = refl

-- and at pairs that are not of one form
pub apart_is : (a b : ℕ) → a < 256 → b < 256 → top 7 (apart a b) ≡ not (is_alike a b)
apart_is a b byte byte' =
    ap₂ (λ x y. top 7 (bit_or (bit_and (cond (not (eqb a b)) 255 0) (bit_or x y)) (cond (ltb b 46) 255 0))) (outside_is a byte) (outside_is b byte')
    ∙ pair_lane (eqb a b) (is_digit a) (is_digit b) (ltb b 46)

-- two vectors that were computed lane by lane
zip2_maps : (h : ℕ → ℕ → ℕ) (f : ℕ → ℕ) (xs ys : List ℕ) → zip2 h (map f xs) (map f ys) ≡ zip2 (λ x y. h (f x) (f y)) xs ys
zip2_maps h f [] ys = refl
zip2_maps h f (x ∷ xs) [] = refl
zip2_maps h f (x ∷ xs) (y ∷ ys) = ap (λ l. h (f x) (f y) ∷ l) (zip2_maps h f xs ys)

-- two vectors of the same pairs
zip2_both : (h p q : ℕ → ℕ → ℕ) (xs ys : List ℕ) → zip2 h (zip2 p xs ys) (zip2 q xs ys) ≡ zip2 (λ x y. h (p x y) (q x y)) xs ys
zip2_both h p q [] ys = refl
zip2_both h p q (x ∷ xs) [] = refl
zip2_both h p q (x ∷ xs) (y ∷ ys) = ap (λ l. h (p x y) (q x y) ∷ l) (zip2_both h p q xs ys)

-- the lanes of a load that are no digits
abbrev pub others : List ℕ → List ℕ
others v = zip2 bit_or (zip2 (λ a b. cond (ltb a b) 255 0) v (replicate 16 48)) (zip2 (λ a b. cond (ltb a b) 255 0) (replicate 16 57) v)

others_are : (v : List ℕ) → length v ≡ 16 → others v ≡ map outside v
others_are v many = joined bit_or _ _ v (zip2_splat _ v 16 48 many) (joined (λ a b. cond (ltb a b) 255 0) _ _ v (splat_is v 16 57 many) (itself v))

-- a vector that was computed from the second of two
of_second : (f : ℕ → ℕ) (xs ys : List ℕ) → length xs ≡ length ys → map f ys ≡ zip2 (λ x y. f y) xs ys
of_second f [] [] same = refl
of_second f [] (y ∷ ys) same = absurd (omega (arith, same))
of_second f (x ∷ xs) [] same = absurd (omega (arith, same))
of_second f (x ∷ xs) (y ∷ ys) same = ap (λ l. f y ∷ l) (of_second f xs ys (omega (arith, same)))

-- the lanes of two loads, pair by pair
pub apart_lanes : (one other : List ℕ) → 16 ≤ length one → 16 ≤ length other
    → zip2 bit_or (zip2 bit_and (zip2 (λ a b. cond (not (eqb a b)) 255 0) (chunk 0 16 one) (chunk 0 16 other)) (zip2 bit_or (others (chunk 0 16 one)) (others (chunk 0 16 other))))
    (zip2 (λ a b. cond (ltb a b) 255 0) (chunk 0 16 other) (replicate 16 46)) ≡ zip2 apart (chunk 0 16 one) (chunk 0 16 other)
apart_lanes one other room room' =
    let a = chunk 0 16 one in
    let b = chunk 0 16 other in
    let many : length a ≡ 16 = length-chunk 0 16 one room in
    let as_many : length b ≡ 16 = length-chunk 0 16 other room' in
    let digits = ap₂ (zip2 bit_or) (others_are a many) (others_are b as_many) ∙ zip2_maps bit_or outside a b in
    let forms = ap (zip2 bit_and (zip2 (λ a b. cond (not (eqb a b)) 255 0) a b)) digits ∙ zip2_both bit_and (λ a b. cond (not (eqb a b)) 255 0) (λ x y. bit_or (outside x) (outside y)) a b in
    let low = zip2_splat (λ a b. cond (ltb a b) 255 0) b 16 46 as_many ∙ of_second (λ y. cond (ltb y 46) 255 0) a b (many ∙ sym as_many) in
    ap₂ (zip2 bit_or) forms low
    ∙ zip2_both bit_or (λ x y. bit_and (cond (not (eqb x y)) 255 0) (bit_or (outside x) (outside y))) (λ x y. cond (ltb y 46) 255 0) a b
