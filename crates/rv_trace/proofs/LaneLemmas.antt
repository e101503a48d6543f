-- From the mask of a load to the run of bytes that pass a test.
use Rattle.std.proofs.Common.{◌≡◌, ℕ, ◌+◌, ◌-◌, ◌%◌, ◌^◌, ◌<◌, ◌≤◌, Bool, true, false, not, cond, List, [], ◌∷◌, map, length, get_or, replicate, Fits, w8, refl, sym, ap, ap₂, ◌∙◌, subst, arith, inl, inr}
use Rattle.std.proofs.lemmas.Bool.{agree_below, agree_below_at, not-true, not-false, cases_eq, eq-eqb, ne_eqb, cond-true, cond-false}
use Rattle.std.proofs.lemmas.Simd.{zip2_splat, map-map, zip2-map, splat_is_map, mask_l-mod, length-chunk, get_or-chunk, bit_mask_l, leading_from_mask_l, trailing_mask_l}
use Rattle.std.proofs.lemmas.List.{length-map, get_or-map, get_or_past}
use Rattle.std.specs.Int.{bit_at}
use Rattle.std.proofs.lemmas.List.Sums.{prefix_len-le-length, prefix_len_passes, prefix_len_stops}
use Rattle.std.specs.List.{prefix_len}
use lib.Lanes.{chunk, zip2, mask_l, top}
use Rattle.rv_trace.specs.inner.Runs.{IsRunIn}
use Rattle.rv_trace.specs.Masks.{IsMask, first_set}

-- an operation on two vectors that were computed lane by lane from v
pub joined : (h : ℕ → ℕ → ℕ) (f g : ℕ → ℕ) (v : List ℕ) {a b : List ℕ} → a ≡ map f v → b ≡ map g v → zip2 h a b ≡ map (λ x. h (f x) (g x)) v
joined h f g v p q = ap₂ (zip2 h) p q ∙ zip2-map h f g v

-- a splat, lane by lane
pub splat_is : (v : List ℕ) (n y : ℕ) → length v ≡ n → replicate n y ≡ map (λ _. y) v
splat_is v n y long = splat_is_map v n y long

-- a vector, lane by lane
pub itself : (v : List ℕ) → v ≡ map (λ x. x) v
itself [] = refl
itself (x ∷ xs) = ap (λ r. x ∷ r) (itself xs)

-- the lanes of a load, compared with two bytes
pub two_splats : (h p q : ℕ → ℕ → ℕ) (text : List ℕ) (from n a b : ℕ) → from + n ≤ length text
    → zip2 h (zip2 p (chunk from n text) (replicate n a)) (zip2 q (chunk from n text) (replicate n b)) ≡ map (λ x. h (p x a) (q x b)) (chunk from n text)
two_splats h p q text from n a b room =
    let v = chunk from n text in
    let long = length-chunk from n text room in
    joined h _ _ v (zip2_splat p v n a long) (zip2_splat q v n b long)

-- the lowest bit stands for the first lane that stops
run_is : (p : ℕ → Bool) (v : List ℕ) (n : ℕ) → length v ≡ n → n ≤ 64 → first_set (mask_l (map p v)) n ≡ prefix_len (λ x. not (p x)) v
run_is p v n long few =
    elim (cases_eq (mask_l (map p v)) 0) [
      | inl none ↦ cond-true _ _ _ (eq-eqb _ _ none) ∙ sym (leading_from_mask_l p v none ∙ long)
      | inr some ↦ cond-false _ _ _ (ne_eqb _ _ some) ∙ trailing_mask_l p 64 v (omega arith) (omega arith)
    ]

-- a lane stops just where the test q fails
module _ (q : ℕ → Bool) (text : List ℕ) (from n run : ℕ) (z : List ℕ) (room : from + n ≤ length text) (few : n ≤ 64)
    (fits : (k : ℕ) → Fits w8 (get_or text k 0)) (found : run ≡ first_set (mask_l (map (top 7) z) % 2 ^ 64) n)
    (f : ℕ → ℕ) (lanes : z ≡ map f (chunk from n text)) (all : agree_below (λ x. top 7 (f x)) (λ x. not (q x)) 256 ≡ true) where
  -- the highest bit of a byte's lane is set
  abbrev pub stops : ℕ → Bool
  stops x = top 7 (f x)

  -- there is a byte for each lane
  long : length (chunk from n text) ≡ n
  long = length-chunk from n text room

  -- so many lanes go on
  counted : run ≡ prefix_len (λ x. not (stops x)) (chunk from n text)
  counted =
      let v = chunk from n text in
      let mask = ap (λ l. mask_l l % 2 ^ 64) (ap (map (top 7)) lanes ∙ map-map (top 7) f v) ∙ mask_l-mod (map stops v) 64 (omega (arith, length-map v stops, long)) in
      found ∙ ap (λ m. first_set m n) mask ∙ run_is stops v n long few

  -- no lane of the run stops
  goes_on : (k : ℕ) → from ≤ k → k < from + run → stops (get_or text k 0) ≡ false
  goes_on k low high =
      let back : from + (k - from) ≡ k = omega arith in
      let bound = prefix_len-le-length (λ x. not (stops x)) (chunk from n text) in
      let at = get_or-chunk from n text (k - from) 0 (omega (arith, counted, long)) ∙ ap (λ j. get_or text j 0) back in
      subst (λ x. stops x ≡ false) at (not-true _ (prefix_len_passes (λ x. not (stops x)) (chunk from n text) (k - from) 0 (omega (arith, counted))))

  -- so the bytes of the run pass the test, and the next one does not
  pub run_in : IsRunIn q text from n run
  run_in = record {
    most = omega (arith, counted, long, prefix_len-le-length (λ x. not (stops x)) (chunk from n text));
    each = λ k low high. not-false _ (sym (agree_below_at stops (λ x. not (q x)) 256 (get_or text k 0) all (fits k).fits) ∙ goes_on k low high);
    stop = λ short.
        let at = ap (λ j. get_or (chunk from n text) j 0) (sym counted) ∙ get_or-chunk from n text run 0 short in
        let set = subst (λ x. stops x ≡ true) at (not-false _ (prefix_len_stops (λ x. not (stops x)) (chunk from n text) 0 (omega (arith, counted, long)))) in
        not-true _ (sym (agree_below_at stops (λ x. not (q x)) 256 (get_or text (from + run) 0) all (fits (from + run)).fits) ∙ set);
  }

-- a lane is set just where the test q passes
module _ (q : ℕ → Bool) (text : List ℕ) (from n : ℕ) (z : List ℕ) (room : from + n ≤ length text) (few : n ≤ 64)
    (fits : (k : ℕ) → Fits w8 (get_or text k 0))
    (f : ℕ → ℕ) (lanes : z ≡ map f (chunk from n text)) (all : agree_below (λ x. top 7 (f x)) q 256 ≡ true) where
  -- a bit of the mask is set just where the lane of its byte is
  bit : (k : ℕ) → bit_at (mask_l (map (top 7) z) % 2 ^ 64) k ≡ cond (get_or (map (λ x. top 7 (f x)) (chunk from n text)) k false) 1 0
  bit k =
      let v = chunk from n text in
      ap (λ m. bit_at m k)
      (ap (λ l. mask_l l % 2 ^ 64) (ap (map (top 7)) lanes ∙ map-map (top 7) f v) ∙ mask_l-mod (map (λ x. top 7 (f x)) v) 64 (omega (arith, length-map v (λ x. top 7 (f x)), length-chunk from n text room)))
      ∙ bit_mask_l (map (λ x. top 7 (f x)) v) k

  -- so a bit of the mask is set just where its byte passes the test
  pub mask_in : IsMask q text from n (mask_l (map (top 7) z) % 2 ^ 64)
  mask_in = record {
    bits = λ k low.
        let v = chunk from n text in
        bit k ∙ ap (λ b. cond b 1 0)
        (get_or-map (λ x. top 7 (f x)) v k 0 false (omega (arith, length-chunk from n text room))
        ∙ ap (λ x. top 7 (f x)) (get_or-chunk from n text k 0 low)
        ∙ agree_below_at (λ x. top 7 (f x)) q 256 (get_or text (from + k) 0) all (fits (from + k)).fits);
    within = λ k past.
        let v = chunk from n text in
        bit k ∙ ap (λ b. cond b 1 0) (get_or_past (map (λ x. top 7 (f x)) v) k false (omega (arith, length-map v (λ x. top 7 (f x)), length-chunk from n text room)));
  }
