-- The bytes of a load: the least place of a text that passes a test, from its bit.
use Rattle.std.proofs.Common.{◌≡◌, ℕ, ◌+◌, ◌-◌, ◌^◌, ◌<◌, ◌≤◌, Bool, false, not, cond, inl, inr, List, length, map, get_or, sym, ◌∙◌, ap, arith, w64}
use Rattle.std.proofs.lemmas.Bool.{cases_lt, not-true, not-false}
use Rattle.std.proofs.lemmas.List.{length-map, get_or_past}
use Rattle.std.proofs.lemmas.List.Sums.{prefix_len-le-length, prefix_len_passes, prefix_len_stops}
use Rattle.std.proofs.lemmas.Nat.Bits.{bit_at-trailing_zeros}
use Rattle.std.proofs.lemmas.Simd.{length-chunk, get_or-chunk, mask_l-lt, bit_mask_l, leading_from_mask_l, trailing_mask_l}
use Rattle.std.specs.List.{prefix_len}
use lib.Count.{count_trailing_zeros}
use lib.Lanes.{chunk, mask_l}
use lib.Pow.{pow_mono}
use Rattle.rv_text.specs.Places.{least}
use Rattle.rv_text.proofs.LeastLemmas.{least-is}

module _ (p : ℕ → Bool) (text : List ℕ) (place n : ℕ) (room : place + n ≤ length text) where
  -- the bytes that are looked at
  abbrev pub loaded : List ℕ
  loaded = chunk place n text

  -- there are so many
  long : length loaded ≡ n
  long = length-chunk place n text room

  -- behind those that do not pass is the least place that does
  lanes-least : place + prefix_len (λ x. not (p x)) loaded ≡ least (λ k. p (get_or text k 0)) place n
  lanes-least =
      let other : ℕ → Bool = λ x. not (p x) in
      let most = prefix_len-le-length other loaded in
      let lane : (k : ℕ) → k < n → get_or loaded k 0 ≡ get_or text (place + k) 0 = λ k low. get_or-chunk place n text k 0 low in
      sym (least-is (λ k. p (get_or text k 0)) place n (place + prefix_len other loaded) (omega arith) (omega (arith, most, long))
      (λ k low high.
      let back : place + (k - place) ≡ k = omega arith in
      ap p (sym (lane (k - place) (omega (arith, most, long)) ∙ ap (λ j. get_or text j 0) back)) ∙ not-true _ (prefix_len_passes other loaded (k - place) 0 (omega arith)))
      (λ inside. ap p (sym (lane (prefix_len other loaded) (omega arith))) ∙ not-false _ (prefix_len_stops other loaded 0 (omega (arith, long)))))

  -- where no bit is set, no place passes
  pub none-least : mask_l (map p loaded) ≡ 0 → least (λ k. p (get_or text k 0)) place n ≡ place + n
  none-least none = sym lanes-least ∙ ap (λ k. place + k) (leading_from_mask_l p loaded none ∙ long)

  -- else the lowest bit is that of the least place
  module _ (few : n ≤ 64) (some : 0 < mask_l (map p loaded)) where
    -- it is set behind those that do not pass
    first : count_trailing_zeros 64 (mask_l (map p loaded)) ≡ prefix_len (λ x. not (p x)) loaded
    first = trailing_mask_l p 64 loaded (omega (arith, long)) some

    -- that place passes
    pub bit-least : place + count_trailing_zeros 64 (mask_l (map p loaded)) ≡ least (λ k. p (get_or text k 0)) place n
    bit-least = ap (λ k. place + k) first ∙ lanes-least

    -- and its byte was looked at
    pub bit-inside : count_trailing_zeros 64 (mask_l (map p loaded)) < n
    bit-inside =
        let bits : length (map p loaded) ≡ n = length-map loaded p ∙ long in
        let set = bit_at-trailing_zeros w64 (mask_l (map p loaded)) some (omega (arith, mask_l-lt (map p loaded), pow_mono few, ap (λ k. 2 ^ k) bits)) in
        elim (cases_lt (count_trailing_zeros 64 (mask_l (map p loaded))) n) [
          | inl inside ↦ inside
          | inr past ↦ absurd (omega (arith, sym set.1 ∙ bit_mask_l (map p loaded) (count_trailing_zeros 64 (mask_l (map p loaded))) ∙ ap (λ b. cond {A = ℕ} b 1 0) (get_or_past (map p loaded) (count_trailing_zeros 64 (mask_l (map p loaded))) false (omega (arith, bits)))))
        ]
