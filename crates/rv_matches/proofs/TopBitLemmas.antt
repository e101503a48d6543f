-- The highest bit of a number, and the last blank of a load.
use Rattle.std.proofs.Common.{◌≡◌, ℕ, suc, ◌+◌, ◌-◌, ◌*◌, ◌/◌, ◌%◌, ◌^◌, ◌<◌, ◌≤◌, inl, inr, true, false, not, List, get_or, sym, ap, ◌∙◌, arith}
use Rattle.std.specs.Int.{bit_at}
use Rattle.std.proofs.lemmas.Bool.{cases_lt}
use Rattle.std.proofs.lemmas.Nat.Bits.{bit_at_above}
use Rattle.std.proofs.Math.Nat.{div-eq_of_lt-le, pow-suc}
use Rattle.rv_text.specs.Places.{has_class, is_blank}
use Rattle.rv_text.specs.declared.runs.ByteClass.TheVariants as kinds
use Rattle.rv_trace.specs.Masks.{IsMask}
use Rattle.rv_trace.proofs.BitLemmas.{one_true, zero_false}

-- the bit of the largest power of two in a number is set, and none above it
pub top_bit : (n j : ℕ) → 2 ^ j ≤ n → n < 2 ^ suc j → (bit_at n j ≡ 1) × ((k : ℕ) → j < k → bit_at n k ≡ 0)
top_bit n j low high =
    let next : 2 ^ suc j ≡ 2 ^ j * 2 = pow-suc 2 j in
    let least : 1 * 2 ^ j ≤ n = omega arith in
    let most : n < (1 + 1) * 2 ^ j = omega arith in
    let one : n / 2 ^ j ≡ 1 = div-eq_of_lt-le {k = 1} (2 ^ j) {m = n} least most in
    (ap (λ q. q % 2) one, λ k above. bit_at_above n (suc j) k high (omega arith))

module _ (text : List ℕ) (place mask top : ℕ) (blanks : IsMask is_blank text place 16 mask) (set : bit_at mask top ≡ 1) (above : (k : ℕ) → top < k → bit_at mask k ≡ 0) where
  -- the highest bit is that of a byte of the load
  pub top_inside : top < 16
  top_inside = elim (cases_lt top 16) [
    | inl inside ↦ inside
    | inr past ↦ absurd (omega (arith, set, blanks.within top past))
  ]

  -- this byte is a blank
  pub top_blank : has_class kinds.Word (get_or text (place + top) 0) ≡ false
  top_blank = ap not (one_true (is_blank (get_or text (place + top) 0)) (sym (blanks.bits top top_inside) ∙ set))

  -- and none of those behind it is
  pub behind_top : (k : ℕ) → place + top < k → k < place + 16 → has_class kinds.Word (get_or text k 0) ≡ true
  behind_top k low high =
      let back : place + (k - place) ≡ k = omega arith in
      let inside : k - place < 16 = omega arith in
      let later : top < k - place = omega arith in
      ap not (ap (λ j. is_blank (get_or text j 0)) (sym back) ∙ zero_false (is_blank (get_or text (place + (k - place)) 0)) (sym (blanks.bits (k - place) inside) ∙ above (k - place) later))
