-- The switches behind a change, bit by bit.
use Rattle.std.proofs.Common.{◌≡◌, ◌≢◌, ℕ, zero, suc, ◌+◌, ◌*◌, ◌-◌, ◌^◌, ◌<◌, ◌≤◌, ◌==◌, bit_and, bit_or, max, min, Bool, true, false, not, ◌&&◌, ◌||◌, length, inl, inr, refl, sym, ap, ◌∙◌, arith, w64}
use Rattle.std.specs.Prelude.{Option, nat_lt}
use Rattle.std.specs.Int.{bit_at, bit_not}
use Rattle.std.specs.Int.Bits.{and_lt}
use Rattle.std.proofs.Math.Pow.{pow_mono}
use Rattle.std.proofs.lemmas.Bool.{cases_lt, lt-ltb}
use Rattle.std.proofs.lemmas.Nat.{or_lt}
use Rattle.std.proofs.lemmas.Nat.Bits.{bit_at-lt, bit_at-zero, bit_at_above, bit_at_and, bit_at_not, bit_at_or, bit_at-pow_same, bit_at-pow_other, same_from_bits_below}
use Rattle.rv_model.specs.declared.work.Change.{Change}
use Rattle.rv_model.specs.Numbers.{has_bit, number_of, one_if}
use Rattle.rv_model.proofs.NumberLemmas.{bit_or_not, has_bit-number_of, number_of-lt, number_of-same}
use Rattle.rv_bind.specs.declared.bindings.Item.{Item}
use Rattle.rv_control.specs.declared.sets.Those.{Those}
use Rattle.rv_control.specs.Trees.{ControlValue}
use Rattle.rv_control.specs.Sets.{chosen_set, is_chosen}
use Rattle.rv_control.specs.Effects.{with_switches}

-- one bit of a number that was lowered and raised, by the bits of all three
one_bit : (was low up : ℕ) → was < 2 → low < 2 → up < 2 → (max (min was (1 - low)) up == 1) ≡ ((up == 1) || ((was == 1) && not (low == 1)))
one_bit zero zero zero w l u = refl
one_bit zero zero (suc up) w l u = let z : up ≡ 0 = omega arith in rw z refl
one_bit zero (suc low) zero w l u = let z : low ≡ 0 = omega arith in rw z refl
one_bit zero (suc low) (suc up) w l u = let z : low ≡ 0 = omega arith in let y : up ≡ 0 = omega arith in rw (z, y) refl
one_bit (suc was) zero zero w l u = let z : was ≡ 0 = omega arith in rw z refl
one_bit (suc was) zero (suc up) w l u = let z : was ≡ 0 = omega arith in let y : up ≡ 0 = omega arith in rw (z, y) refl
one_bit (suc was) (suc low) zero w l u = let z : was ≡ 0 = omega arith in let y : low ≡ 0 = omega arith in rw (z, y) refl
one_bit (suc was) (suc low) (suc up) w l u = let z : was ≡ 0 = omega arith in let y : low ≡ 0 = omega arith in let x : up ≡ 0 = omega arith in rw (z, y, x) refl

-- whether a bit is on behind a change
abbrev pub on_after : ℕ → ℕ → ℕ → ℕ → Bool
on_after was low up b = has_bit up b || (has_bit was b && not (has_bit low b))

-- the switches behind a change have the bits that go on, and those of before that do not go off
pub bit-after : (was low up b : ℕ) → low < 2 ^ 64 → b < 64 → has_bit (bit_or (bit_and was (bit_not w64 low)) up) b ≡ on_after was low up b
bit-after was low up b fits inside =
    ap (λ (n : ℕ). n == 1) (bit_at_or (bit_and was (bit_not w64 low)) up b ∙ ap (λ (n : ℕ). max n (bit_at up b)) (bit_at_and was (bit_not w64 low) b ∙ ap (min (bit_at was b)) (bit_at_not w64 low b fits inside)))
    ∙ one_bit (bit_at was b) (bit_at low b) (bit_at up b) (bit_at-lt was b) (bit_at-lt low b) (bit_at-lt up b)

-- numbers of 64 bits with the same bits are one
pub same-bits : (x y : ℕ) → x < 2 ^ 64 → y < 2 ^ 64 → ((b : ℕ) → b < 64 → has_bit x b ≡ has_bit y b) → x ≡ y
same-bits x y small little same = same_from_bits_below 64 x y small little (λ b inside. bit_or_not x b ∙ ap one_if (same b inside) ∙ sym (bit_or_not y b))

-- 0 has no bit
pub bit-none : (b : ℕ) → has_bit 0 b ≡ false
bit-none b = ap (λ (n : ℕ). n == 1) (bit_at-zero b)

-- a power of two has its bit
pub bit-power : (k : ℕ) → has_bit (2 ^ k) k ≡ true
bit-power k = ap (λ (n : ℕ). n == 1) (bit_at-pow_same k)

-- and no other
pub bit-other : (k b : ℕ) → b ≢ k → has_bit (2 ^ k) b ≡ false
bit-other k b other = ap (λ (n : ℕ). n == 1) (bit_at-pow_other k b other)

-- the switches behind a change are a word
pub after-small : (was low up : ℕ) → was < 2 ^ 64 → low < 2 ^ 64 → up < 2 ^ 64 → bit_or (bit_and was (bit_not w64 low)) up < 2 ^ 64
after-small was low up small fits little = or_lt 64 (bit_and was (bit_not w64 low)) up (and_lt 64 was (bit_not w64 low) small (omega arith)) little

-- where a change leaves each bit as it is, the files stay
pub stays : (tree : ControlValue) (change : Change) → tree.switches < 2 ^ 64 → change.lower < 2 ^ 64 → change.raise < 2 ^ 64 → ((b : ℕ) → b < 64 → on_after tree.switches change.lower change.raise b ≡ has_bit tree.switches b) → with_switches tree change ≡ tree
stays tree change small fits little same =
    ap (λ (n : ℕ). record tree { switches = n })
    (same-bits (bit_or (bit_and tree.switches (bit_not w64 change.lower)) change.raise) tree.switches (after-small tree.switches change.lower change.raise small fits little) small
    (λ b inside. bit-after tree.switches change.lower change.raise b fits inside ∙ same b inside))

-- ---- sets of monitors

-- nothing times a number, and nothing, are nothing
zero_times : (k : ℕ) → 0 * k + 0 ≡ 0
zero_times k = omega arith

-- a set of none is empty
none-set : (n : ℕ) → number_of (λ b. false) n ≡ 0
unfolding number_of
none-set zero = refl
none-set (suc n) = let later : number_of (λ b. false) n ≡ 0 = none-set n in rw later (zero_times (2 ^ n))

module _ (tree : ControlValue) (item : Option Item) (which : Those) where
  -- a set of monitors has the bit of each that is chosen
  pub bit-set : (b : ℕ) → has_bit (chosen_set tree item which) b ≡ (nat_lt b (length tree.monitors) && is_chosen tree item which b)
  bit-set b = elim (cases_lt b (length tree.monitors)) [
    | inl inside ↦ has_bit-number_of (is_chosen tree item which) (length tree.monitors) b inside ∙ rw (lt-ltb b (length tree.monitors) inside) refl
    | inr above ↦ (
        let none : bit_at (chosen_set tree item which) b ≡ 0 = bit_at_above (chosen_set tree item which) (length tree.monitors) b (number_of-lt (is_chosen tree item which) (length tree.monitors)) above in
        let past : nat_lt b (length tree.monitors) ≡ false = grind arith in
        ap (λ (n : ℕ). n == 1) none ∙ rw past refl)
  ]

  -- it is a word
  pub set-small : length tree.monitors ≤ 32 → chosen_set tree item which < 2 ^ 32
  set-small few =
      let lt : chosen_set tree item which < 2 ^ length tree.monitors = number_of-lt (is_chosen tree item which) (length tree.monitors) in
      let le : 2 ^ length tree.monitors ≤ 2 ^ 32 = pow_mono few in
      omega arith

  -- where none is chosen it is empty
  pub set-empty : ((b : ℕ) → b < length tree.monitors → is_chosen tree item which b ≡ false) → chosen_set tree item which ≡ 0
  set-empty none = number_of-same (is_chosen tree item which) (λ b. false) (length tree.monitors) none ∙ none-set (length tree.monitors)
