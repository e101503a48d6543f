-- A set of monitors, bit by bit.
use Rattle.std.proofs.Common.{◌≡◌, ℕ, suc, ◌+◌, ◌*◌, ◌^◌, ◌<◌, ◌≤◌, Bool, true, false, refl, arith, add-one, if◌then◌else◌}
use Rattle.rv_model.specs.Numbers.{number_of}

-- the set of the first monitors, and the bit of the next one
pub record IsSetOf (has : ℕ → Bool) (place set bit : ℕ) : Type 0 where
  pub value : set ≡ number_of has place
  pub power : bit ≡ 2 ^ place
  pub below : set < bit
  pub few : place ≤ 32

-- of no monitors
pub set-none : (has : ℕ → Bool) → IsSetOf has 0 0 1
unfolding number_of
set-none has = record { value = refl; power = refl; below = omega arith; few = omega arith }

-- one monitor more, which is in the set or not
pub set-more : (has : ℕ → Bool) (place set bit now : ℕ) (b : Bool) → IsSetOf has place set bit → place < 32 → has place ≡ b → now ≡ set + (if b then bit else 0) → IsSetOf has (place + 1) now (bit * 2)
unfolding number_of
set-more has place set bit now b is within here next = record {
  value = rw (add-one place, here) (sum b next);
  power = rw (add-one place) twice;
  below = less b next;
  few = omega arith;
}
  where
    sum : (b : Bool) → now ≡ set + (if b then bit else 0) → now ≡ (if b then 1 else 0) * 2 ^ place + number_of has place
    sum true next = omega arith
    sum false next = omega arith

    twice : bit * 2 ≡ 2 ^ suc place
    twice = let p = is.power in grind arith

    less : (b : Bool) → now ≡ set + (if b then bit else 0) → now < bit * 2
    less true next = omega arith
    less false next = omega arith
