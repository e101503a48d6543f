-- Levels by their bits.
use Rattle.std.proofs.Common.{◌≡◌, ℕ, zero, suc, ◌-◌, ◌^◌, ◌<◌, ◌==◌, ◌||◌, Bool, true, false, bit_and, bit_or, max, min, arith, refl, sym, ap, ◌∙◌, w32, Fits}
use Rattle.std.proofs.Math.Facts.{Fits-or}
use Rattle.std.proofs.lemmas.Nat.{and_le_l}
use Rattle.std.specs.Bool.{if◌then◌else◌}
use Rattle.std.specs.Int.{bit_at, bit_not}
use Rattle.std.proofs.lemmas.Nat.Bits.{bit_at-lt, bit_at_or, bit_at_and, bit_at_not}
use Rattle.rv_model.specs.declared.hit.Letter.TheVariants.{Atoms}
use Rattle.rv_model.specs.declared.hit.What.TheVariants.{Ltl}
use Rattle.rv_model.specs.Numbers.{has_bit, number_of, one_if}
use Rattle.rv_model.specs.Phases.{level_by, letter_at}
use Rattle.rv_model.proofs.NumberLemmas.{is_number_of, bit_at-number_of, number_of-lt}
use Rattle.rv_core.specs.Levels.{new_levels}
use Rattle.rv_core.specs.inner.Levels.{LevelsAreBits}

-- one level: `on` wins over `off`
level-bit : (was : Bool) (on off : ℕ) → on < 2 → off < 2 → max (min (one_if was) (1 - off)) on ≡ one_if (if on == 1 then true else if off == 1 then false else was)
level-bit true zero zero a b = refl
level-bit true zero (suc off) a b = let z : off ≡ 0 = omega arith in rw z refl
level-bit true (suc on) zero a b = let z : on ≡ 0 = omega arith in rw z refl
level-bit true (suc on) (suc off) a b = let z : on ≡ 0 = omega arith in let y : off ≡ 0 = omega arith in rw (z, y) refl
level-bit false zero zero a b = refl
level-bit false zero (suc off) a b = let z : off ≡ 0 = omega arith in rw z refl
level-bit false (suc on) zero a b = let z : on ≡ 0 = omega arith in rw z refl
level-bit false (suc on) (suc off) a b = let z : on ≡ 0 = omega arith in let y : off ≡ 0 = omega arith in rw (z, y) refl

-- one atom of a letter
or-bit : (was : Bool) (pulse : ℕ) → pulse < 2 → max (one_if was) pulse ≡ one_if (was || (pulse == 1))
or-bit true zero a = refl
or-bit true (suc pulse) a = let z : pulse ≡ 0 = omega arith in rw z refl
or-bit false zero a = refl
or-bit false (suc pulse) a = let z : pulse ≡ 0 = omega arith in rw z refl

-- a union fits
or-lt : (x y : ℕ) → x < 2 ^ 32 → y < 2 ^ 32 → bit_or x y < 2 ^ 32
or-lt x y a b = let f : Fits w32 x = record { fits = a } in let g : Fits w32 y = record { fits = b } in let r : Fits w32 (bit_or x y) = Fits-or f g in r.fits

-- a part fits
and-lt : (x y : ℕ) → x < 2 ^ 32 → bit_and x y < 2 ^ 32
and-lt x y a = let l = and_le_l x y in omega arith

-- the levels with a hit
levels_of : (has : ℕ → Bool) (on off pulse : ℕ) → on < 2 ^ 32 → off < 2 ^ 32 → number_of (λ atom. level_by (Ltl on off pulse) atom (has atom)) 32 ≡ new_levels (number_of has 32) on off
levels_of has on off pulse a b =
    sym (is_number_of (λ atom. level_by (Ltl on off pulse) atom (has atom)) 32 (new_levels (number_of has 32) on off)
    (or-lt (bit_and (number_of has 32) (bit_not w32 off)) on (and-lt (number_of has 32) (bit_not w32 off) (number_of-lt has 32)) a)
    (λ n lt. bit_at_or (bit_and (number_of has 32) (bit_not w32 off)) on n
    ∙ rw (bit_at_and (number_of has 32) (bit_not w32 off) n, bit_at_not w32 off n b lt, bit_at-number_of has 32 n lt) (level-bit (has n) (bit_at on n) (bit_at off n) (bit_at-lt on n) (bit_at-lt off n))))

-- its letter
letters : (has : ℕ → Bool) (on off pulse : ℕ) → pulse < 2 ^ 32 → letter_at has (Ltl on off pulse) ≡ Atoms (bit_or (number_of has 32) pulse)
letters has on off pulse a =
    ap Atoms (sym (is_number_of (λ atom. has atom || has_bit pulse atom) 32 (bit_or (number_of has 32) pulse)
    (or-lt (number_of has 32) pulse (number_of-lt has 32) a)
    (λ n lt. bit_at_or (number_of has 32) pulse n ∙ rw (bit_at-number_of has 32 n lt) (or-bit (has n) (bit_at pulse n) (bit_at-lt pulse n)))))

-- both, and the halves of a word
pub levels_are_bits : LevelsAreBits
levels_are_bits = record { levels_of = levels_of; letters = letters; halves = λ set low lt. (omega arith, omega arith) }
