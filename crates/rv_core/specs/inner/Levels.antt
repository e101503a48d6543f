-- The levels and the letter of a hit, defined atom by atom, as operations on bits.
use Rattle.std.specs.Prelude.{◌≡◌, ℕ, ◌+◌, ◌*◌, ◌/◌, ◌%◌, ◌^◌, ◌<◌, Bool, bit_or}
use Rattle.rv_model.specs.declared.hit.Letter.TheVariants.{Atoms}
use Rattle.rv_model.specs.declared.hit.What.TheVariants.{Ltl}
use Rattle.rv_model.specs.Numbers.{number_of}
use Rattle.rv_model.specs.Phases.{level_by, letter_at}
use Rattle.rv_core.specs.Levels.{new_levels}

-- the definitions of levels and letters, atom by atom, are operations on bits
pub record LevelsAreBits : Type 0 where
  -- `on` wins over `off`
  pub levels_of : (has : ℕ → Bool) (on off pulse : ℕ) → on < 2 ^ 32 → off < 2 ^ 32 → number_of (λ atom. level_by (Ltl on off pulse) atom (has atom)) 32 ≡ new_levels (number_of has 32) on off
  -- the letter has the pulses too
  pub letters : (has : ℕ → Bool) (on off pulse : ℕ) → pulse < 2 ^ 32 → letter_at has (Ltl on off pulse) ≡ Atoms (bit_or (number_of has 32) pulse)
  -- the halves of a word
  pub halves : (set low : ℕ) → low < 2 ^ 32 → ((set * 2 ^ 32 + low) / 2 ^ 32 ≡ set) × ((set * 2 ^ 32 + low) % 2 ^ 32 ≡ low)
