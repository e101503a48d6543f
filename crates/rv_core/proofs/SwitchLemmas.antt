-- The switches by their bits.
use Rattle.std.proofs.Common.{◌≡◌, ◌≢◌, ℕ, zero, suc, ◌-◌, ◌^◌, ◌<◌, ◌==◌, bit_and, bit_or, max, min, Bool, true, false, arith, refl, ◌∙◌, w64}
use Rattle.std.specs.Bool.{if◌then◌else◌}
use Rattle.std.specs.Int.{bit_at, bit_not}
use Rattle.std.proofs.lemmas.Nat.Bits.{bit_at-lt, bit_at_or, bit_at_and, bit_at_not}
use Rattle.rv_model.specs.declared.entry.Act.{Act}
use Rattle.rv_model.specs.declared.entry.Act.TheVariants.{Deliver, Stop, Look, Raise, Lower, Clear, End}
use Rattle.rv_model.specs.Numbers.{has_bit, number_of, one_if}
use Rattle.rv_model.specs.Table.{Table}
use Rattle.rv_model.specs.Setups.{Setup}
use Rattle.rv_model.specs.SharedWords.{switch_after}
use Rattle.rv_model.proofs.NumberLemmas.{is_number_of, bit_at-number_of}
use Rattle.rv_core.specs.Advance.{acted}
use Rattle.rv_core.specs.Setup.{ActFits, word_index}

-- one bit of a union
raised : (bits b : ℕ) (was : Bool) → max (one_if was) (bit_at bits b) ≡ one_if (if has_bit bits b then true else was)
raised bits b was = go (bit_at bits b) (bit_at-lt bits b) was
  where
    go : (v : ℕ) → v < 2 → (was : Bool) → max (one_if was) v ≡ one_if (if v == 1 then true else was)
    go zero lt true = refl
    go zero lt false = refl
    go (suc v) lt true = let z : v ≡ 0 = omega arith in rw z refl
    go (suc v) lt false = let z : v ≡ 0 = omega arith in rw z refl

-- one bit of a difference
lowered : (bits b : ℕ) (was : Bool) → min (one_if was) (1 - bit_at bits b) ≡ one_if (if has_bit bits b then false else was)
lowered bits b was = go (bit_at bits b) (bit_at-lt bits b) was
  where
    go : (v : ℕ) → v < 2 → (was : Bool) → min (one_if was) (1 - v) ≡ one_if (if v == 1 then false else was)
    go zero lt true = refl
    go zero lt false = refl
    go (suc v) lt true = let z : v ≡ 0 = omega arith in rw z refl
    go (suc v) lt false = let z : v ≡ 0 = omega arith in rw z refl

-- an act on the switches
pub switch-acted : (s : Setup) (t : Table) (start : ℕ) (act : Act) (has : ℕ → Bool) → ActFits s act → word_index act ≡ 0 → (acted t start (number_of has 64) act).1 < 2 ^ 64 → (acted t start (number_of has 64) act).1 ≡ number_of (λ b. switch_after b act (has b)) 64
switch-acted s t start Look has fit e lt = refl
switch-acted s t start (Raise bits) has fit e lt = is_number_of (λ b. switch_after b (Raise bits) (has b)) 64 (bit_or (number_of has 64) bits) lt (λ b h. bit_at_or (number_of has 64) bits b ∙ rw (bit_at-number_of has 64 b h) (raised bits b (has b)))
switch-acted s t start (Lower bits) has fit e lt = is_number_of (λ b. switch_after b (Lower bits) (has b)) 64 (bit_and (number_of has 64) (bit_not w64 bits)) lt (λ b h. bit_at_and (number_of has 64) (bit_not w64 bits) b ∙ rw (bit_at-number_of has 64 b h, bit_at_not w64 bits b fit h) (lowered bits b (has b)))
switch-acted s t start (Deliver _ _) has fit e lt = absurd (omega arith)
switch-acted s t start (Stop _) has fit e lt = absurd (omega arith)
switch-acted s t start (Clear _) has fit e lt = absurd (omega arith)
switch-acted s t start (End _) has fit e lt = absurd (omega arith)

-- an act on another word
pub switch-other : (act : Act) (has : ℕ → Bool) → word_index act ≢ 0 → number_of (λ b. switch_after b act (has b)) 64 ≡ number_of has 64
switch-other Look has n = absurd (n refl)
switch-other (Raise bits) has n = absurd (n refl)
switch-other (Lower bits) has n = absurd (n refl)
switch-other (Deliver _ _) has n = refl
switch-other (Stop _) has n = refl
switch-other (Clear _) has n = refl
switch-other (End _) has n = refl
