-- What an act makes of a slot's word is what it makes of the phase and the levels.
use Rattle.std.proofs.Common.{◌≡◌, ◌≢◌, ℕ, ◌+◌, ◌*◌, ◌^◌, ◌<◌, ◌==◌, Bool, true, false, arith, refl, sym, ap, ◌∙◌, subst}
use Rattle.std.specs.Bool.{if◌then◌else◌}
use Rattle.rv_model.specs.declared.hit.Letter.{Letter}
use Rattle.rv_model.specs.declared.hit.What.{What}
use Rattle.rv_model.specs.declared.hit.What.TheVariants.{Da, Ltl, Nothing}
use Rattle.rv_model.specs.declared.hit.Hit.{Hit}
use Rattle.rv_model.specs.declared.entry.Act.{Act}
use Rattle.rv_model.specs.declared.entry.Act.TheVariants.{Deliver, Stop, Look, Raise, Lower, Clear, End}
use Rattle.rv_model.specs.declared.entry.Answer.{Answer}
use Rattle.rv_model.specs.Numbers.{has_bit, number_of}
use Rattle.rv_model.specs.Table.{Table}
use Rattle.rv_model.specs.Judging.{Judge, JudgesByTable}
use Rattle.rv_model.specs.Stepping.{IsTable}
use Rattle.rv_model.specs.Phases.{Phase, waiting, running, stopped, turn, letter_at, level_by, level_after, phase_after}
use Rattle.rv_model.specs.SharedWords.{packed}
use Rattle.rv_model.proofs.NumberLemmas.{number_of-lt, number_of-same, number_of-bits}
use Rattle.rv_core.specs.Advance.{PulseFits, WhatFits, levels_after, letter_by, set_turn, moved, advanced, acted}
use Rattle.rv_core.specs.Setup.{word_index}
use Rattle.rv_core.specs.Core.{IsLive}
use Rattle.rv_core.proofs.LevelLemmas.{levels_are_bits}
use Rattle.rv_core.proofs.TurnLemmas.{set_of, IsGoing, shown, MayStart, set-positive, turn-going, turn-is, turn-live}

-- the word of what goes
packed-going : (j : Judge) (levels : ℕ) (p : Phase) → IsGoing p → packed j levels p ≡ set_of j p * 2 ^ 32 + levels
packed-going j levels waiting going = omega arith
packed-going j levels (running word) going = refl
packed-going j levels stopped going = absurd going

-- an answer, with the word of the phase after it
abbrev pub turned : Judge → ℕ → Answer × Phase → Answer × ℕ
turned j levels r = (r.0, packed j levels r.1)

-- an answer, with the word of the set after it
abbrev with_levels : ℕ → Answer × ℕ → Answer × ℕ
with_levels levels r = (r.0, r.1 * 2 ^ 32 + levels)

-- the two are one where it goes
with_levels-shown : (j : Judge) (levels : ℕ) (r : Answer × Phase) → IsGoing r.1 → with_levels levels (shown j r) ≡ turned j levels r
with_levels-shown j levels r going = ap (λ (n : ℕ). (r.0, n)) (sym (packed-going j levels r.1 going))

-- a word that is not stopped has its halves
advanced-halves : (t : Table) (set low : ℕ) (hit : Hit) → low < 2 ^ 32 → (set == 0) ≡ false → advanced t (set * 2 ^ 32 + low) hit ≡ moved t set (levels_after hit.what low) hit
advanced-halves t set low hit lt some = let h = levels_are_bits.halves set low lt in rw (h.0, h.1, some) refl

-- the levels with a hit, and its letter, by their bits
levels-are : (w : What) (was : ℕ → Bool) → WhatFits w → number_of (λ atom. level_by w atom (was atom)) 32 ≡ levels_after w (number_of was 32)
levels-are (Da _) was fits = refl
levels-are Nothing was fits = refl
levels-are (Ltl on off pulse) was fits = levels_are_bits.levels_of was on off pulse fits.0.0 fits.0.1

-- the letter, by the levels with the hit
pub letter-is : (w : What) (now : ℕ → Bool) → PulseFits w → letter_at now w ≡ letter_by w (number_of now 32)
-- the letter, by the levels with the hit
letter-is (Da _) now fits = refl
-- the letter, by the levels with the hit
letter-is Nothing now fits = refl
-- the letter, by the levels with the hit
letter-is (Ltl on off pulse) now fits = levels_are_bits.letters now on off pulse fits

module _ (t : Table) (it : IsTable t) (j : Judge) (judges : JudgesByTable t j) where
  -- a hit on what goes
  going-is : (was : ℕ → Bool) (hit : Hit) → WhatFits hit.what → (p : Phase) → IsGoing p → IsLive j p
      → advanced t (packed j (number_of was 32) p) hit
      ≡ turned j (number_of (λ atom. level_by hit.what atom (was atom)) 32) (turn j p hit.mode (letter_at (λ atom. level_by hit.what atom (was atom)) hit.what))
  going-is was hit fits p going live =
      let now : ℕ → Bool = λ atom. level_by hit.what atom (was atom) in
      let old : ℕ = number_of was 32 in
      let new : ℕ = number_of now 32 in
      let letter : Letter = letter_at now hit.what in
      let word_is : packed j old p ≡ set_of j p * 2 ^ 32 + old = packed-going j old p going in
      let levels : levels_after hit.what old ≡ new = sym (levels-are hit.what was fits) in
      let turn_of : set_turn t (set_of j p) hit.mode (letter_by hit.what new) ≡ shown j (turn j p hit.mode letter) =
      ap (λ (x : Letter). set_turn t (set_of j p) hit.mode x) (sym (letter-is hit.what now fits.1)) ∙ turn-is t it j judges p going live hit.mode letter in
      ap (λ (w : ℕ). advanced t w hit) word_is
      ∙ advanced-halves t (set_of j p) old hit (number_of-lt was 32) (set-positive j p going live)
      ∙ ap (λ (n : ℕ). moved t (set_of j p) n hit) levels
      ∙ ap (with_levels new) turn_of
      ∙ with_levels-shown j new (turn j p hit.mode letter) (turn-going j p going hit.mode letter)

  -- a hit on any phase
  pub advanced-is : (was : ℕ → Bool) (hit : Hit) → WhatFits hit.what → (p : Phase) → IsLive j p
      → advanced t (packed j (number_of was 32) p) hit
      ≡ turned j (number_of (λ atom. level_by hit.what atom (was atom)) 32) (turn j p hit.mode (letter_at (λ atom. level_by hit.what atom (was atom)) hit.what))
  advanced-is was hit fits waiting live = going-is was hit fits waiting tt live
  advanced-is was hit fits (running word) live = going-is was hit fits (running word) tt live
  advanced-is was hit fits stopped live = refl

-- one place is one slot
same_slot : (slot i : ℕ) → slot + 1 ≡ i + 1 → (slot == i) ≡ true
same_slot slot i e = grind arith

-- another place is another slot
other_slot : (slot i : ℕ) → slot + 1 ≢ i + 1 → (slot == i) ≡ false
other_slot slot i n = grind arith

-- the levels of a slot after an act
abbrev pub levels_now : ℕ → ℕ → Act → (ℕ → Bool) → ℕ → Bool
levels_now start i act was atom = level_after start i atom act (was atom)

-- what an act on the slot wants
abbrev pub Acts : Table → ℕ → Act → Type 0
Acts t start (Deliver slot hit) = WhatFits hit.what × MayStart t hit.mode
Acts t start (Clear slot) = start < 2 ^ 32
Acts t start (End slot) = start < 2 ^ 32
Acts t start _ = Unit {0}

module _ (t : Table) (it : IsTable t) (j : Judge) (judges : JudgesByTable t j) (start : ℕ) where
  -- an act on the slot
  pub acted-same : (was : ℕ → Bool) (i : ℕ) (act : Act) (p : Phase) → Acts t start act → IsLive j p → word_index act ≡ i + 1
      → (acted t start (packed j (number_of was 32) p) act).1 ≡ packed j (number_of (levels_now start i act was) 32) (phase_after j (levels_now start i act was) i act p)
  acted-same was i (Deliver slot hit) p acts live e =
      let now : Bool → ℕ → Bool = λ b atom. if b then level_by hit.what atom (was atom) else was atom in
      let P : Bool → Type 0 = λ b. (advanced t (packed j (number_of was 32) p) hit).1 ≡ packed j (number_of (now b) 32) (if b then (turn j p hit.mode (letter_at (now b) hit.what)).1 else p) in
      subst P (sym (same_slot slot i e)) (ap (λ (r : Answer × ℕ). r.1) (advanced-is t it j judges was hit acts.0 p live))
  acted-same was i (Stop slot) p acts live e = rw (same_slot slot i e) refl
  acted-same was i (Clear slot) p acts live e =
      let P : Bool → Type 0 = λ b. 2 ^ 32 + start ≡ packed j (number_of (λ atom. if b then has_bit start atom else was atom) 32) (if b then waiting else p) in
      subst P (sym (same_slot slot i e)) (ap (λ n. 2 ^ 32 + n) (sym (number_of-bits start 32 acts)))
  acted-same was i (End slot) p acts live e =
      let P : Bool → Type 0 = λ b. 2 ^ 32 + start ≡ packed j (number_of (λ atom. if b then has_bit start atom else was atom) 32) (if b then waiting else p) in
      subst P (sym (same_slot slot i e)) (ap (λ n. 2 ^ 32 + n) (sym (number_of-bits start 32 acts)))
  acted-same was i Look p acts live e = absurd (omega arith)
  acted-same was i (Raise _) p acts live e = absurd (omega arith)
  acted-same was i (Lower _) p acts live e = absurd (omega arith)

  -- it leaves what runs with rows
  pub live-same : (on : ℕ → Bool) (i : ℕ) (act : Act) (p : Phase) → Acts t start act → IsLive j p → word_index act ≡ i + 1 → IsLive j (phase_after j on i act p)
  live-same on i (Deliver slot hit) p acts live e = rw (same_slot slot i e) (turn-live t it j judges p hit.mode acts.1 (letter_at on hit.what))
  live-same on i (Stop slot) p acts live e = rw (same_slot slot i e) tt
  live-same on i (Clear slot) p acts live e = rw (same_slot slot i e) tt
  live-same on i (End slot) p acts live e = rw (same_slot slot i e) tt
  live-same on i Look p acts live e = absurd (omega arith)
  live-same on i (Raise _) p acts live e = absurd (omega arith)
  live-same on i (Lower _) p acts live e = absurd (omega arith)

  -- the answer to a hit on the slot
  pub deliver-answer : (was : ℕ → Bool) (slot : ℕ) (hit : Hit) (p : Phase) → Acts t start (Deliver slot hit) → IsLive j p
      → (acted t start (packed j (number_of was 32) p) (Deliver slot hit)).0 ≡ (turn j p hit.mode (letter_at (levels_now start slot (Deliver slot hit) was) hit.what)).0
  deliver-answer was slot hit p acts live =
      let P : Bool → Type 0 = λ b. (advanced t (packed j (number_of was 32) p) hit).0 ≡ (turn j p hit.mode (letter_at (λ atom. if b then level_by hit.what atom (was atom) else was atom) hit.what)).0 in
      subst P (sym (same_slot slot slot refl)) (ap (λ (r : Answer × ℕ). r.0) (advanced-is t it j judges was hit acts.0 p live))

-- an act on another word
pub phase_after-other : (j : Judge) (on : ℕ → Bool) (i : ℕ) (act : Act) (p : Phase) → word_index act ≢ i + 1 → phase_after j on i act p ≡ p
phase_after-other j on i (Deliver slot hit) p n = rw (other_slot slot i n) refl
phase_after-other j on i (Stop slot) p n = rw (other_slot slot i n) refl
phase_after-other j on i (Clear slot) p n = rw (other_slot slot i n) refl
phase_after-other j on i (End slot) p n = rw (other_slot slot i n) refl
phase_after-other j on i Look p n = refl
phase_after-other j on i (Raise _) p n = refl
phase_after-other j on i (Lower _) p n = refl

-- leaves the levels
level_after-other : (start i atom : ℕ) (act : Act) (was : Bool) → word_index act ≢ i + 1 → level_after start i atom act was ≡ was
level_after-other start i atom (Deliver slot hit) was n = rw (other_slot slot i n) refl
level_after-other start i atom (Stop slot) was n = refl
level_after-other start i atom (Clear slot) was n = rw (other_slot slot i n) refl
level_after-other start i atom (End slot) was n = rw (other_slot slot i n) refl
level_after-other start i atom Look was n = refl
level_after-other start i atom (Raise _) was n = refl
level_after-other start i atom (Lower _) was n = refl

-- leaves the word
pub packed-other : (j : Judge) (start : ℕ) (was : ℕ → Bool) (i : ℕ) (act : Act) (p : Phase) → word_index act ≢ i + 1
    → packed j (number_of (levels_now start i act was) 32) (phase_after j (levels_now start i act was) i act p) ≡ packed j (number_of was 32) p
packed-other j start was i act p n =
    ap (λ (q : Phase). packed j (number_of (levels_now start i act was) 32) q) (phase_after-other j (levels_now start i act was) i act p n)
    ∙ ap (λ (levels : ℕ). packed j levels p) (number_of-same (levels_now start i act was) was 32 (λ atom _. level_after-other start i atom act (was atom) n))
