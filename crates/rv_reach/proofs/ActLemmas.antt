-- What is asked of an entry that is a delivery, or an end, on a slot.
use Rattle.std.proofs.Common.{◌≡◌, ◌≢◌, ◌⊎◌, ℕ, ◌+◌, ◌<◌, ◌≤◌, Bool, true, false, ◌&&◌, ◌||◌, ◌==◌, List, [], ◌∷◌, reverse, refl, sym, ap, ◌∙◌, true≢false, arith}
use Rattle.std.specs.Bool.{if◌then◌else◌}
use Rattle.std.proofs.lemmas.List.{reverse-append}
use Rattle.rv_model.specs.declared.entry.Act.{Act}
use Rattle.rv_model.specs.declared.entry.Act.TheVariants.{Deliver, End}
use Rattle.rv_model.specs.declared.entry.Answer.{Answer}
use Rattle.rv_model.specs.declared.entry.Entry.{Entry}
use Rattle.rv_model.specs.declared.hit.Hit.{Hit}
use Rattle.rv_model.specs.declared.hit.Letter.{Letter}
use Rattle.rv_model.specs.Judging.{Judge}
use Rattle.rv_model.specs.Phases.{Phase, waiting, level, letter_at, phase_after, phase_of, turn}
use Rattle.rv_model.specs.Setups.{judge_of, monitor_of, start_of}
use Rattle.rv_model.specs.SharedWords.{answer_at}
use Rattle.rv_core.specs.Core.{CoreValue}
use Rattle.rv_core.specs.RowPhases.{phase_at}
use Rattle.rv_core.specs.Setup.{judges_of, word_index}
use Rattle.rv_reach.specs.Reached.{delivers, ends, of_delivery}
use Rattle.rv_reach.specs.Passing.{with_entry}

-- ---- numbers and tests

-- a number is itself
pub same-number : (n m : ℕ) → n ≡ m → (n == m) ≡ true
same-number n m is = grind arith

-- and no other one
pub other-number : (n m : ℕ) → n ≢ m → (n == m) ≡ false
other-number n m other = grind arith

-- what is told apart differs
pub apart-number : (n m : ℕ) → (n == m) ≡ false → n ≢ m
apart-number n m is same = let t : (n == m) ≡ true = same-number n m same in true≢false (sym t ∙ is)

-- what is told the same is
pub told-same : (n m : ℕ) → (n == m) ≡ true → n ≡ m
told-same n m is = grind arith

-- two numbers are the same, or not
pub same_or_not : (n m : ℕ) → (n ≡ m) ⊎ (n ≢ m)
same_or_not n m = grind arith

-- a number is below another, or not
pub below_or_not : (n m : ℕ) → (n < m) ⊎ (m ≤ n)
below_or_not n m = grind arith

-- both, of which one is not so
pub and-false : (b c : Bool) → c ≡ false → (b && c) ≡ false
and-false true c is = is
and-false false c is = refl

-- one or the other, which is so
pub or-true : (b : Bool) → (b || true) ≡ true
or-true true = refl
or-true false = refl

-- ---- the entry

module _ (core : CoreValue) (e : Entry) (slot : ℕ) where
  -- the judge of the slot, and what its instance was doing
  abbrev j : Judge
  j = judge_of core.setup (judges_of core.setup) slot

  -- the phase before the entry
  abbrev pub phase_before : Phase
  phase_before = phase_at core slot

  -- and behind it
  abbrev pub phase_behind : Phase
  phase_behind = phase_of j (start_of core.setup slot) (e ∷ reverse core.history) slot

  -- which is that of the history with the entry
  pub phase-behind : phase_at (with_entry core e) slot ≡ phase_behind
  phase-behind = ap (λ (z : List Entry). phase_of j (start_of core.setup slot) z slot) (reverse-append core.history (e ∷ []))

  -- by an act
  acted : (act : Act) → e.act ≡ act → phase_behind ≡ phase_after j (level (start_of core.setup slot) (e ∷ reverse core.history) slot) slot act phase_before
  acted act is = ap (λ (a : Act). phase_after j (level (start_of core.setup slot) (e ∷ reverse core.history) slot) slot a phase_before) is

  -- an end of the slot
  module _ (is_act : e.act ≡ End slot) where
    -- it is no delivery
    pub end-none : (asked : ℕ → Hit → Bool) → of_delivery asked e.act ≡ false
    end-none asked = ap (of_delivery asked) is_act

    -- it is an end of the monitor
    pub end-here : (monitor : ℕ) → monitor_of core.setup.shape slot ≡ monitor → ends core.setup monitor e.act ≡ true
    end-here monitor here = ap (ends core.setup monitor) is_act ∙ same-number (monitor_of core.setup.shape slot) monitor here

    -- the instance waits
    pub end-behind : phase_behind ≡ waiting
    end-behind = acted (End slot) is_act ∙ ap (λ (b : Bool). if b then waiting else phase_before) (same-number slot slot refl)

    -- it is on no other word
    pub end-apart : (place : ℕ) → slot ≢ place → word_index e.act ≢ place + 1
    end-apart place other there = let on : word_index e.act ≡ slot + 1 = ap word_index is_act in other (omega arith)

  -- a delivery on the slot
  module _ (hit : Hit) (is_act : e.act ≡ Deliver slot hit) where
    -- its letter, by the levels with it
    abbrev pub letter_here : Letter
    letter_here = letter_at (level (start_of core.setup slot) (e ∷ reverse core.history) slot) hit.what

    -- its answer
    abbrev pub answer_here : Answer
    answer_here = answer_at core.setup (judges_of core.setup) (reverse core.history) e e.act

    pub answer-here : answer_here ≡ (turn j phase_before hit.mode letter_here).0
    answer-here = ap (answer_at core.setup (judges_of core.setup) (reverse core.history) e) is_act

    -- and the phase behind it
    pub turn-behind : phase_behind ≡ (turn j phase_before hit.mode letter_here).1
    turn-behind = acted (Deliver slot hit) is_act ∙ ap (λ (b : Bool). if b then (turn j phase_before hit.mode letter_here).1 else phase_before) (same-number slot slot refl)

    -- what is asked of the deliveries of its monitor
    pub delivers-here : (monitor : ℕ) → monitor_of core.setup.shape slot ≡ monitor → (asked : ℕ → Hit → Bool) → delivers core.setup monitor asked e ≡ asked slot hit
    delivers-here monitor here asked =
        ap (of_delivery (λ at h. monitor_of core.setup.shape at == monitor && asked at h)) is_act ∙ ap (λ (b : Bool). b && asked slot hit) (same-number (monitor_of core.setup.shape slot) monitor here)

    -- of those on its slot
    pub on-here : (asked : ℕ → Hit → Bool) → of_delivery (λ at h. at == slot && asked at h) e.act ≡ asked slot hit
    on-here asked = ap (of_delivery (λ at h. at == slot && asked at h)) is_act ∙ ap (λ (b : Bool). b && asked slot hit) (same-number slot slot refl)

    -- of those on another one
    pub on-other : (place : ℕ) → slot ≢ place → (asked : ℕ → Hit → Bool) → of_delivery (λ at h. at == place && asked at h) e.act ≡ false
    on-other place other asked = ap (of_delivery (λ at h. at == place && asked at h)) is_act ∙ ap (λ (b : Bool). b && asked slot hit) (other-number slot place other)

    -- of those on any, where it is not so of this one
    pub on-none : (place : ℕ) (asked : ℕ → Hit → Bool) → asked slot hit ≡ false → of_delivery (λ at h. at == place && asked at h) e.act ≡ false
    on-none place asked none = ap (of_delivery (λ at h. at == place && asked at h)) is_act ∙ and-false (slot == place) (asked slot hit) none

    -- it ends nothing
    pub no-end : (monitor : ℕ) → ends core.setup monitor e.act ≡ false
    no-end monitor = ap (ends core.setup monitor) is_act

    -- it is on no other word
    pub apart : (place : ℕ) → slot ≢ place → word_index e.act ≢ place + 1
    apart place other there = let on : word_index e.act ≡ slot + 1 = ap word_index is_act in other (omega arith)
