-- The steps on a slot: its acts, as if its number were 0, each with its seat and its line, the newest first. They tell its answers.
use Rattle.std.proofs.Common.{◌≡◌, ℕ, Bool, true, false, ◌==◌, List, [], ◌∷◌, map, arith, refl, sym, ap, ◌∙◌}
use Rattle.std.specs.Prelude.{if◌then◌else◌}
use Rattle.rv_model.specs.declared.entry.Act.{Act}
use Rattle.rv_model.specs.declared.entry.Act.TheVariants.{Deliver, Stop, Look, Raise, Lower, Clear, End}
use Rattle.rv_model.specs.declared.entry.Answer.{Answer}
use Rattle.rv_model.specs.declared.entry.Entry.{Entry}
use Rattle.rv_model.specs.Histories.{is_on}
use Rattle.rv_model.specs.Judging.{Judge}
use Rattle.rv_model.specs.Phases.{Phase, level, level_by, level_after, letter_at, phase_of, phase_after, turn, answer_to}
use Rattle.rv_model.specs.Setups.{Setup, judge_of, start_of}
use Rattle.rv_model.specs.SharedWords.{answer_at}
use Rattle.rv_laws.proofs.AnswerLemmas.{bare}

-- the act as if its slot were 0
abbrev pub at_zero : Act → Act
at_zero (Deliver slot hit) = Deliver 0 hit
at_zero (Stop slot) = Stop 0
at_zero Look = Look
at_zero (Raise bits) = Raise bits
at_zero (Lower bits) = Lower bits
at_zero (Clear slot) = Clear 0
at_zero (End slot) = End 0

-- an act on a slot, with its seat and the line of its turn
pub record Step : Type 0 where
  pub seat : ℕ
  pub line : ℕ
  pub act : Act

-- a step and its answer
pub record Answered : Type 0 where
  pub step : Step
  pub answer : Answer

-- the acts of steps, as a past
abbrev pub past_of : List Step → List Entry
past_of steps = map (λ x. bare x.act) steps

-- what a slot answers to an act after these steps
abbrev pub answer_after : Judge → ℕ → List Step → Act → Answer
answer_after j start steps act = answer_to j start (past_of steps) (bare act) act

-- each step with its answer
abbrev pub answered : Judge → ℕ → List Step → List Answered
answered j start [] = []
answered j start (x ∷ steps) = record { step = x; answer = answer_after j start steps x.act } ∷ answered j start steps

module _ (slot : ℕ) where
  -- ---- one act

  -- an act leaves a level on the slot, or none
  level-one : (start atom : ℕ) (act : Act) (was now : Bool) (b : Bool) → is_on slot act ≡ b → was ≡ now → level_after start slot atom act was ≡ (if b then level_after start 0 atom (at_zero act) now else now)
  level-one start atom (Deliver n hit) was now true on same = rw on (ap (level_by hit.what atom) same)
  level-one start atom (Deliver n hit) was now false on same = rw on same
  level-one start atom (Stop n) was now true on same = same
  level-one start atom (Stop n) was now false on same = same
  level-one start atom Look was now true on same = same
  level-one start atom Look was now false on same = same
  level-one start atom (Raise bits) was now true on same = same
  level-one start atom (Raise bits) was now false on same = same
  level-one start atom (Lower bits) was now true on same = same
  level-one start atom (Lower bits) was now false on same = same
  level-one start atom (Clear n) was now true on same = rw on refl
  level-one start atom (Clear n) was now false on same = rw on same
  level-one start atom (End n) was now true on same = rw on refl
  level-one start atom (End n) was now false on same = rw on same

  -- the same of its phase
  phase-one : (j : Judge) (on on' : ℕ → Bool) (act : Act) (p p' : Phase) (b : Bool) → is_on slot act ≡ b → (b ≡ true → on ≡ on') → p ≡ p' → phase_after j on slot act p ≡ (if b then phase_after j on' 0 (at_zero act) p' else p')
  phase-one j on on' (Deliver n hit) p p' true here levels same =
      rw here (ap (λ (f : ℕ → Bool). (turn j p hit.mode (letter_at f hit.what)).1) (levels refl) ∙ ap (λ (q : Phase). (turn j q hit.mode (letter_at on' hit.what)).1) same)
  phase-one j on on' (Deliver n hit) p p' false here levels same = rw here same
  phase-one j on on' (Stop n) p p' true here levels same = rw here refl
  phase-one j on on' (Stop n) p p' false here levels same = rw here same
  phase-one j on on' Look p p' true here levels same = same
  phase-one j on on' Look p p' false here levels same = same
  phase-one j on on' (Raise bits) p p' true here levels same = same
  phase-one j on on' (Raise bits) p p' false here levels same = same
  phase-one j on on' (Lower bits) p p' true here levels same = same
  phase-one j on on' (Lower bits) p p' false here levels same = same
  phase-one j on on' (Clear n) p p' true here levels same = rw here refl
  phase-one j on on' (Clear n) p p' false here levels same = rw here same
  phase-one j on on' (End n) p p' true here levels same = rw here refl
  phase-one j on on' (End n) p p' false here levels same = rw here same

  -- ---- a past, by the line of each entry
  module _ (line_of : List Entry → Entry → ℕ) where
    -- an entry as a step
    abbrev pub step_of : List Entry → Entry → Step
    step_of past e = record { seat = e.seat; line = line_of past e; act = at_zero e.act }

    -- the steps of a past
    abbrev pub steps_of : List Entry → List Step
    steps_of [] = []
    steps_of (e ∷ past) = if is_on slot e.act then step_of past e ∷ steps_of past else steps_of past

    -- the levels follow from the steps
    level-steps : (start : ℕ) (past : List Entry) (atom : ℕ) → level start past slot atom ≡ level start (past_of (steps_of past)) 0 atom
    level-steps start [] atom = refl
    level-steps start (e ∷ past) atom = level-one start atom e.act (level start past slot atom) (level start (past_of (steps_of past)) 0 atom) (is_on slot e.act) refl (level-steps start past atom) ∙ inner (is_on slot e.act)
      where
        inner : (b : Bool) → (if b then level_after start 0 atom (at_zero e.act) (level start (past_of (steps_of past)) 0 atom) else level start (past_of (steps_of past)) 0 atom) ≡ level start (past_of (if b then step_of past e ∷ steps_of past else steps_of past)) 0 atom
        inner true = refl
        inner false = refl

    -- the levels with an act on the slot
    level-on : (start : ℕ) (past : List Entry) (e : Entry) (act : Act) → e.act ≡ act → is_on slot act ≡ true → level start (e ∷ past) slot ≡ level start (bare (at_zero act) ∷ past_of (steps_of past)) 0
    level-on start past e act is on =
        let each : (atom : ℕ) → level start (e ∷ past) slot atom ≡ level start (bare (at_zero act) ∷ past_of (steps_of past)) 0 atom =
        λ atom. ap (λ (a : Act). level_after start slot atom a (level start past slot atom)) is ∙ level-one start atom act (level start past slot atom) (level start (past_of (steps_of past)) 0 atom) true on (level-steps start past atom) in
        λ k atom. each atom k

    -- the phase follows from the steps
    phase-steps : (j : Judge) (start : ℕ) (past : List Entry) → phase_of j start past slot ≡ phase_of j start (past_of (steps_of past)) 0
    phase-steps j start [] = refl
    phase-steps j start (e ∷ past) =
        phase-one j (level start (e ∷ past) slot) (level start (bare (at_zero e.act) ∷ past_of (steps_of past)) 0) e.act (phase_of j start past slot) (phase_of j start (past_of (steps_of past)) 0) (is_on slot e.act) refl
        (level-on start past e e.act refl) (phase-steps j start past) ∙ inner (is_on slot e.act)
      where
        inner : (b : Bool) → (if b then phase_after j (level start (bare (at_zero e.act) ∷ past_of (steps_of past)) 0) 0 (at_zero e.act) (phase_of j start (past_of (steps_of past)) 0) else phase_of j start (past_of (steps_of past)) 0)
            ≡ phase_of j start (past_of (if b then step_of past e ∷ steps_of past else steps_of past)) 0
        inner true = refl
        inner false = refl

    -- ---- answers
    module _ (s : Setup) (js : List Judge) where
      -- an act on the slot is answered by the steps before it
      answer-one : (past : List Entry) (e : Entry) (act : Act) → e.act ≡ act → is_on slot act ≡ true → answer_at s js past e act ≡ answer_after (judge_of s js slot) (start_of s slot) (steps_of past) (at_zero act)
      answer-one past e (Deliver n hit) is on =
          let here : (n == slot) ≡ true = on in
          let same : n ≡ slot = grind arith in
          let j : Judge = judge_of s js slot in
          let start : ℕ = start_of s slot in
          let later : level start (e ∷ past) slot ≡ level start (bare (Deliver 0 hit) ∷ past_of (steps_of past)) 0 = level-on start past e (Deliver n hit) is on in
          ap (λ (m : ℕ). answer_at s js past e (Deliver m hit)) same
          ∙ ap (λ (f : ℕ → Bool). (turn j (phase_of j start past slot) hit.mode (letter_at f hit.what)).0) later
          ∙ ap (λ (q : Phase). (turn j q hit.mode (letter_at (level start (bare (Deliver 0 hit) ∷ past_of (steps_of past)) 0) hit.what)).0) (phase-steps j start past)
      answer-one past e (Stop n) is on = refl
      answer-one past e Look is on = absurd (let no : false ≡ true = on in cc)
      answer-one past e (Raise bits) is on = absurd (let no : false ≡ true = on in cc)
      answer-one past e (Lower bits) is on = absurd (let no : false ≡ true = on in cc)
      answer-one past e (Clear n) is on = refl
      answer-one past e (End n) is on = refl

      -- the steps of a past, with the answers that they had
      abbrev pub told_of : List Entry → List Answered
      told_of [] = []
      told_of (e ∷ past) = if is_on slot e.act then record { step = step_of past e; answer = answer_at s js past e e.act } ∷ told_of past else told_of past

      -- they had those that follow from the steps
      pub told-answered : (past : List Entry) → told_of past ≡ answered (judge_of s js slot) (start_of s slot) (steps_of past)
      told-answered [] = refl
      told-answered (e ∷ past) = go (is_on slot e.act) refl (told-answered past)
        where
          go : (b : Bool) → is_on slot e.act ≡ b → told_of past ≡ answered (judge_of s js slot) (start_of s slot) (steps_of past) → told_of (e ∷ past) ≡ answered (judge_of s js slot) (start_of s slot) (steps_of (e ∷ past))
          go true on rest =
              let one = answer-one past e e.act refl on in
              let left : told_of (e ∷ past) ≡ record { step = step_of past e; answer = answer_at s js past e e.act } ∷ told_of past = rw on refl in
              let right : steps_of (e ∷ past) ≡ step_of past e ∷ steps_of past = rw on refl in
              left ∙ ap (λ (a : Answer). record { step = step_of past e; answer = a } ∷ told_of past) one
              ∙ ap (λ (z : List Answered). record { step = step_of past e; answer = answer_after (judge_of s js slot) (start_of s slot) (steps_of past) (at_zero e.act) } ∷ z) rest
              ∙ ap (answered (judge_of s js slot) (start_of s slot)) (sym right)
          go false off rest =
              let left : told_of (e ∷ past) ≡ told_of past = rw off refl in
              let right : steps_of (e ∷ past) ≡ steps_of past = rw off refl in
              left ∙ rest ∙ ap (answered (judge_of s js slot) (start_of s slot)) (sym right)

      -- without the answers they are the steps
      pub told-steps : (past : List Entry) → map (λ x. x.step) (told_of past) ≡ steps_of past
      told-steps [] = refl
      told-steps (e ∷ past) = inner (told-steps past) (is_on slot e.act)
        where
          inner : map (λ x. x.step) (told_of past) ≡ steps_of past → (b : Bool) → map (λ x. x.step) (if b then record { step = step_of past e; answer = answer_at s js past e e.act } ∷ told_of past else told_of past) ≡ (if b then step_of past e ∷ steps_of past else steps_of past)
          inner rest true = ap (λ (z : List Step). step_of past e ∷ z) rest
          inner rest false = rest
