-- What a slot's word tells of its phase and its levels.
use Rattle.std.proofs.Common.{◌≡◌, ◌≢◌, ℕ, ◌+◌, ◌^◌, ◌<◌, arith, refl, sym, ap, ◌∙◌, subst, List, [], sum, reverse, get_or}
use Rattle.std.proofs.lemmas.List.{get_or_default}
use Rattle.rv_model.specs.declared.entry.Entry.{Entry}
use Rattle.rv_model.specs.declared.hit.What.{What}
use Rattle.rv_model.specs.Judging.{Judge}
use Rattle.rv_model.specs.Phases.{Phase, waiting, running, stopped, level, levels_of, letter_at, phase_of, rows_of}
use Rattle.rv_model.specs.Setups.{Setup, judge_of, start_of}
use Rattle.rv_model.specs.SharedWords.{packed}
use Rattle.rv_model.proofs.JudgeLemmas.{rows-start}
use Rattle.rv_model.proofs.TableJudgeLemmas.{every_table_is_judged}
use Rattle.rv_model.specs.Stepping.{start_set, table_judge}
use Rattle.rv_model.proofs.NumberLemmas.{number_of-lt}
use Rattle.rv_word.specs.Words.{set_in, atoms_in}
use Rattle.rv_core.specs.Advance.{PulseFits, letter_by}
use Rattle.rv_core.specs.Core.{IsCore, IsLive}
use Rattle.rv_core.specs.declared.phase.RowPhase.TheVariants as by_rows
use Rattle.rv_core.specs.RowPhases.{phase_at, row_phase}
use Rattle.rv_core.specs.inner.SetPhases.{phase_by}
use Rattle.rv_core.specs.Setup.{IsSetup, judges_of, table_at}
use Rattle.rv_core.proofs.CoreLemmas.{judge-at, table_at-is}
use Rattle.rv_core.proofs.LevelLemmas.{levels_are_bits}
use Rattle.rv_core.proofs.WordLemmas.{letter-is}

-- a set of rows that runs
running-by : (set : ℕ) → (set ≢ 0) × (set ≢ 1) → phase_by set ≡ by_rows.Running set
running-by set live = grind arith

-- the high half of a phase's word tells the phase
pub phase-packed : (j : Judge) (levels : ℕ) (p : Phase) → levels < 2 ^ 32 → IsLive j p → phase_by (set_in (packed j levels p)) ≡ row_phase j p
phase-packed j levels waiting lt live = let h = levels_are_bits.halves 1 levels lt in rw h.0 refl
phase-packed j levels (running letters) lt live = let h = levels_are_bits.halves (rows_of j letters) levels lt in rw h.0 (running-by (rows_of j letters) live)
phase-packed j levels stopped lt live = refl

-- the low half has the levels, unless it is stopped
pub levels-packed : (j : Judge) (levels : ℕ) (p : Phase) → levels < 2 ^ 32 → p ≢ stopped → atoms_in (packed j levels p) ≡ levels
levels-packed j levels waiting lt goes = (levels_are_bits.halves 1 levels lt).1
levels-packed j levels (running letters) lt goes = (levels_are_bits.halves (rows_of j letters) levels lt).1
levels-packed j levels stopped lt goes = absurd (goes refl)

module _ (s : Setup) (words : List ℕ) (h : List Entry) (k : IsCore s words h) (slot : ℕ) (lt : slot < sum s.shape) where
  -- the judge, the levels and the phase of the slot
  abbrev j : Judge
  j = judge_of s (judges_of s) slot

  abbrev levels : ℕ
  levels = levels_of (start_of s slot) (reverse h) slot

  abbrev p : Phase
  p = phase_at (record { setup = s; history = h }) slot

  -- what runs has rows
  live : IsLive j p
  live = subst (λ (v : Judge). IsLive v (phase_of v (start_of s slot) (reverse h) slot)) (sym (judge-at s k.is_setup slot lt)) (k.live slot lt)

  -- the word that is read at the slot's place
  module _ (word : ℕ) (read : word ≡ get_or words (slot + 1) word) where
    -- it has the levels and the phase
    word_is : word ≡ packed j levels p
    word_is = read ∙ get_or_default words (slot + 1) word 0 (let c = k.count in omega arith) ∙ k.words_are slot lt

    -- it tells the phase
    pub word-phase : phase_by (set_in word) ≡ row_phase j p
    word-phase = ap (λ (w : ℕ). phase_by (set_in w)) word_is ∙ phase-packed j levels p (number_of-lt (level (start_of s slot) (reverse h) slot) 32) live

    -- and the letter of what comes with these levels
    pub word-letter : (w : What) → PulseFits w → p ≢ stopped → letter_by w (atoms_in word) ≡ letter_at (level (start_of s slot) (reverse h) slot) w
    word-letter w fits goes =
        ap (λ (n : ℕ). letter_by w (atoms_in n)) word_is
        ∙ ap (letter_by w) (levels-packed j levels p (number_of-lt (level (start_of s slot) (reverse h) slot) 32) goes)
        ∙ sym (letter-is w (level (start_of s slot) (reverse h) slot) fits)

-- the rows of no letters are the table's start row
pub start-rows : (s : Setup) (is : IsSetup s) (slot : ℕ) → slot < sum s.shape → start_set (table_at s slot) ≡ rows_of (judge_of s (judges_of s) slot) []
start-rows s is slot lt =
    let t = table_at s slot in
    sym (rows-start t (table_at-is s is slot lt) (table_judge t) (every_table_is_judged t (table_at-is s is slot lt))) ∙ ap (λ (v : Judge). rows_of v []) (sym (judge-at s is slot lt))
