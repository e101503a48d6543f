-- An entry's words show whether it failed.
use Rattle.std.proofs.Common.{◌≡◌, ◌≢◌, ℕ, ◌+◌, ◌^◌, ◌<◌, ◌==◌, ◌&&◌, ◌||◌, not, Bool, true, false, List, [], ◌∷◌, ◌++◌, inl, inr, arith, refl, sym, ap, ◌∙◌, subst, sum}
use Rattle.std.specs.Bool.{if◌then◌else◌}
use Rattle.rv_model.specs.declared.entry.Act.{Act}
use Rattle.rv_model.specs.declared.entry.Act.TheVariants.{Deliver, Stop, Look, Raise, Lower, Clear, End}
use Rattle.rv_model.specs.declared.entry.Answer.{Answer}
use Rattle.rv_model.specs.declared.entry.Answer.TheVariants.{Started, Kept, Failed}
use Rattle.rv_model.specs.declared.entry.Entry.{Entry}
use Rattle.rv_model.specs.declared.hit.Hit.{Hit}
use Rattle.rv_model.specs.declared.hit.Letter.{Letter}
use Rattle.rv_model.specs.declared.hit.Mode.{Mode}
use Rattle.rv_model.specs.declared.hit.Mode.TheVariants as mode
use Rattle.rv_model.specs.Judging.{Judge, JudgesByTable}
use Rattle.rv_model.specs.Phases.{Phase, waiting, running, stopped, rows_of, turn, level, levels_of, letter_at, phase_after, answer_to}
use Rattle.rv_model.specs.Scripts.{fails}
use Rattle.rv_model.specs.Setups.{Setup, start_of}
use Rattle.rv_model.specs.SharedWords.{packed, word_on, answer_at}
use Rattle.rv_model.specs.Stepping.{table_judge}
use Rattle.rv_model.specs.Table.{Table}
use Rattle.rv_model.proofs.NumberLemmas.{number_of-lt}
use Rattle.rv_model.proofs.TableJudgeLemmas.{every_table_is_judged}
use Rattle.rv_word.specs.Words.{set_in}
use Rattle.rv_core.specs.Advance.{WhatFits, FitsTable}
use Rattle.rv_core.specs.Core.{IsLive, slot_phase}
use Rattle.rv_core.specs.Setup.{IsSetup, judges_of, table_at, word_index}
use Rattle.rv_core.proofs.CoreLemmas.{table_at-is, judge-at, word_of-is}
use Rattle.rv_core.proofs.LevelLemmas.{levels_are_bits}
use Rattle.rv_core.proofs.TurnLemmas.{set_of, fits-start, turn-live}
use Rattle.rv_core.proofs.WordLemmas.{Acts, live-same, phase_after-other}
use Rattle.rv_laws.proofs.PastLemmas.{Each}
use Rattle.rv_journal.specs.inner.Whole.{is_start_run, shows_failure, is_failed_entry}
use Rattle.rv_journal.proofs.TotalLemmas.{same_or_not}

-- ---- one word

-- the set of a packed word is the phase's
set-packed : (j : Judge) (levels : ℕ) (p : Phase) → levels < 2 ^ 32 → set_in (packed j levels p) ≡ set_of j p
set-packed j levels waiting lt = omega arith
set-packed j levels (running word) lt = (levels_are_bits.halves (rows_of j word) levels lt).0
set-packed j levels stopped lt = omega arith

-- a failure by the sets before and after
abbrev by_sets : Mode → ℕ → ℕ → Bool
by_sets m before after = (after == 1) && (not (before == 0) && (not (before == 1) || is_start_run m))

-- a number other than 1 does not pass the test for 1
not-one : (n : ℕ) → n ≢ 1 → (n == 1) ≡ false
not-one n other = grind arith

-- a number other than 0 does not pass the test for 0
not-none : (n : ℕ) → n ≢ 0 → (n == 0) ≡ false
not-none n other = grind arith

-- what leaves other rows than row 0 alone did not fail
no-failure : (m : Mode) (before after : ℕ) → after ≢ 1 → by_sets m before after ≡ false
no-failure m before after other = rw (not-one after other) refl

-- a run that ends
ended : (m : Mode) (before : ℕ) → before ≢ 0 → before ≢ 1 → by_sets m before 1 ≡ true
ended m before some other = rw (not-none before some, not-one before other) refl

-- one of two answers with their phases
abbrev pick : Bool → Answer × Phase → Answer × Phase → Answer × Phase
pick b x y = if b then x else y

module _ (j : Judge) where
  -- a run that begins or does not
  begins : (x : Letter) (b : Bool) → IsLive j (pick b (Started, running (x ∷ [])) (Failed (rows_of j []), waiting)).1
      → by_sets mode.StartRun 1 (set_of j (pick b (Started, running (x ∷ [])) (Failed (rows_of j []), waiting)).1) ≡ fails (pick b (Started, running (x ∷ [])) (Failed (rows_of j []), waiting)).0
  begins x true live = no-failure mode.StartRun 1 (rows_of j (x ∷ [])) live.1
  begins x false live = refl

  -- a run that goes on or ends
  goes-on : (m : Mode) (word : List Letter) (x : Letter) → IsLive j (running word) → (b : Bool) → IsLive j (pick b (Kept, running (word ++ x ∷ [])) (Failed (rows_of j word), waiting)).1
      → by_sets m (rows_of j word) (set_of j (pick b (Kept, running (word ++ x ∷ [])) (Failed (rows_of j word), waiting)).1) ≡ fails (pick b (Kept, running (word ++ x ∷ [])) (Failed (rows_of j word), waiting)).0
  goes-on m word x live true after = no-failure m (rows_of j word) (rows_of j (word ++ x ∷ [])) after.1
  goes-on m word x live false after = ended m (rows_of j word) live.0 live.1

  -- a turn fails where its sets say so
  turn-sets : (p : Phase) (m : Mode) (x : Letter) → IsLive j p → IsLive j (turn j p m x).1 → by_sets m (set_of j p) (set_of j (turn j p m x).1) ≡ fails (turn j p m x).0
  turn-sets stopped m x live after = refl
  turn-sets waiting mode.Event x live after = refl
  turn-sets waiting mode.End x live after = refl
  turn-sets waiting mode.Start x live after = no-failure mode.Start 1 (rows_of j []) after.1
  turn-sets waiting mode.StartRun x live after = begins x (j.holds (x ∷ [])) after
  turn-sets (running word) m x live after = goes-on m word x live (j.holds (word ++ x ∷ [])) after

  -- and where its words say so
  turn-words : (p : Phase) (m : Mode) (x : Letter) (levels now : ℕ) → levels < 2 ^ 32 → now < 2 ^ 32 → IsLive j p → IsLive j (turn j p m x).1 → shows_failure m (packed j levels p) (packed j now (turn j p m x).1) ≡ fails (turn j p m x).0
  turn-words p m x levels now lt lt' live after =
      ap (λ (n : ℕ). by_sets m n (set_in (packed j now (turn j p m x).1))) (set-packed j levels p lt)
      ∙ ap (by_sets m (set_of j p)) (set-packed j now (turn j p m x).1 lt')
      ∙ turn-sets p m x live after

-- ---- a past

-- a delivery is on a slot of the setup, and its hit fits the slot's table and the words; nothing is cleared or ended
abbrev pub FitsEntry : Setup → Act → Type 0
FitsEntry s (Deliver slot hit) = (slot < sum s.shape) × FitsTable (table_at s slot) hit × WhatFits hit.what
FitsEntry s (Clear slot) = ⊥
FitsEntry s (End slot) = ⊥
FitsEntry s _ = Unit {0}

-- the entry has the words that its past gives, and fits
pub record FitsPast (s : Setup) (past : List Entry) (e : Entry) : Type 0 where
  pub found : e.before ≡ word_on s (judges_of s) past e.act
  pub left : e.after ≡ word_on s (judges_of s) (e ∷ past) e.act
  pub fits : FitsEntry s e.act

-- an act on a slot wants what fits
acts-on : (s : Setup) (i : ℕ) (act : Act) → FitsEntry s act → word_index act ≡ i + 1 → Acts (table_at s i) (start_of s i) act
acts-on s i (Deliver slot hit) f e =
    let same : slot ≡ i = omega arith in
    let fits : FitsTable (table_at s i) hit = subst (λ (n : ℕ). FitsTable (table_at s n) hit) same f.1 in
    (f.2, fits-start (table_at s i) hit.mode hit.what fits.1)
acts-on s i (Stop _) f e = tt
acts-on s i (Clear slot) f e = absurd f
acts-on s i (End slot) f e = absurd f
acts-on s i Look f e = tt
acts-on s i (Raise _) f e = tt
acts-on s i (Lower _) f e = tt

-- a slot is found to be itself
same_slot : (slot : ℕ) → (slot == slot) ≡ true
same_slot slot = grind arith

module _ (s : Setup) (k : IsSetup s) where
  -- the judge of a slot's table judges by its paths
  judges-it : (i : ℕ) → i < sum s.shape → JudgesByTable (table_at s i) (table_judge (table_at s i))
  judges-it i lt = every_table_is_judged (table_at s i) (table_at-is s k i lt)

  -- one entry leaves what runs with rows
  live-next : (past : List Entry) (e : Entry) (i : ℕ) → i < sum s.shape → FitsEntry s e.act → IsLive (table_judge (table_at s i)) (slot_phase s past i) → IsLive (table_judge (table_at s i)) (slot_phase s (e ∷ past) i)
  live-next past e i lt fits live =
      let j : Judge = table_judge (table_at s i) in
      let on : ℕ → Bool = level (start_of s i) (e ∷ past) i in
      elim (same_or_not (word_index e.act) (i + 1)) [
        | inl same ↦ live-same (table_at s i) (table_at-is s k i lt) j (judges-it i lt) (start_of s i) on i e.act (slot_phase s past i) (acts-on s i e.act fits same) live same
        | inr other ↦ subst (IsLive j) (sym (phase_after-other j on i e.act (slot_phase s past i) other)) live
      ]

  -- what runs has rows, and not row 0 alone
  live-past : (past : List Entry) → Each (FitsPast s) past → (i : ℕ) → i < sum s.shape → IsLive (table_judge (table_at s i)) (slot_phase s past i)
  live-past [] fits i lt = tt
  live-past (e ∷ past) fits i lt = live-next past e i lt fits.0.fits (live-past past fits.1 i lt)

  -- a delivery fails where its words say so
  deliver-shows : (past : List Entry) (e : Entry) (slot : ℕ) (hit : Hit) → e.act ≡ Deliver slot hit → Each (FitsPast s) past → FitsPast s past e → shows_failure hit.mode e.before e.after ≡ fails (answer_at s (judges_of s) past e (Deliver slot hit))
  deliver-shows past e slot hit is before here =
      let fits : FitsEntry s (Deliver slot hit) = subst (FitsEntry s) is here.fits in
      let lt : slot < sum s.shape = fits.0 in
      let t : Table = table_at s slot in
      let j : Judge = table_judge t in
      let start : ℕ = start_of s slot in
      let p : Phase = slot_phase s past slot in
      let on : ℕ → Bool = level start (e ∷ past) slot in
      let x : Letter = letter_at on hit.what in
      let live : IsLive j p = live-past past before slot lt in
      let found : e.before ≡ packed j (levels_of start past slot) p = here.found ∙ ap (word_on s (judges_of s) past) is ∙ word_of-is s k past slot lt in
      let phase : slot_phase s (e ∷ past) slot ≡ (turn j p hit.mode x).1 =
      ap (λ (a : Act). phase_after j on slot a p) is ∙ ap (λ (b : Bool). if b then (turn j p hit.mode x).1 else p) (same_slot slot) in
      let left : e.after ≡ packed j (levels_of start (e ∷ past) slot) (turn j p hit.mode x).1 =
      here.left ∙ ap (word_on s (judges_of s) (e ∷ past)) is ∙ word_of-is s k (e ∷ past) slot lt ∙ ap (packed j (levels_of start (e ∷ past) slot)) phase in
      let after : IsLive j (turn j p hit.mode x).1 = turn-live t (table_at-is s k slot lt) j (judges-it slot lt) p hit.mode (fits-start t hit.mode hit.what fits.1.1) x in
      ap (λ (n : ℕ). shows_failure hit.mode n e.after) found
      ∙ ap (shows_failure hit.mode (packed j (levels_of start past slot) p)) left
      ∙ turn-words j p hit.mode x (levels_of start past slot) (levels_of start (e ∷ past) slot) (number_of-lt (level start past slot) 32) (number_of-lt on 32) live after
      ∙ sym (ap (λ (v : Judge). fails (answer_to v start past e (Deliver slot hit))) (judge-at s k slot lt))

  -- an entry fails where its words say so
  pub entry-shows : (past : List Entry) (e : Entry) (act : Act) → e.act ≡ act → Each (FitsPast s) past → FitsPast s past e → is_failed_entry e act ≡ fails (answer_at s (judges_of s) past e act)
  entry-shows past e (Deliver slot hit) is before here = deliver-shows past e slot hit is before here
  entry-shows past e (Stop slot) is before here = refl
  entry-shows past e Look is before here = refl
  entry-shows past e (Raise bits) is before here = refl
  entry-shows past e (Lower bits) is before here = refl
  entry-shows past e (Clear slot) is before here = refl
  entry-shows past e (End slot) is before here = refl
