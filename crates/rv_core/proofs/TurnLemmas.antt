-- A turn of a phase is a turn of its set of rows.
use Rattle.std.proofs.Common.{◌≡◌, ◌≢◌, ℕ, ◌==◌, not, Bool, true, false, ◌⊎◌, inl, inr, List, [], ◌∷◌, ◌++◌, arith, refl, sym, ap, ◌∙◌}
use Rattle.std.specs.Bool.{if◌then◌else◌}
use Rattle.rv_model.specs.declared.hit.Letter.{Letter}
use Rattle.rv_model.specs.declared.hit.Mode.{Mode}
use Rattle.rv_model.specs.declared.hit.Mode.TheVariants as mode
use Rattle.rv_model.specs.declared.hit.What.{What}
use Rattle.rv_model.specs.declared.hit.What.TheVariants.{Da, Ltl, Nothing}
use Rattle.rv_model.specs.declared.entry.Answer.{Answer}
use Rattle.rv_model.specs.declared.entry.Answer.TheVariants.{Started, Kept, Failed}
use Rattle.rv_model.specs.Table.{Table, of_events, of_labels, first_row}
use Rattle.rv_model.specs.Judging.{Judge, JudgesByTable}
use Rattle.rv_model.specs.Stepping.{IsTable, step_set, start_set}
use Rattle.rv_model.specs.Phases.{Phase, waiting, running, stopped, rows_of, turn}
use Rattle.rv_model.proofs.JudgeLemmas.{HasLetter, rows_of-snoc, holds-test, holds-rows, rows-not_one, rows-start}
use Rattle.rv_core.specs.Advance.{RunsItsEvent, FitsKind, set_turn}
use Rattle.rv_core.specs.Core.{IsLive}

-- the rows of a phase
abbrev pub set_of : Judge → Phase → ℕ
set_of j waiting = 1
set_of j (running word) = rows_of j word
set_of j stopped = 0

-- it waits or runs
abbrev pub IsGoing : Phase → Type 0
IsGoing waiting = Unit {0}
-- it waits or runs
IsGoing (running word) = Unit {0}
IsGoing stopped = ⊥

-- an answer, with the set of the phase after it
abbrev pub shown : Judge → Answer × Phase → Answer × ℕ
shown j r = (r.0, set_of j r.1)

-- one of two answers with their sets
abbrev pick_set : Bool → Answer × ℕ → Answer × ℕ → Answer × ℕ
pick_set b x y = if b then x else y

-- one of two answers with their phases
abbrev pick_phase : Bool → Answer × Phase → Answer × Phase → Answer × Phase
pick_phase b x y = if b then x else y

-- choosing comes before or after showing
picks : (j : Judge) (b : Bool) (x y : Answer × Phase) → pick_set b (shown j y) (shown j x) ≡ shown j (pick_phase (not b) x y)
picks j true x y = refl
picks j false x y = refl

-- what goes has rows
pub set-positive : (j : Judge) (p : Phase) → IsGoing p → IsLive j p → (set_of j p == 0) ≡ false
set-positive j waiting going live = refl
set-positive j (running word) going live = let n = live.0 in grind arith
set-positive j stopped going live = absurd going

-- a run goes on or waits again
going-if : (b : Bool) (a c : Answer) (word : List Letter) → IsGoing (pick_phase b (a, running word) (c, waiting)).1
going-if true a c word = tt
going-if false a c word = tt

-- no letter stops an instance
pub turn-going : (j : Judge) (p : Phase) → IsGoing p → (m : Mode) (x : Letter) → IsGoing (turn j p m x).1
turn-going j waiting going mode.Event x = tt
turn-going j waiting going mode.End x = tt
turn-going j waiting going mode.Start x = tt
turn-going j waiting going mode.StartRun x = going-if (j.holds (x ∷ [])) Started (Failed (rows_of j [])) (x ∷ [])
turn-going j (running word) going m x = going-if (j.holds (word ++ x ∷ [])) Kept (Failed (rows_of j word)) (word ++ x ∷ [])
turn-going j stopped going m x = absurd going

-- a run may begin with no letter only at row 1
abbrev pub MayStart : Table → Mode → Type 0
MayStart t m = RunsItsEvent m ⊎ (first_row t ≡ 1)

-- a hit that fits begins so
pub fits-start : (t : Table) (m : Mode) (w : What) → FitsKind t m w → MayStart t m
-- a hit that fits begins so
fits-start (of_events n rows) m w fits = inr refl
-- a hit that fits begins so
fits-start (of_labels nodes) m (Da _) fits = absurd fits
-- a hit that fits begins so
fits-start (of_labels nodes) m Nothing fits = absurd fits
-- a hit that fits begins so
fits-start (of_labels nodes) m (Ltl _ _ _) fits = inl fits

-- a list to which a letter was added has one
snoc-letter : (word : List Letter) (x : Letter) → HasLetter (word ++ x ∷ [])
snoc-letter [] x = tt
-- a list to which a letter was added has one
snoc-letter (y ∷ word) x = tt

module _ (t : Table) (it : IsTable t) (j : Judge) (judges : JudgesByTable t j) where
  -- a turn of the phase is a turn of its set
  pub turn-is : (p : Phase) → IsGoing p → IsLive j p → (m : Mode) (x : Letter) → set_turn t (set_of j p) m x ≡ shown j (turn j p m x)
  turn-is stopped going live m x = absurd going
  turn-is waiting going live mode.Event x = refl
  turn-is waiting going live mode.End x = refl
  turn-is waiting going live mode.Start x = rw (rows-start t it j judges) refl
  turn-is waiting going live mode.StartRun x =
      let next : step_set t (start_set t) x ≡ rows_of j (x ∷ []) = sym (rows_of-snoc t it j judges [] x ∙ ap (λ n. step_set t n x) (rows-start t it j judges)) in
      rw (next, holds-test t it j judges (x ∷ []), rows-start t it j judges) (picks j (rows_of j (x ∷ []) == 0) (Started, running (x ∷ [])) (Failed (start_set t), waiting))
  turn-is (running word) going live m x =
      let not_one : (rows_of j word == 1) ≡ false = let n = live.1 in grind arith in
      rw (not_one, ← rows_of-snoc t it j judges word x, holds-test t it j judges (word ++ x ∷ [])) (picks j (rows_of j (word ++ x ∷ []) == 0) (Kept, running (word ++ x ∷ [])) (Failed (rows_of j word), waiting))

  -- what runs after a letter has rows, and not row 0
  lives : (word : List Letter) → HasLetter word → (b : Bool) (a : Answer) → j.holds word ≡ b → (answer : Answer) → IsLive j (pick_phase b (answer, running word) (a, waiting)).1
  lives word some true a h answer = (holds-rows t it j judges word h, rows-not_one t it j judges word (inl some))
  lives word some false a h answer = tt

  -- a run that may begin with no letter has rows, and not row 0 alone
  begun : MayStart t mode.Start → (rows_of j [] ≢ 0) × (rows_of j [] ≢ 1)
  begun (inl run) = absurd run
  begun (inr one) =
      let two : start_set t ≡ 2 = rw one refl in
      let rows : rows_of j [] ≡ 2 = rows-start t it j judges ∙ two in
      ((λ e. absurd (omega arith)), (λ e. absurd (omega arith)))

  -- what runs after a turn has rows, and not row 0 alone
  pub turn-live : (p : Phase) (m : Mode) → MayStart t m → (x : Letter) → IsLive j (turn j p m x).1
  turn-live stopped m may x = tt
  turn-live waiting mode.Event may x = tt
  turn-live waiting mode.End may x = tt
  turn-live waiting mode.Start may x = begun may
  turn-live waiting mode.StartRun may x = lives (x ∷ []) tt (j.holds (x ∷ [])) (Failed (rows_of j [])) refl Started
  -- what runs after a turn has rows, and not row 0 alone
  turn-live (running word) m may x = lives (word ++ x ∷ []) (snoc-letter word x) (j.holds (word ++ x ∷ [])) (Failed (rows_of j word)) refl Kept
