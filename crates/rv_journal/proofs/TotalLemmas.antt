-- Sums over lanes, and what a step takes from what its lane holds.
use Rattle.std.proofs.Common.{◌≡◌, ◌≢◌, ℕ, zero, suc, ◌+◌, ◌<◌, ◌≤◌, List, [], ◌∷◌, ◌⊎◌, inl, inr, Option, None, Some, refl, sym, ap, subst, arith}
use Rattle.std.specs.Prelude.{MatchOption}
use Rattle.rv_journal.specs.declared.steps.LaneProgress.{LaneProgress}
use Rattle.rv_journal.specs.declared.steps.VersionInterval.{VersionInterval}
use Rattle.rv_journal.specs.declared.steps.NextStep.{NextStep}
use Rattle.rv_journal.specs.declared.steps.MergeStep.{MergeStep}
use Rattle.rv_journal.specs.declared.steps.MergeStep.TheVariants.{TurnLook, Item}
use Rattle.rv_journal.specs.CountedLanes.{CountedLaneValue}
use Rattle.rv_journal.specs.MergeSteps.{items_of, behind}
use Rattle.rv_journal.specs.inner.MergeSteps.{rest_of, GoesTo, losing, held_by, total}
use Rattle.rv_journal.specs.inner.MergePending.{step_pending, lost_step, next_pending}

-- ---- sums over lanes

-- equal or not
pub same_or_not : (a b : ℕ) → (a ≡ b) ⊎ (a ≢ b)
same_or_not a b = grind arith

-- sums of what is the same
pub total-same : (f h : ℕ → ℕ) (n : ℕ) → ((l : ℕ) → l < n → f l ≡ h l) → total f n ≡ total h n
total-same f h zero all = refl
total-same f h (suc n) all = let rest = total-same f h n (λ l lt. all l (omega arith)) in let last = all n (omega arith) in omega arith

-- where one is less by so much
pub total-less : (f h : ℕ → ℕ) (n place d : ℕ) → place < n → f place ≡ h place + d → ((l : ℕ) → l ≢ place → f l ≡ h l) → total f n ≡ total h n + d
total-less f h zero place d lt here others = absurd (omega arith)
total-less f h (suc n) place d lt here others = by (same_or_not place n)
    (λ less. total-less f h n place d less here others)
  where
    by : (place ≡ n) ⊎ (place ≢ n) → (place < n → total f n ≡ total h n + d) → total f (suc n) ≡ total h (suc n) + d
    by (inl is) rest =
        let front = total-same f h n (λ l less. others l (λ e. absurd (omega arith))) in
        let last : f n ≡ h n + d = subst (λ (k : ℕ). f k ≡ h k + d) is here in
        omega arith
    by (inr ne) rest = let front = rest (omega arith) in let last = others n (λ e. ne (sym e)) in omega arith

-- one of them is no more than all
pub total-least : (f : ℕ → ℕ) (n place : ℕ) → place < n → f place ≤ total f n
total-least f zero place lt = absurd (omega arith)
total-least f (suc n) place lt = by (same_or_not place n) (λ less. total-least f n place less)
  where
    by : (place ≡ n) ⊎ (place ≢ n) → (place < n → f place ≤ total f n) → f place ≤ total f (suc n)
    by (inl is) rest = let e : f place ≡ f n = ap f is in omega arith
    by (inr ne) rest = let r = rest (omega arith) in omega arith

-- where all are 0, so is the sum
pub total-none : (f : ℕ → ℕ) (n : ℕ) → ((l : ℕ) → l < n → f l ≡ 0) → total f n ≡ 0
total-none f zero all = refl
total-none f (suc n) all = let rest = total-none f n (λ l lt. all l (omega arith)) in let last = all n (omega arith) in omega arith

-- ---- what a step takes from what a lane holds

-- what the first step was lost from
abbrev pub first_lost : VersionInterval → List MergeStep → ℕ
first_lost g [] = 0
first_lost g (step ∷ steps) = lost_step g step

-- a lane holds so much less behind its step
pub held-step : (g : VersionInterval) (step : MergeStep) (steps : List MergeStep) → held_by g.slot g.version (step ∷ steps) ≡ held_by g.slot g.version steps + (step_pending g step + first_lost g steps)
held-step g step steps = by step steps
  where
    losing-first : (xs : List MergeStep) → losing g.slot g.version (items_of xs) ≡ losing g.slot g.version (items_of (behind xs)) + first_lost g xs
    losing-first [] = refl
    losing-first (TurnLook ∷ xs) = omega arith
    losing-first (Item d ∷ xs) = omega arith

    by : (x : MergeStep) (xs : List MergeStep) → held_by g.slot g.version (x ∷ xs) ≡ held_by g.slot g.version xs + (step_pending g x + first_lost g xs)
    by TurnLook xs = let l = losing-first xs in omega arith
    by (Item d) xs = let l = losing-first xs in omega arith

-- the next step is the first of those that are left
pub next-first : (g : VersionInterval) (lane : CountedLaneValue) (cursor : LaneProgress) (next : Option NextStep) → MatchOption next (rest_of lane cursor ≡ []) (λ n. GoesTo lane cursor n.step n.cursor) → next_pending g next ≡ first_lost g (rest_of lane cursor)
next-first g lane cursor None none = ap (first_lost g) (sym none)
next-first g lane cursor (Some n) goes = ap (first_lost g) (sym goes.steps)
