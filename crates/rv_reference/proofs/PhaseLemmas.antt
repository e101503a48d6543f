-- Sets of rows, turns and phases, by any judge of the monitor.
use Rattle.std.proofs.Common.{◌≡◌, ℕ, ◌+◌, ◌*◌, ◌<◌, ◌^◌, Bool, true, false, IsTrue, ◌↔◌, List, ◌∷◌, ◌-◌, ◌≤◌, length, take, get_or, reverse, ap, arith, add-one, refl, sym, ◌∙◌, if◌then◌else◌}
use Rattle.std.specs.Prelude.{Result, Ok, Err, IfOk}
use Rattle.std.specs.declared.alloc.AllocError.{AllocError}
use Rattle.rv_model.specs.declared.entry.Entry.{Entry}
use Rattle.rv_model.specs.declared.hit.Letter.{Letter}
use Rattle.rv_model.specs.Phases as model
use Rattle.rv_model.specs.Numbers.{number_of}
use Rattle.rv_model.specs.Table.{Reaches}
use Rattle.rv_reference.specs.declared.monitor.Monitor.{Monitor}
use Rattle.rv_reference.specs.Monitors.{table_by}
use Rattle.rv_reference.specs.declared.phase.Phase.{Phase}
use Rattle.rv_reference.specs.PlainPhases.{ByJudge, IsPhaseOf}
use Rattle.rv_reference.specs.inner.PlainParts.{IsPhaseAfter}
use Rattle.rv_reference.proofs.ListLemmas.{reverse_last}
use Rattle.rv_reference.proofs.NumberLemmas.{number-none, number-step}

-- the rows below the number that the letters reach; and the set is below the power
abbrev pub RowsBelow : Monitor → List Letter → ℕ → ℕ → Type 0
RowsBelow m letters n set = (set < 2 ^ n) × ByJudge m (λ j. set ≡ number_of (j.reaches letters) n)

-- two tests of one fact are the same
pub tests-same : {P : Type 0} (a b : Bool) → IsTrue a ↔ P → IsTrue b ↔ P → a ≡ b
tests-same true true p q = refl
tests-same true false p q = sym (q.1 (p.0 refl))
tests-same false true p q = p.1 (q.0 refl)
tests-same false false p q = refl

-- at first no row is in the set
pub rows-begin : (m : Monitor) (letters : List Letter) → RowsBelow m letters 0 0
rows-begin m letters = (omega arith, λ j judges. number-none (j.reaches letters))

-- with one more bit the set is below the next power
step-below : (on : Bool) (n set new : ℕ) → set < 2 ^ n → new ≡ (if on then 1 else 0) * 2 ^ n + set → new < 2 ^ (n + 1)
step-below true n set new lt step = rw add-one (grind arith)
step-below false n set new lt step = rw add-one (grind arith)

-- one more row is in the set where the letters reach it
pub rows-step : (m : Monitor) (letters : List Letter) (n set : ℕ) (on : Bool) (new : ℕ) → RowsBelow m letters n set → IsTrue on ↔ Reaches (table_by m) letters n → new ≡ (if on then 1 else 0) * 2 ^ n + set → RowsBelow m letters (n + 1) new
rows-step m letters n set on new before is step =
    (step-below on n set new before.0 step, λ j judges. number-step (j.reaches letters) n set on new (before.1 j judges) (tests-same on (j.reaches letters n) is (judges.reaches letters n)) step)

-- what holds of the value of a result
pub if_ok-more : {X E : Type 0} (r : Result X E) (P Q : X → Type 0) → ((x : X) → P x → Q x) → IfOk r P → IfOk r Q
if_ok-more (Ok x) P Q more p = more x p
if_ok-more (Err e) P Q more p = tt

-- the phase after one more entry
pub phase-next : (m : Monitor) (history : List Entry) (d : Entry) (slot : ℕ) (phase : Phase) (r : Result Phase AllocError) → 1 ≤ length history → IsPhaseOf m (take (length history - 1) history) slot phase → IfOk r (λ after. IsPhaseAfter m (take (length history - 1) history) (get_or history (length history - 1) d) slot phase after) → IfOk r (λ after. IsPhaseOf m history slot after)
phase-next m history d slot phase r some was =
    let e = get_or history (length history - 1) d in
    let before = take (length history - 1) history in
    if_ok-more r (λ after. IsPhaseAfter m before e slot phase after) (λ after. IsPhaseOf m history slot after) (λ after is j judges.
    rw (reverse_last history d some) (is j judges ∙ ap (model.phase_after j (model.level m.start (e ∷ reverse before) slot) slot e.act) (was j judges)))
