-- What the plain phases and answers are, by whatever judge has the monitor's specification and table.
use Rattle.std.specs.Prelude.{◌≡◌, ℕ, List, reverse}
use Rattle.rv_model.specs.declared.entry.Answer.{Answer}
use Rattle.rv_model.specs.declared.entry.Entry.{Entry}
use Rattle.rv_model.specs.declared.hit.Letter.{Letter}
use Rattle.rv_model.specs.Judging.{Judge, JudgesBySpec}
use Rattle.rv_model.specs.Phases as model
use Rattle.rv_reference.specs.declared.monitor.Monitor.{Monitor}
use Rattle.rv_reference.specs.declared.phase.Phase.{Phase}
use Rattle.rv_reference.specs.declared.phase.Phase.TheVariants.{Waiting, Running, Stopped}
use Rattle.rv_reference.specs.Monitors.{table_by}

-- the phase without the memory that its letters take
abbrev pub phase_in : Phase → model.Phase
phase_in Waiting = model.waiting
phase_in (Running letters) = model.running letters.items
phase_in Stopped = model.stopped

-- the fact holds of each judge by the monitor's specification and table
abbrev pub ByJudge : Monitor → (Judge → Type 0) → Type 0
ByJudge m P = (j : Judge) → JudgesBySpec m.spec (table_by m) j → P j

-- the set is that of the rows that the letters reach
abbrev pub IsRowsOf : Monitor → List Letter → ℕ → Type 0
IsRowsOf m letters rows = ByJudge m (λ j. rows ≡ model.rows_of j letters)

-- the phase is that of the slot after the history
abbrev pub IsPhaseOf : Monitor → List Entry → ℕ → Phase → Type 0
IsPhaseOf m history slot phase = ByJudge m (λ j. phase_in phase ≡ model.phase_of j m.start (reverse history) slot)

-- the answer is that of the entry after what went before
abbrev pub IsAnswer : Monitor → List Entry → Entry → Answer → Type 0
IsAnswer m before entry answer = ByJudge m (λ j. answer ≡ model.answer_to j m.start (reverse before) entry entry.act)
