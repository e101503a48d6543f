-- What the parts of the plain programs answer.
use Rattle.std.specs.Prelude.{◌≡◌, ℕ, ◌+◌, ◌<◌, List, ◌∷◌, reverse, flat_map, true}
use Rattle.rv_model.specs.declared.entry.Answer.{Answer}
use Rattle.rv_model.specs.declared.entry.Entry.{Entry}
use Rattle.rv_model.specs.declared.hit.Letter.{Letter}
use Rattle.rv_model.specs.declared.hit.Mode.{Mode}
use Rattle.rv_model.specs.declared.record.Record.{Record}
use Rattle.rv_model.specs.Judging.{Judge}
use Rattle.rv_model.specs.Phases as model
use Rattle.rv_model.specs.Records.{script_records}
use Rattle.rv_model.specs.Scripts.{played}
use Rattle.rv_model.specs.SharedWords.{packed}
use Rattle.rv_model.specs.Table as tables
use Rattle.rv_model.specs.Works.{Work}
use Rattle.rv_reference.specs.declared.monitor.Monitor.{Monitor}
use Rattle.rv_reference.specs.declared.phase.Phase.{Phase}
use Rattle.rv_reference.specs.declared.plan.Plan.{Plan}
use Rattle.rv_reference.specs.PlainPhases.{phase_in, ByJudge}
use Rattle.rv_reference.specs.Plans.{setup_of, ByJudges}

-- what follows a row has a number below the count
abbrev pub BelowCount : tables.Table → ℕ → Type 0
BelowCount t count = (row : ℕ) (x : Letter) (next : ℕ) → tables.follows t row x next ≡ true → next < count

-- the answer and the phase after it are those that a hit of this mode with this letter gives
abbrev pub IsTurn : Monitor → Phase → Mode → Letter → Answer → Phase → Type 0
IsTurn m phase mode letter answer after = ByJudge m (λ j. (answer ≡ (model.turn j (phase_in phase) mode letter).0) × (phase_in after ≡ (model.turn j (phase_in phase) mode letter).1))

-- the phase after the entry is the one that its act makes of the phase before it
abbrev pub IsPhaseAfter : Monitor → List Entry → Entry → ℕ → Phase → Phase → Type 0
IsPhaseAfter m before entry slot phase after = ByJudge m (λ j. phase_in after ≡ model.phase_after j (model.level m.start (entry ∷ reverse before) slot) slot entry.act (phase_in phase))

-- the word of a phase and levels
abbrev pub IsPacked : Monitor → ℕ → Phase → ℕ → Type 0
IsPacked m levels phase word = ByJudge m (λ j. word ≡ packed j levels (phase_in phase))

-- the records of one work
abbrev pub work_records : Plan → List Judge → List Entry → Work → List Record
work_records p js history w = script_records w.deliveries w.turns (played (setup_of p) js (2 + w.cpu) (reverse history))

-- the records are those of this work in the history
abbrev pub IsWorkRecords : Plan → Work → List Entry → List Record → Type 0
IsWorkRecords p w history records = ByJudges p (λ js. records ≡ work_records p js history w)

-- the records are those of all works in the history, one work after another
abbrev pub IsAllRecords : Plan → List Work → List Entry → List Record → Type 0
IsAllRecords p works history records = ByJudges p (λ js. records ≡ flat_map (work_records p js history) works)
