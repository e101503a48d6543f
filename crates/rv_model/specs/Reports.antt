-- The report of a run: a line for each reaction (Linux, Documentation/trace/rv, "Reactors"), and then a line for each monitor.
use Rattle.std.specs.Prelude.{ℕ, ◌+◌, ◌==◌, ◌&&◌, not, Bool, List, [], ◌∷◌, ◌++◌, length, flat_map, count_by, Option, Some, None, slice_get, slice_index_or, if◌then◌else◌, codes, decimal}
use Rattle.std.specs.List.{list_any}
use Rattle.std.specs.Option.{option_map_or}
use Rattle.rv_model.specs.declared.entry.Answer.TheVariants.{Failed}
use Rattle.rv_model.specs.declared.formula.Spec.{Spec}
use Rattle.rv_model.specs.declared.formula.Spec.TheVariants as spec
use Rattle.rv_model.specs.declared.hit.What.{What}
use Rattle.rv_model.specs.declared.hit.What.TheVariants.{Da, Ltl, Nothing}
use Rattle.rv_model.specs.declared.reactor.Reactor.{Reactor}
use Rattle.rv_model.specs.declared.record.Delivered.{Delivered}
use Rattle.rv_model.specs.declared.record.Delivered.TheVariants.{Done}
use Rattle.rv_model.specs.declared.record.Record.{Record}
use Rattle.rv_model.specs.declared.record.Task.{Task}
use Rattle.rv_model.specs.declared.work.Scope.{Scope}
use Rattle.rv_model.specs.declared.work.Scope.TheVariants as scope
use Rattle.rv_model.specs.Numbers.{list_of, has_bit}
use Rattle.rv_model.specs.Machine.{Machine}
use Rattle.rv_model.specs.Reactors.{reaction_front}
use Rattle.rv_model.specs.Records.{is_failure, is_stopped, is_ended}

-- what a report tells of a monitor besides its records
pub record Reported : Type 0 where
  pub display_name : List ℕ
  pub scope : Scope
  pub spec : Spec
  pub reactor : Reactor

-- the display name: a container's name stands before that of a monitor in it
abbrev pub display_name : List (List ℕ) → Option ℕ → List ℕ → List ℕ
display_name containers None name = name
display_name containers (Some container) name = slice_index_or containers container [] ++ codes ":" ++ name

-- every line ends so
abbrev pub line_end : List ℕ
line_end = 10 ∷ []

-- ---- instances

-- the task of this number
abbrev pub task_at : List Task → ℕ → Task
task_at tasks number = slice_index_or tasks number (record { pid = 0; cpu = 0 })

-- a task by its pid; the idle tasks, whose pid is 0, are told apart by their CPU
abbrev pub task_text : Task → List ℕ
task_text t = decimal t.pid ++ (if t.pid == 0 then codes " cpu " ++ decimal t.cpu else [])

-- which instance of its monitor it is
abbrev pub place_text : List Task → Scope → ℕ → List ℕ
place_text tasks scope.Global instance = []
place_text tasks scope.Cpu instance = codes "[cpu " ++ decimal instance ++ codes "]"
place_text tasks scope.Task instance = codes "[task " ++ task_text (task_at tasks instance) ++ codes "]"

-- an instance, by its monitor's display name
abbrev pub instance_text : List Task → Reported → ℕ → List ℕ
instance_text tasks m instance = m.display_name ++ place_text tasks m.scope instance

-- ---- reactions

-- the name of the event that a hit brings
abbrev pub event_text : List (List ℕ) → What → List ℕ
event_text events (Da event) = slice_index_or events event []
event_text events (Ltl _ _ _) = []
event_text events Nothing = []

-- the name of the state whose row is in the set, where the first of the states has this row
abbrev pub state_text : ℕ → List (List ℕ) → ℕ → List ℕ
state_text row [] set = []
state_text row (state ∷ states) set = if has_bit set row then state else state_text (row + 1) states set

-- what an automaton does not allow: state k has the row k + 1
abbrev pub denied_text : Machine → What → ℕ → List ℕ
denied_text a what set = codes " does not allow event " ++ event_text a.events what ++ codes " on state " ++ state_text 1 a.states set

-- what is wrong
abbrev pub fault_text : Spec → What → ℕ → List ℕ
fault_text (spec.Da a) what set = denied_text a what set
fault_text (spec.Ltl rule) what set = codes ": violation detected"

-- the same for each reactor that prints
abbrev pub said_text : List ℕ → List ℕ → ℕ → List ℕ
said_text instance fault line = codes "monitor " ++ instance ++ fault ++ codes " (line " ++ decimal line ++ codes ")" ++ line_end

-- what a reactor prints: nothing, or one line
abbrev pub reaction_text : Reactor → List ℕ → List ℕ → ℕ → List ℕ
reaction_text reactor instance fault line = option_map_or (λ front. front ++ said_text instance fault line) (reaction_front reactor) []

-- a delivery that failed, whose turn's look showed reacting on
abbrev pub failed_text : Reported → List Task → Record → Delivered → List ℕ
failed_text m tasks r (Done (Failed set)) = if r.reacting then reaction_text m.reactor (instance_text tasks m r.instance) (fault_text m.spec r.hit.what set) r.line else []
failed_text m tasks r _ = []

-- the reaction to a record, where there is one
abbrev pub record_text : Option Reported → List Task → Record → List ℕ
record_text None tasks r = []
record_text (Some m) tasks r = failed_text m tasks r r.outcome

-- ---- the summary

-- how many instances a monitor has
abbrev pub instances_in : List Task → Scope → ℕ
instances_in tasks scope.Global = 1
instances_in tasks scope.Cpu = 64
instances_in tasks scope.Task = length tasks

-- the record is of a delivery or a stop of the monitor
abbrev pub is_of_monitor : ℕ → Record → Bool
is_of_monitor monitor r = r.monitor == monitor && not (is_ended r)

-- the record is of this instance of the monitor
abbrev pub is_at : ℕ → ℕ → Record → Bool
is_at monitor instance r = is_of_monitor monitor r && r.instance == instance

-- how many of the first n instances of a monitor have a record
abbrev pub instance_count : ℕ → List Record → ℕ → ℕ
instance_count monitor records n = count_by (λ instance. list_any (is_at monitor instance) records) (list_of (λ instance. instance) n)

-- a monitor's line, by its display name and its counts
abbrev pub count_text : List ℕ → ℕ → ℕ → ℕ → ℕ → List ℕ
count_text shown instances deliveries failures stopped =
    shown ++ codes ": instances " ++ decimal instances ++ codes ", deliveries " ++ decimal deliveries ++ codes ", failures " ++ decimal failures
    ++ codes ", stopped " ++ decimal stopped ++ line_end

-- a monitor's line
abbrev pub summary_text : List Task → List Record → ℕ → Reported → List ℕ
summary_text tasks records monitor m =
    count_text m.display_name (instance_count monitor records (instances_in tasks m.scope)) (count_by (is_of_monitor monitor) records)
    (count_by (λ r. is_of_monitor monitor r && is_failure r) records) (count_by (λ r. is_of_monitor monitor r && is_stopped r) records)

-- a line for each monitor, the first of which has this number
abbrev pub summaries_text : List Task → List Record → ℕ → List Reported → List ℕ
summaries_text tasks records monitor [] = []
summaries_text tasks records monitor (m ∷ monitors) = summary_text tasks records monitor m ++ summaries_text tasks records (monitor + 1) monitors

-- the whole report of records in order
abbrev pub report_text : List Reported → List Task → List Record → List ℕ
report_text monitors tasks records = flat_map (λ r. record_text (slice_get monitors r.monitor) tasks r) records ++ summaries_text tasks records 0 monitors
