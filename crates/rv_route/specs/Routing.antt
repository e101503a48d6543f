-- What a trace is routed to: the rules that fire on its lines, the deliveries that they make, and what each CPU has of these.
use Rattle.std.specs.Prelude.{ℕ, ◌+◌, Bool, true, false, not, ◌==◌, nat_lt, nat_le, List, [], ◌∷◌, ◌++◌, length, map, filter, filter_map, flat_map, fold, count_by, Option, Some, None, option_map, Result, Ok, Err, if◌then◌else◌}
use Rattle.std.specs.Option.{option_or}
use Rattle.std.specs.List.{list_any, range_with_len}
use Rattle.rv_text.specs.declared.refusals.Refusal.{Refusal}
use Rattle.rv_text.specs.declared.numbers.TheConstants.{NO_PID, TOO_MANY_TASKS, TOO_MANY_DELIVERIES}
use Rattle.rv_trace.specs.declared.line.TraceLine.{TraceLine}
use Rattle.rv_model.specs.declared.record.Task.{Task}
use Rattle.rv_model.specs.declared.work.Delivery.{Delivery}
use Rattle.rv_model.specs.declared.work.Turn.{Turn}
use Rattle.rv_model.specs.Works.{Work}
use Rattle.rv_slots.specs.Tasks.{task_of, with_task, task_number}
use Rattle.rv_slots.specs.declared.tasks.TheConstants.{MAX_TASKS}
use Rattle.rv_bind.specs.declared.bindings.Monitor.{Monitor}
use Rattle.rv_bind.specs.RuleValues.{OnValue}
use Rattle.rv_route.specs.declared.deliveries.TheConstants.{MAX_DELIVERIES}
use Rattle.rv_route.specs.declared.asking.Ask.{Ask}
use Rattle.rv_route.specs.declared.asking.Ask.TheVariants as asks
use Rattle.rv_route.specs.Asking.{ask_of}

-- ---- the rules that fire

-- a rule that fires on a line, and what it asks for
pub record Firing : Type 0 where
  pub line : TraceLine
  pub rule : OnValue
  pub ask : Ask

-- whether the rule fires
abbrev pub is_asked : Ask → Bool
is_asked asks.Quiet = false
is_asked (asks.Instance instance) = true
is_asked asks.NoPid = true
is_asked (asks.Pid pid) = true

-- the rules that fire on one line, in their order
abbrev pub firings_on : List Monitor → List OnValue → List ℕ → TraceLine → List Firing
firings_on monitors rules text line = filter (λ firing. is_asked firing.ask) (map (λ rule. record { line = line; rule = rule; ask = ask_of text line monitors rule }) rules)

-- the rules that fire on the lines, line after line
abbrev pub firings_of : List Monitor → List OnValue → List ℕ → List TraceLine → List Firing
firings_of monitors rules text lines = flat_map (firings_on monitors rules text) lines

-- ---- the tasks

-- the task of the pid that is asked for on a CPU
abbrev pub asked_task : ℕ → Ask → Option Task
asked_task cpu asks.Quiet = None
asked_task cpu (asks.Instance instance) = None
asked_task cpu asks.NoPid = None
asked_task cpu (asks.Pid pid) = Some (task_of pid cpu)

-- the tasks that firings ask for, each once, by first use
abbrev pub tasks_of : List Firing → List Task
tasks_of firings = fold with_task [] (filter_map (λ firing. asked_task firing.line.cpu firing.ask) firings)

-- ---- the deliveries

-- a delivery, and the line that it is of
pub record LineDelivery : Type 0 where
  pub line : TraceLine
  pub delivery : Delivery

-- the instance that is asked for: of a pid it is the place of its task among the tasks
abbrev pub asked_instance : List Task → ℕ → Ask → ℕ
asked_instance tasks cpu asks.Quiet = 0
asked_instance tasks cpu (asks.Instance instance) = instance
asked_instance tasks cpu asks.NoPid = 0
asked_instance tasks cpu (asks.Pid pid) = task_number tasks (task_of pid cpu)

-- the delivery that a firing makes, with this number
abbrev pub delivery_by : List Task → ℕ → Firing → LineDelivery
delivery_by tasks order firing = record {
  line = firing.line;
  delivery = record { order = order; monitor = firing.rule.monitor; instance = asked_instance tasks firing.line.cpu firing.ask; hit = firing.rule.hit };
}

-- a delivery for each firing, numbered from this number on
abbrev pub deliveries_by : List Task → ℕ → List Firing → List LineDelivery
deliveries_by tasks order [] = []
deliveries_by tasks order (firing ∷ firings) = delivery_by tasks order firing ∷ deliveries_by tasks (order + 1) firings

-- ---- what each CPU has of them

-- the deliveries of a CPU's lines, in their order
abbrev pub deliveries_on : ℕ → List LineDelivery → List LineDelivery
deliveries_on cpu all = filter (λ d. d.line.cpu == cpu) all

-- a delivery is of this line
abbrev pub has_delivery : List LineDelivery → TraceLine → Bool
has_delivery own line = list_any (λ d. d.line.number == line.number) own

-- the turn of a line names its deliveries: those of the lines up to it, but for those of the lines before it
abbrev pub line_turn : List LineDelivery → TraceLine → Turn
line_turn own line = record { line = line.number; from = count_by (λ d. nat_lt d.line.number line.number) own; to = count_by (λ d. nat_le d.line.number line.number) own }

-- a turn for each line that has a delivery
abbrev pub line_turns : List TraceLine → List LineDelivery → List Turn
line_turns lines own = map (line_turn own) (filter (has_delivery own) lines)

-- the work of a CPU: the deliveries of its lines, and their turns
abbrev pub cpu_work : List TraceLine → List LineDelivery → ℕ → Work
cpu_work lines all cpu = record { cpu = cpu; turns = line_turns lines (deliveries_on cpu all); deliveries = map (λ d. d.delivery) (deliveries_on cpu all) }

-- the works of the 64 CPUs, but for those that have no delivery
abbrev pub cpu_works : List TraceLine → List LineDelivery → List Work
cpu_works lines all = filter (λ w. not (length w.deliveries == 0)) (map (cpu_work lines all) (range_with_len 0 64))

-- ---- refusals

-- there is no pid to ask for
abbrev pub is_no_pid : Ask → Bool
is_no_pid asks.Quiet = false
is_no_pid (asks.Instance instance) = false
is_no_pid asks.NoPid = true
is_no_pid (asks.Pid pid) = false

-- why a firing behind these is refused, if it is: it has no pid, or with it there are too many tasks, or too many deliveries
abbrev pub fault_number : List Firing → Firing → Option ℕ
fault_number before firing =
    if is_no_pid firing.ask then Some NO_PID
    else if nat_lt MAX_TASKS (length (tasks_of (before ++ firing ∷ []))) then Some TOO_MANY_TASKS
    else if nat_lt MAX_DELIVERIES (length (before ++ firing ∷ [])) then Some TOO_MANY_DELIVERIES
    else None

-- its refusal, with its line
abbrev pub fault_of : List Firing → Firing → Option Refusal
fault_of before firing = option_map (λ number. record { number = number; line = firing.line.number }) (fault_number before firing)

-- the refusal of the first one that is refused, of firings behind these
abbrev pub first_fault : List Firing → List Firing → Option Refusal
first_fault before [] = None
first_fault before (firing ∷ firings) = option_or (fault_of before firing) (first_fault (before ++ firing ∷ []) firings)

-- ---- the whole

-- the tasks by first use, and the works by CPU
pub record RoutedValue : Type 0 where
  pub tasks : List Task
  pub works : List Work

-- the tasks and the works of the firings on these lines
abbrev pub routed_by : List TraceLine → List Firing → RoutedValue
routed_by lines firings = record { tasks = tasks_of firings; works = cpu_works lines (deliveries_by (tasks_of firings) 0 firings) }

-- the value, unless there is a refusal
abbrev pub unless_refused : {X : Type 0} → Option Refusal → X → Result X Refusal
unless_refused None value = Ok value
unless_refused (Some refusal) value = Err refusal

-- the tasks and the works of the rules that fire on the lines, or the first refusal
unfoldable pub route_of : List Monitor → List OnValue → List ℕ → List TraceLine → Result RoutedValue Refusal
route_of monitors rules text lines = unless_refused (first_fault [] (firings_of monitors rules text lines)) (routed_by lines (firings_of monitors rules text lines))
