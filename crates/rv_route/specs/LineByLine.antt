-- The same line after line, as a router has it between two lines: tasks and each CPU's turns and deliveries grow.
use Rattle.std.specs.Prelude.{◌≡◌, ℕ, ◌+◌, not, ◌&&◌, ◌==◌, nat_lt, List, [], ◌∷◌, ◌++◌, length, Result, Ok, Err, replicate, slice_index_or, slice_set, if◌then◌else◌}
use Rattle.rv_text.specs.declared.refusals.Refusal.{Refusal}
use Rattle.rv_text.specs.declared.refusals.Refused.{Refused}
use Rattle.rv_text.specs.declared.numbers.TheConstants.{NO_PID, TOO_MANY_TASKS, TOO_MANY_DELIVERIES}
use Rattle.rv_text.specs.Readings.{Refuses, and_then, refused_at}
use Rattle.rv_trace.specs.declared.line.TraceLine.{TraceLine}
use Rattle.rv_model.specs.declared.record.Task.{Task}
use Rattle.rv_model.specs.Works.{Work}
use Rattle.rv_slots.specs.Tasks.{task_of, is_held, with_task, task_number}
use Rattle.rv_slots.specs.declared.tasks.TheConstants.{MAX_TASKS}
use Rattle.rv_bind.specs.declared.bindings.Monitor.{Monitor}
use Rattle.rv_bind.specs.RuleValues.{OnValue}
use Rattle.rv_route.specs.declared.deliveries.TheConstants.{MAX_DELIVERIES}
use Rattle.rv_route.specs.declared.asking.Ask.{Ask}
use Rattle.rv_route.specs.declared.asking.Ask.TheVariants as asks
use Rattle.rv_route.specs.Asking.{ask_of}
use Rattle.rv_route.specs.Routing.{RoutedValue}
use Rattle.rv_route.specs.Lanes.{LaneValue, with_delivery}

-- what has been routed: the tasks, each CPU's turns and deliveries, and how many deliveries there are
pub record Routes : Type 0 where
  pub tasks : List Task
  pub lanes : List LaneValue
  pub count : ℕ

-- no turn and no delivery
abbrev pub no_lane : LaneValue
no_lane = record { turns = []; deliveries = [] }

-- the delivery goes last on its CPU
abbrev pub delivered : Routes → TraceLine → OnValue → ℕ → Routes
delivered routes line rule instance = record {
  tasks = routes.tasks;
  lanes = slice_set routes.lanes line.cpu (with_delivery (slice_index_or routes.lanes line.cpu no_lane) line.number (record { order = routes.count; monitor = rule.monitor; instance = instance; hit = rule.hit }));
  count = routes.count + 1;
}

-- unless it is one too many
abbrev pub deliver : Routes → TraceLine → OnValue → ℕ → Result Routes Refusal
deliver routes line rule instance = if nat_lt routes.count MAX_DELIVERIES then Ok (delivered routes line rule instance) else refused_at TOO_MANY_DELIVERIES line.number

-- what a rule that asks so does
abbrev pub answer : Routes → TraceLine → OnValue → Ask → Result Routes Refusal
answer routes line rule asks.Quiet = Ok routes
answer routes line rule (asks.Instance instance) = deliver routes line rule instance
answer routes line rule asks.NoPid = refused_at NO_PID line.number
answer routes line rule (asks.Pid pid) =
    if not (is_held routes.tasks (task_of pid line.cpu)) && length routes.tasks == MAX_TASKS then refused_at TOO_MANY_TASKS line.number
    else deliver (record routes { tasks = with_task routes.tasks (task_of pid line.cpu) }) line rule (task_number routes.tasks (task_of pid line.cpu))

-- the rules in order on one line: the first refusal decides
unfoldable pub line_routes : List ℕ → TraceLine → List Monitor → List OnValue → Routes → Result Routes Refusal
line_routes text line monitors [] routes = Ok routes
line_routes text line monitors (rule ∷ rules) routes = and_then (answer routes line rule (ask_of text line monitors rule)) (line_routes text line monitors rules)

-- the lines in order
unfoldable pub routes_of : List ℕ → List Monitor → List OnValue → List TraceLine → Routes → Result Routes Refusal
routes_of text monitors rules [] routes = Ok routes
routes_of text monitors rules (line ∷ lines) routes = and_then (line_routes text line monitors rules routes) (routes_of text monitors rules lines)

-- a call reached what the definition says, or has its refusal, unless memory ran out
abbrev pub GivesRoutes : {X : Type 0} → Result X Refused → Routes → Result Routes Refusal → Type 0
GivesRoutes (Ok x) routes read = read ≡ Ok routes
GivesRoutes (Err refused) routes read = Refuses refused read

-- nothing is routed yet, on 64 CPUs
unfoldable pub no_routes : Routes
no_routes = record { tasks = []; lanes = replicate 64 no_lane; count = 0 }

-- the work of a CPU that has a delivery
abbrev pub work_in : ℕ → LaneValue → List Work
work_in cpu lane = if length lane.deliveries == 0 then [] else record { cpu = cpu; turns = lane.turns; deliveries = lane.deliveries } ∷ []

-- the works of CPUs from `cpu` on
abbrev pub works_from : ℕ → List LaneValue → List Work
works_from cpu [] = []
works_from cpu (lane ∷ lanes) = work_in cpu lane ++ works_from (cpu + 1) lanes

-- the works of all CPUs that have a delivery, ascending by CPU
abbrev pub works_of : List LaneValue → List Work
works_of lanes = works_from 0 lanes

-- the tasks and the works
abbrev pub routed_of : Result Routes Refusal → Result RoutedValue Refusal
routed_of (Err refusal) = Err refusal
routed_of (Ok routes) = Ok (record { tasks = routes.tasks; works = works_of routes.lanes })
