-- What routed works keep: they ascend by CPU, the lines of each ascend, no line makes turns of two CPUs, each delivery is one of a rule and fits its monitor and its CPU, and none has more deliveries than a trace may have.
use Rattle.std.specs.Prelude.{◌≡◌, ◌<◌, ◌≤◌, ℕ, List, [], ◌∷◌, length, All, AllPairs, Any, Contains, Some, slice_get, slice_index_or}
use Rattle.rv_model.specs.declared.work.Delivery.{Delivery}
use Rattle.rv_model.specs.declared.work.Scope.TheVariants.{Cpu}
use Rattle.rv_model.specs.declared.work.Turn.{Turn}
use Rattle.rv_model.specs.Works.{Work}
use Rattle.rv_model.specs.Histories.{LinesApart}
use Rattle.rv_slots.specs.Shapes.{count_of}
use Rattle.rv_trace.specs.declared.line.TraceLine.{TraceLine}
use Rattle.rv_bind.specs.RuleValues.{OnValue}
use Rattle.rv_bind.specs.WellFormed.{MonitorKind, FitsRule}
use Rattle.rv_route.specs.declared.deliveries.TheConstants.{MAX_DELIVERIES}
use Rattle.rv_route.specs.Lanes.{LaneValue}
use Rattle.rv_route.specs.LineByLine.{Routes, no_lane}

-- the turn is of a line of this CPU
pub record IsOf (lines : List TraceLine) (cpu : ℕ) (turn : Turn) : Type 0 where
  pub line : TraceLine
  pub there : Contains lines line
  pub number : line.number ≡ turn.line
  pub cpu_is : line.cpu ≡ cpu

-- the delivery is to an instance of a monitor whose specification the hit fits, and to the CPU's own instance where these are the CPUs
pub record FitsKindOf (kinds : List MonitorKind) (tasks cpu : ℕ) (d : Delivery) : Type 0 where
  pub kind : MonitorKind
  pub there : slice_get kinds d.monitor ≡ Some kind
  pub hit : FitsRule kind.spec d.hit
  pub instance_fits : d.instance < count_of tasks kind.scope
  pub by_cpu : kind.scope ≡ Cpu → d.instance ≡ cpu

-- the lines are numbered upwards
abbrev pub NumbersAscend : List TraceLine → Type 0
NumbersAscend lines = AllPairs (λ l m. l.number < m.number) lines

-- the works ascend by CPU, the lines of each ascend, no line is in two, and few enough deliveries fit
pub record WorksFit (kinds : List MonitorKind) (tasks : ℕ) (works : List Work) : Type 0 where
  pub cpus_below : All (λ w. w.cpu < 64) works
  pub cpus : AllPairs (λ w v. w.cpu < v.cpu) works
  pub lines : All (λ w. AllPairs (λ t u. t.line < u.line) w.turns) works
  pub apart : LinesApart works
  pub deliveries : All (λ w. All (FitsKindOf kinds tasks w.cpu) w.deliveries) works
  pub few : All (λ w. length w.deliveries ≤ MAX_DELIVERIES) works

-- the delivery is one of the rule: to its monitor, with its hit
abbrev pub IsDeliveryOf : Delivery → OnValue → Type 0
IsDeliveryOf d rule = (d.monitor ≡ rule.monitor) × (d.hit ≡ rule.hit)

-- each delivery is one of some rule
abbrev pub FromRules : List OnValue → List Work → Type 0
FromRules rules works = All (λ w. All (λ d. Any (IsDeliveryOf d) rules) w.deliveries) works

-- each line is below the next one, and the last is at most this one
abbrev pub AscendsTo : ℕ → List Turn → Type 0
AscendsTo n [] = Unit {0}
AscendsTo n (turn ∷ []) = turn.line ≤ n
AscendsTo n (turn ∷ next ∷ turns) = (turn.line < next.line) × AscendsTo n (next ∷ turns)

-- the lane has turns of these lines up to a number, on its CPU, and its deliveries fit
pub record LaneFits (lines : List TraceLine) (kinds : List MonitorKind) (tasks n cpu : ℕ) (lane : LaneValue) : Type 0 where
  pub ascends : AscendsTo n lane.turns
  pub of : All (IsOf lines cpu) lane.turns
  pub fit : All (FitsKindOf kinds tasks cpu) lane.deliveries

-- all lanes fit lines up to this number
pub record RoutesFit (lines : List TraceLine) (kinds : List MonitorKind) (n : ℕ) (routes : Routes) : Type 0 where
  pub many : length routes.lanes ≡ 64
  pub lanes : (cpu : ℕ) → LaneFits lines kinds (length routes.tasks) n cpu (slice_index_or routes.lanes cpu no_lane)

-- what has been routed fits lines that are numbered upwards, below this number
pub record FitsLines (kinds : List MonitorKind) (next : ℕ) (routes : Routes) : Type 0 where
  pub lines : List TraceLine
  pub ascend : NumbersAscend lines
  pub below : All (λ l. l.number < next) lines
  pub fit : RoutesFit lines kinds next routes
