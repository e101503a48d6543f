-- No finding means that all is watched: every number that a finding is about is above zero (docs/COVERAGE.md, "Findings").
use Rattle.std.specs.Prelude.{◌≡◌, ◌↔◌, ℕ, ◌<◌, Bool, true, List, [], ◌++◌, length, slice_index, slice_index_or, Some, None}
use Rattle.rv_model.specs.declared.formula.Spec.{Spec}
use Rattle.rv_model.specs.declared.formula.Spec.TheVariants as spec
use Rattle.rv_bind.specs.declared.bindings.Monitor.{Monitor}
use Rattle.rv_bind.specs.BoundViews.{bound_value}
use Rattle.rv_bind.specs.Values.{BoundValue}
use Rattle.rv_facts.specs.declared.lines.BindingLines.{BindingLines}
use Rattle.rv_facts.specs.declared.counts.Counts.{Counts}
use Rattle.rv_facts.specs.declared.counts.Halt.{Halt}
use Rattle.rv_facts.specs.declared.counts.MonitorCounts.{MonitorCounts}
use Rattle.rv_findings.specs.declared.coverage.Told.{Told}
use Rattle.rv_findings.specs.declared.finding.Asked.TheVariants.{Starts, Brings}
use Rattle.rv_findings.specs.declared.finding.OwnRule.{OwnRule}
use Rattle.rv_findings.specs.declared.spec_findings.SpecPart.TheVariants.{Events, Edges, Atoms}
use Rattle.rv_facts.specs.BindingLines.{lines_named}
use Rattle.rv_findings.specs.Findings.{bindings_findings, trace_findings}
use Rattle.rv_findings.specs.MonitorFindings.{part_size, setting_lines}
use Rattle.rv_findings.specs.OwnRules.{lines_where, own_rules}
use Rattle.rv_findings.specs.Whole.{coverage_status}

-- ---- lines about a monitor

-- the rules of the monitor at a place, each with its line
abbrev pub rules_at : BoundValue → BindingLines → ℕ → List OwnRule
rules_at b lines place = own_rules place b.rules lines.rules.items

-- the lines that set the atom, or begin with it on, of a rule
abbrev pub atom_lines : List ℕ → List OwnRule → BindingLines → Spec → ℕ → List ℕ
atom_lines name own lines (spec.Da a) atom = []
atom_lines name own lines (spec.Ltl rule) atom = setting_lines name own lines (slice_index_or rule.atoms atom []) atom

-- ---- what is watched

-- it is so of the items at each place of two lists
abbrev pub EachPair : {X Y : Type 0} → (ℕ → X → Y → Type 0) → List X → List Y → Type 0
EachPair {X} {Y} P xs ys = (k : ℕ) (x : X) (y : Y) → k < length xs → k < length ys → P k (slice_index_or xs k x) (slice_index_or ys k y)

-- the monitor at a place is on, some line may start an instance, and one is started; a failure is told; each of its events and atoms has a line, and each atom is true in some letter; where edges are asked for, each is taken; and it halts no run that has more to deliver
pub record IsWatched (edges : Bool) (b : BoundValue) (lines : BindingLines) (counts : Counts) (place : ℕ) (m : Monitor) (c : MonitorCounts) : Type 0 where
  pub on : m.enabled ≡ true
  pub starts : 0 < length (lines_where Starts (rules_at b lines place))
  pub started : 0 < c.instances_started
  pub reacts : 0 < length (lines_named m.name lines.reacts.items)
  pub bound : (event : ℕ) → event < part_size Events m.spec → 0 < length (lines_where (Brings event) (rules_at b lines place))
  pub set : (atom : ℕ) → atom < part_size Atoms m.spec → 0 < length (atom_lines m.name (rules_at b lines place) lines m.spec atom)
  pub trues : (atom : ℕ) → atom < part_size Atoms m.spec → 0 < c.letters → 0 < slice_index c.atoms.items atom
  pub taken : edges ≡ true → (edge : ℕ) → edge < part_size Edges m.spec → 0 < slice_index c.edges.items edge
  pub delivered : (halt : Halt) → counts.halt ≡ Some halt → halt.monitor ≡ place → counts.undelivered ≡ 0

-- there are monitors, and each is watched; each rule fires; the trace has events, its front, plain line ends, and its times in order
pub record IsAllWatched (edges : Bool) (b : BoundValue) (lines : BindingLines) (counts : Counts) : Type 0 where
  pub some : 0 < length b.monitors
  pub monitors : EachPair (IsWatched edges b lines counts) b.monitors counts.monitors.items
  pub rules : EachPair (λ place rule c. 0 < c.fires) b.rules counts.rules.items
  pub events : 0 < counts.trace.events
  pub front : counts.trace.overwritten ≡ None
  pub line_ends : counts.trace.returns ≡ None
  pub in_order : counts.trace.late ≡ None

-- ---- laws

-- there is no finding exactly where all is watched
abbrev pub NoFindingIsAllWatched : Type 0
NoFindingIsAllWatched =
    (edges : Bool) (b : BoundValue) (lines : BindingLines) (counts : Counts) → (bindings_findings edges b lines counts ++ trace_findings counts.trace ≡ []) ↔ IsAllWatched edges b lines counts

-- so the status is 0 there alone
abbrev pub CleanIsAllWatched : Type 0
CleanIsAllWatched = (edges : Bool) (t : Told) → (coverage_status edges t ≡ 0) ↔ IsAllWatched edges (bound_value t.bound.now) t.lines.now t.counts.now
