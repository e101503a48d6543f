-- The findings are exactly the zeros: one of each kind stands on a line just where its number is zero (docs/COVERAGE.md, "Findings").
use Rattle.std.specs.Prelude.{◌≡◌, ◌↔◌, ℕ, ◌<◌, Bool, true, false, ◌&&◌, ◌==◌, List, [], ◌∷◌, ◌++◌, length, codes, slice_index, slice_index_or, Any, IsTrue, Some}
use Rattle.rv_model.specs.declared.formula.Spec.{Spec}
use Rattle.rv_model.specs.declared.formula.Spec.TheVariants as spec
use Rattle.rv_bind.specs.declared.bindings.Monitor.{Monitor}
use Rattle.rv_bind.specs.RuleValues.{OnValue}
use Rattle.rv_bind.specs.Values.{BoundValue}
use Rattle.rv_facts.specs.declared.lines.BindingLines.{BindingLines}
use Rattle.rv_facts.specs.declared.counts.Counts.{Counts}
use Rattle.rv_facts.specs.declared.counts.Entries.{Entries}
use Rattle.rv_facts.specs.declared.counts.Halt.{Halt}
use Rattle.rv_facts.specs.declared.counts.Late.{Late}
use Rattle.rv_facts.specs.declared.counts.MonitorCounts.{MonitorCounts}
use Rattle.rv_facts.specs.declared.counts.Returns.{Returns}
use Rattle.rv_facts.specs.declared.counts.RuleCounts.{RuleCounts}
use Rattle.rv_facts.specs.declared.counts.TraceCounts.{TraceCounts}
use Rattle.rv_findings.specs.declared.finding.Asked.TheVariants.{Starts, Brings}
use Rattle.rv_findings.specs.declared.finding.Finding.{Finding}
use Rattle.rv_findings.specs.declared.finding.OwnRule.{OwnRule}
use Rattle.rv_findings.specs.declared.spec_findings.SpecPart.TheVariants.{Events, Edges, Atoms}
use Rattle.rv_facts.specs.BindingLines.{lines_named}
use Rattle.rv_facts.specs.MonitorFacts.{place_edge}
use Rattle.rv_findings.specs.Findings.{bindings_findings, trace_findings}
use Rattle.rv_findings.specs.MonitorFindings.{part_size}
use Rattle.rv_findings.specs.OwnRules.{final_line, first_of, first_or, least_of, lines_where}
use Rattle.rv_findings.specs.Watched.{atom_lines, rules_at}

-- ---- findings of a kind

-- the second text begins with the first
abbrev pub has_prefix : List ℕ → List ℕ → Bool
has_prefix [] text = true
has_prefix (c ∷ front) [] = false
has_prefix (c ∷ front) (d ∷ text) = c == d && has_prefix front text

-- it is of the kind with this name, and on this line
abbrev pub IsOn : List ℕ → ℕ → Finding → Type 0
IsOn kind line f = IsTrue (has_prefix (kind ++ codes ": ") f.text) × (f.line ≡ line)

-- among the findings is one of the kind, on this line
abbrev pub Finds : List ℕ → ℕ → List Finding → Type 0
Finds kind line findings = Any (IsOn kind line) findings

-- ---- what is zero

-- it is so of the items at some place of two lists
abbrev pub SomePair : {X Y : Type 0} → (ℕ → X → Y → Type 0) → List X → List Y → Type 0
SomePair {X} {Y} P xs ys = (k : ℕ) × (k < length xs) × (k < length ys) × ((x : X) (y : Y) → P k (slice_index_or xs k x) (slice_index_or ys k y))

-- of some monitor, by its place and its counts
abbrev pub SomeMonitor : BoundValue → Counts → (ℕ → Monitor → MonitorCounts → Type 0) → Type 0
SomeMonitor b counts P = SomePair P b.monitors counts.monitors.items

-- the monitor is off, and this is its first `off` line
abbrev pub IsOff : BindingLines → ℕ → ℕ → Monitor → MonitorCounts → Type 0
IsOff lines line place m c = (m.enabled ≡ false) × (first_or 0 (lines_named m.name lines.offs.items) ≡ line)

-- no line of it may start an instance, and this is its `monitor` line
abbrev pub CannotStart : BoundValue → BindingLines → ℕ → ℕ → Monitor → MonitorCounts → Type 0
CannotStart b lines line place m c = (lines_where Starts (rules_at b lines place) ≡ []) × (slice_index lines.monitors.items place ≡ line)

-- this is its first line that may, it is on, the trace has an event, and none is started
abbrev pub NeverStarts : BoundValue → BindingLines → Counts → ℕ → ℕ → Monitor → MonitorCounts → Type 0
NeverStarts b lines counts line place m c = (first_of (lines_where Starts (rules_at b lines place)) ≡ Some line) × (m.enabled ≡ true) × (0 < counts.trace.events) × (c.instances_started ≡ 0)

-- no `react` line names it, and this is its `monitor` line
abbrev pub HasNoReact : BindingLines → ℕ → ℕ → Monitor → MonitorCounts → Type 0
HasNoReact lines line place m c = (lines_named m.name lines.reacts.items ≡ []) × (slice_index lines.monitors.items place ≡ line)

-- no line of it brings some event of its automaton, and this is its `monitor` line
abbrev pub HasUnbound : BoundValue → BindingLines → ℕ → ℕ → Monitor → MonitorCounts → Type 0
HasUnbound b lines line place m c = (event : ℕ) × (event < part_size Events m.spec) × (lines_where (Brings event) (rules_at b lines place) ≡ []) × (slice_index lines.monitors.items place ≡ line)

-- no line of it sets some atom of its rule, and this is its `monitor` line
abbrev pub HasUnset : BoundValue → BindingLines → ℕ → ℕ → Monitor → MonitorCounts → Type 0
HasUnset b lines line place m c = (atom : ℕ) × (atom < part_size Atoms m.spec) × (atom_lines m.name (rules_at b lines place) lines m.spec atom ≡ []) × (slice_index lines.monitors.items place ≡ line)

-- this is the first line that sets some atom of its rule, it has letters, and the atom is true in none
abbrev pub HasUntrue : BoundValue → BindingLines → ℕ → ℕ → Monitor → MonitorCounts → Type 0
HasUntrue b lines line place m c =
    (atom : ℕ) × (atom < part_size Atoms m.spec) × (least_of (atom_lines m.name (rules_at b lines place) lines m.spec atom) ≡ Some line) × (0 < c.letters) × (slice_index c.atoms.items atom ≡ 0)

-- the lines that bring the event of an edge
abbrev pub edge_lines : List OwnRule → Spec → ℕ → List ℕ
edge_lines own (spec.Da a) edge = lines_where (Brings (place_edge a edge).event) own
edge_lines own (spec.Ltl rule) edge = []

-- edges are asked for, an instance is started, some edge of its automaton is not taken, and this is the first line with the edge's event, or else its `monitor` line
abbrev pub HasUntaken : Bool → BoundValue → BindingLines → ℕ → ℕ → Monitor → MonitorCounts → Type 0
HasUntaken edges b lines line place m c =
    (edge : ℕ) × (edge < part_size Edges m.spec) × (edges ≡ true) × (0 < c.instances_started) × (slice_index c.edges.items edge ≡ 0) × (first_or (slice_index lines.monitors.items place) (edge_lines (rules_at b lines place) m.spec edge) ≡ line)

-- it halts the run, some firing is not delivered, and this is its last `react` line
abbrev pub HaltsAll : BindingLines → Counts → ℕ → ℕ → Monitor → MonitorCounts → Type 0
HaltsAll lines counts line place m c =
    (halt : Halt) × (counts.halt ≡ Some halt) × (halt.monitor ≡ place) × (0 < counts.undelivered) × (final_line (lines_named m.name lines.reacts.items) ≡ line)

-- the rule is on this line, the trace has an event, and it fires on none
abbrev pub NeverFires : BindingLines → Counts → ℕ → ℕ → OnValue → RuleCounts → Type 0
NeverFires lines counts line place rule c = (slice_index lines.rules.items place ≡ line) × (0 < counts.trace.events) × (c.fires ≡ 0)

-- ---- laws

-- which findings of the bindings stand on a line, by their kinds
pub record FindsInBindings (edges : Bool) (b : BoundValue) (lines : BindingLines) (counts : Counts) (line : ℕ) : Type 0 where
  pub no_monitors : Finds (codes "no-monitors") line (bindings_findings edges b lines counts) ↔ ((b.monitors ≡ []) × (1 ≡ line))
  pub off : Finds (codes "monitor-off") line (bindings_findings edges b lines counts) ↔ SomeMonitor b counts (IsOff lines line)
  pub cannot_start : Finds (codes "monitor-cannot-start") line (bindings_findings edges b lines counts) ↔ SomeMonitor b counts (CannotStart b lines line)
  pub never_starts : Finds (codes "monitor-never-starts") line (bindings_findings edges b lines counts) ↔ SomeMonitor b counts (NeverStarts b lines counts line)
  pub no_react : Finds (codes "no-react") line (bindings_findings edges b lines counts) ↔ SomeMonitor b counts (HasNoReact lines line)
  pub not_bound : Finds (codes "event-not-bound") line (bindings_findings edges b lines counts) ↔ SomeMonitor b counts (HasUnbound b lines line)
  pub not_set : Finds (codes "atom-not-bound") line (bindings_findings edges b lines counts) ↔ SomeMonitor b counts (HasUnset b lines line)
  pub never_true : Finds (codes "atom-never-true") line (bindings_findings edges b lines counts) ↔ SomeMonitor b counts (HasUntrue b lines line)
  pub never_taken : Finds (codes "edge-never-taken") line (bindings_findings edges b lines counts) ↔ SomeMonitor b counts (HasUntaken edges b lines line)
  pub halted : Finds (codes "run-halted") line (bindings_findings edges b lines counts) ↔ SomeMonitor b counts (HaltsAll lines counts line)
  pub never_fires : Finds (codes "rule-never-fires") line (bindings_findings edges b lines counts) ↔ SomePair (NeverFires lines counts line) b.rules counts.rules.items

-- which findings of the trace do
pub record FindsInTrace (c : TraceCounts) (line : ℕ) : Type 0 where
  pub no_events : Finds (codes "no-events") line (trace_findings c) ↔ ((c.events ≡ 0) × (1 ≡ line))
  pub overwritten : Finds (codes "front-overwritten") line (trace_findings c) ↔ ((e : Entries) × (c.overwritten ≡ Some e) × (e.line ≡ line))
  pub returns : Finds (codes "carriage-returns") line (trace_findings c) ↔ ((r : Returns) × (c.returns ≡ Some r) × (r.line ≡ line))
  pub goes_back : Finds (codes "time-goes-back") line (trace_findings c) ↔ ((l : Late) × (c.late ≡ Some l) × (l.late.line ≡ line))

-- so it is on each line, of all bindings and counts
abbrev pub BindingsFindingsAreZeros : Type 0
BindingsFindingsAreZeros = (edges : Bool) (b : BoundValue) (lines : BindingLines) (counts : Counts) (line : ℕ) → FindsInBindings edges b lines counts line

-- and of all traces
abbrev pub TraceFindingsAreZeros : Type 0
TraceFindingsAreZeros = (c : TraceCounts) (line : ℕ) → FindsInTrace c line
