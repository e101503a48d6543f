-- All facts: those of each monitor, of the trace, and of a halt.
use Rattle.std.specs.Prelude.{ℕ, ◌-◌, not, Bool, List, [], ◌++◌, map, filter, flat_map, take, sum, codes, bytes_eq, Option, Some, None}
use Rattle.std.specs.List.{list_any}
use Rattle.rv_bind.specs.declared.bindings.Monitor.{Monitor}
use Rattle.rv_bind.specs.RuleValues.{OnValue}
use Rattle.rv_bind.specs.Values.{BoundValue}
use Rattle.rv_model.specs.Reports.{line_end}
use Rattle.rv_report.specs.Reported.{shown_by}
use Rattle.rv_facts.specs.declared.counts.Counted.{Counted}
use Rattle.rv_facts.specs.declared.counts.Counts.{Counts}
use Rattle.rv_facts.specs.declared.counts.Halt.{Halt}
use Rattle.rv_facts.specs.declared.counts.MonitorCounts.{MonitorCounts}
use Rattle.rv_facts.specs.declared.counts.RuleCounts.{RuleCounts}
use Rattle.rv_facts.specs.declared.counts.TraceCounts.{TraceCounts}
use Rattle.rv_facts.specs.MonitorFacts.{answers_fact, instances_fact, reached_facts, summary_fact, table_at}
use Rattle.rv_facts.specs.Orders.{most_first}
use Rattle.rv_facts.specs.Pairs.{of_pairs}
use Rattle.rv_facts.specs.RuleFacts.{other_fact, own_rule_facts}
use Rattle.rv_facts.specs.Shown.{counted_fact, numbered}

-- ---- a monitor

-- its facts by its display name; the lines are those of the rules in the bindings
unfoldable pub facts_of : List ℕ → BoundValue → List ℕ → List RuleCounts → ℕ → Monitor → MonitorCounts → List ℕ
facts_of name b lines rules place m c =
    summary_fact name c ++ instances_fact name c ++ answers_fact name c ++ of_pairs (own_rule_facts name lines place) b.rules rules
    ++ reached_facts name c (table_at b.tables place) m.spec

-- all of the monitor at an index
unfoldable pub monitor_facts : BoundValue → List ℕ → List RuleCounts → ℕ → Monitor → MonitorCounts → List ℕ
monitor_facts b lines rules place m c = facts_of (shown_by b.containers m.container m.name) b lines rules place m c

-- ---- the trace

-- the most events that no rule names that are told
abbrev pub most_unnamed : ℕ
most_unnamed = 16

-- the event is that of the rule
abbrev pub is_event_of : Counted → OnValue → Bool
is_event_of name rule = bytes_eq name.word rule.event

-- the event is that of some rule
abbrev pub is_named : List OnValue → Counted → Bool
is_named rules name = list_any (is_event_of name) rules

-- the event is that of no rule
abbrev pub is_unnamed : List OnValue → Counted → Bool
is_unnamed rules name = not (is_named rules name)

-- the events that no rule names that are told, the most frequent first
abbrev pub unnamed : List OnValue → TraceCounts → List Counted
unnamed rules c = take most_unnamed (most_first (filter (is_unnamed rules) c.names.items))

-- the lines of all other events that no rule names
abbrev pub other_lines : List Counted → TraceCounts → ℕ
other_lines told c = c.events - c.named - sum (map (λ name. name.lines) told)

-- its lines, its events, and how many of them a rule names and a rule fires on
unfoldable pub counts_fact : TraceCounts → List ℕ
counts_fact c = numbered (codes "the trace: lines") c.lines ++ numbered (codes ", events") c.events ++ numbered (codes ", named") c.named ++ numbered (codes ", fired") c.fired ++ line_end

-- the events that no rule names, by these that are told
unfoldable pub unnamed_facts : List Counted → TraceCounts → List ℕ
unnamed_facts told c = flat_map (counted_fact (codes "the trace: no rule names ")) told ++ other_fact (codes "the trace: no rule names other events") (other_lines told c)

-- all of the trace
unfoldable pub trace_facts : List OnValue → TraceCounts → List ℕ
trace_facts rules c = counts_fact c ++ unnamed_facts (unnamed rules c) c

-- ---- all

-- where a run was halted
abbrev pub halted_fact : ℕ → ℕ → List ℕ
halted_fact line undelivered = numbered (codes "the run: halted on line") line ++ numbered (codes ", not delivered") undelivered ++ line_end

-- the halt of a run
unfoldable pub halt_fact : Option Halt → ℕ → List ℕ
halt_fact None undelivered = []
halt_fact (Some halt) undelivered = halted_fact halt.line undelivered

-- all facts
unfoldable pub facts_text : BoundValue → List ℕ → Counts → List ℕ
facts_text b lines counts =
    of_pairs (monitor_facts b lines counts.rules.items) b.monitors counts.monitors.items ++ trace_facts b.rules counts.trace ++ halt_fact counts.halt counts.undelivered
