-- The parts of all findings: those about a monitor by what they are about, those of the bindings, and those of the trace.
use Rattle.std.proofs.Common.{◌≡◌, ℕ, Bool, List, ◌++◌, ◌∙◌, append_assoc}
use Rattle.std.specs.Prelude.{codes, not, ◌&&◌, ◌==◌, slice_index}
use Rattle.rv_bind.specs.declared.bindings.Monitor.{Monitor}
use Rattle.rv_bind.specs.Values.{BoundValue}
use Rattle.rv_report.specs.Reported.{shown_by}
use Rattle.rv_facts.specs.declared.lines.BindingLines.{BindingLines}
use Rattle.rv_facts.specs.declared.counts.Counts.{Counts}
use Rattle.rv_facts.specs.declared.counts.MonitorCounts.{MonitorCounts}
use Rattle.rv_facts.specs.declared.counts.TraceCounts.{TraceCounts}
use Rattle.rv_findings.specs.declared.finding.Asked.TheVariants.{Starts}
use Rattle.rv_findings.specs.declared.finding.Finding.{Finding}
use Rattle.rv_facts.specs.BindingLines.{lines_named}
use Rattle.rv_facts.specs.Pairs.{of_pairs}
use Rattle.rv_findings.specs.Findings.{bindings_findings, empty_finding, late_finding, overwritten_finding, return_finding, rule_finding, trace_findings}
use Rattle.rv_findings.specs.MonitorFindings.{asked_edges, findings_of, found_if, halt_finding, monitor_findings, off_findings, react_findings, spec_findings, start_findings}
use Rattle.rv_findings.specs.OwnRules.{first_of, is_nothing, lines_where}
use Rattle.rv_findings.specs.Watched.{rules_at}

module _ (edges : Bool) (b : BoundValue) (lines : BindingLines) (counts : Counts) (place : ℕ) (m : Monitor) (c : MonitorCounts) where
  -- its display name, and its `monitor` line
  abbrev pub name_of : List ℕ
  name_of = shown_by b.containers m.container m.name

  abbrev pub line_of : ℕ
  line_of = slice_index lines.monitors.items place

  -- whether it is off
  abbrev pub off_part : List Finding
  off_part = off_findings name_of m.enabled (lines_named m.name lines.offs.items)

  -- whether it starts
  abbrev pub start_part : List Finding
  start_part = start_findings name_of line_of (m.enabled && not (counts.trace.events == 0)) (not (c.instances_started == 0)) (first_of (lines_where Starts (rules_at b lines place)))

  -- whether a failure is told
  abbrev pub react_part : List Finding
  react_part = react_findings name_of line_of (lines_named m.name lines.reacts.items)

  -- its events and atoms
  abbrev pub spec_part : List Finding
  spec_part = spec_findings name_of line_of m.name (rules_at b lines place) lines c m.spec

  -- its edges
  abbrev pub edges_part : List Finding
  edges_part = asked_edges edges name_of line_of m.name (rules_at b lines place) lines c m.spec

  -- whether it halts the run
  abbrev pub halt_part : List Finding
  halt_part = halt_finding name_of place (lines_named m.name lines.reacts.items) counts.halt counts.undelivered

  -- all of it
  pub monitor_parts : monitor_findings edges b lines counts place m c ≡ off_part ++ (start_part ++ (react_part ++ (spec_part ++ (edges_part ++ halt_part))))
  unfolding findings_of
  monitor_parts =
      append_assoc (off_part ++ start_part ++ react_part ++ spec_part) edges_part halt_part
      ∙ append_assoc (off_part ++ start_part ++ react_part) spec_part (edges_part ++ halt_part)
      ∙ append_assoc (off_part ++ start_part) react_part (spec_part ++ (edges_part ++ halt_part))
      ∙ append_assoc off_part start_part (react_part ++ (spec_part ++ (edges_part ++ halt_part)))

module _ (edges : Bool) (b : BoundValue) (lines : BindingLines) (counts : Counts) where
  -- whether there are monitors
  abbrev pub none_part : List Finding
  none_part = found_if (is_nothing b.monitors) 1 (codes "no-monitors: no line of the bindings is a monitor")

  -- all monitors
  abbrev pub monitors_part : List Finding
  monitors_part = of_pairs (monitor_findings edges b lines counts) b.monitors counts.monitors.items

  -- all rules
  abbrev pub rules_part : List Finding
  rules_part = of_pairs (rule_finding counts.trace.events lines.rules.items) b.rules counts.rules.items

  -- all of the bindings
  pub bindings_parts : bindings_findings edges b lines counts ≡ none_part ++ (monitors_part ++ rules_part)
  unfolding bindings_findings
  bindings_parts = append_assoc none_part monitors_part rules_part

-- all of the trace
pub trace_parts : (c : TraceCounts) → trace_findings c ≡ empty_finding c.events ++ (overwritten_finding c.overwritten ++ (return_finding c.returns ++ late_finding c.late))
unfolding trace_findings
trace_parts c =
    append_assoc (empty_finding c.events ++ overwritten_finding c.overwritten) (return_finding c.returns) (late_finding c.late)
    ∙ append_assoc (empty_finding c.events) (overwritten_finding c.overwritten) (return_finding c.returns ++ late_finding c.late)
