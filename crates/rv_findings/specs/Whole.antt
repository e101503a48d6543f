-- How much was reached, and the whole text with its status.
use Rattle.std.specs.Prelude.{ℕ, ◌+◌, Bool, not, ◌==◌, List, [], ◌++◌, length, map, count_by, codes, decimal, if◌then◌else◌}
use Rattle.rv_model.specs.declared.formula.Spec.{Spec}
use Rattle.rv_model.specs.declared.formula.Spec.TheVariants as spec
use Rattle.rv_model.specs.Reports.{line_end}
use Rattle.rv_bind.specs.declared.bindings.Monitor.{Monitor}
use Rattle.rv_bind.specs.BoundViews.{bound_value}
use Rattle.rv_facts.specs.declared.counts.Counts.{Counts}
use Rattle.rv_facts.specs.declared.counts.MonitorCounts.{MonitorCounts}
use Rattle.rv_findings.specs.declared.coverage.Told.{Told}
use Rattle.rv_facts.specs.declared.monitor_facts.Share.{Share}
use Rattle.rv_facts.specs.declared.monitor_facts.Share.TheVariants.{States, Edges, Rows, Atoms}
use Rattle.rv_facts.specs.Facts.{facts_text}
use Rattle.rv_findings.specs.Findings.{bindings_findings, file_text, trace_findings}
use Rattle.rv_facts.specs.Pairs.{of_pairs}
use Rattle.rv_facts.specs.Shown.{numbered}

-- the numbers of a monitor of which it is told how many are not 0: of an automaton its states and edges, of a rule its rows
-- and atoms
abbrev pub numbers_of : Share → Spec → MonitorCounts → List ℕ
numbers_of States (spec.Da a) c = c.rows.items
numbers_of Edges (spec.Da a) c = c.edges.items
numbers_of Rows (spec.Ltl rule) c = c.rows.items
numbers_of Atoms (spec.Ltl rule) c = c.atoms.items
numbers_of _ _ c = []

-- those of all monitors
abbrev pub own_numbers : Share → ℕ → Monitor → MonitorCounts → List ℕ
own_numbers share place m c = numbers_of share m.spec c

abbrev pub all_numbers : Share → List Monitor → List MonitorCounts → List ℕ
all_numbers share monitors counts = of_pairs (own_numbers share) monitors counts

-- how many of the numbers are not 0
unfoldable pub share_text : List ℕ → List ℕ → List ℕ
share_text name numbers = name ++ codes " " ++ decimal (count_by (λ n. not (n == 0)) numbers) ++ codes " of " ++ decimal (length numbers)

-- the rules that fired and the monitors that were started
unfoldable pub watched_text : Counts → List ℕ
watched_text counts =
    share_text (codes "all monitors: rules fired") (map (λ r. r.fires) counts.rules.items)
    ++ share_text (codes ", monitors started") (map (λ c. c.instances_started) counts.monitors.items)

-- how much was reached, and how many findings there are
unfoldable pub whole_text : List Monitor → Counts → ℕ → List ℕ
whole_text monitors counts findings =
    watched_text counts
    ++ share_text (codes ", states reached") (all_numbers States monitors counts.monitors.items)
    ++ share_text (codes ", edges taken") (all_numbers Edges monitors counts.monitors.items)
    ++ share_text (codes ", rows reached") (all_numbers Rows monitors counts.monitors.items)
    ++ share_text (codes ", atoms true") (all_numbers Atoms monitors counts.monitors.items)
    ++ numbered (codes ", findings") findings ++ line_end

-- ---- all of it

-- how many findings there are
abbrev pub finding_count : Bool → Told → ℕ
finding_count edges t = length (bindings_findings edges (bound_value t.bound.now) t.lines.now t.counts.now) + length (trace_findings t.counts.now.trace)

-- the findings, those of the bindings first
abbrev pub findings_text : Bool → Told → List ℕ
findings_text edges t = file_text t.bindings.now (bindings_findings edges (bound_value t.bound.now) t.lines.now t.counts.now) ++ file_text t.trace.now (trace_findings t.counts.now.trace)

-- the whole text: facts, findings, and how much was reached
abbrev pub coverage_text : Bool → Told → List ℕ
coverage_text edges t =
    facts_text (bound_value t.bound.now) t.lines.now.rules.items t.counts.now ++ findings_text edges t ++ whole_text t.bound.now.bindings.monitors.items t.counts.now (finding_count edges t)

-- 0 without a finding, and else 1
abbrev pub coverage_status : Bool → Told → ℕ
coverage_status edges t = if finding_count edges t == 0 then 0 else 1
