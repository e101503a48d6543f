-- The findings about a monitor: what the bindings lack, and what the run did not reach.
use Rattle.std.specs.Prelude.{ℕ, Bool, not, ◌&&◌, ◌==◌, List, [], ◌∷◌, ◌++◌, length, flat_map, codes, decimal, slice_index, slice_index_or, Option, Some, None, if◌then◌else◌}
use Rattle.rv_model.specs.declared.formula.Spec.{Spec}
use Rattle.rv_model.specs.declared.formula.Spec.TheVariants as spec
use Rattle.rv_model.specs.Machine.{Machine}
use Rattle.rv_bind.specs.declared.bindings.Monitor.{Monitor}
use Rattle.rv_bind.specs.Values.{BoundValue}
use Rattle.rv_report.specs.Reported.{shown_by}
use Rattle.rv_facts.specs.declared.lines.BindingLines.{BindingLines}
use Rattle.rv_facts.specs.declared.counts.Counts.{Counts}
use Rattle.rv_facts.specs.declared.counts.Halt.{Halt}
use Rattle.rv_facts.specs.declared.counts.MonitorCounts.{MonitorCounts}
use Rattle.rv_findings.specs.declared.finding.Asked.TheVariants.{Starts, Brings, Sets}
use Rattle.rv_findings.specs.declared.finding.Finding.{Finding}
use Rattle.rv_findings.specs.declared.finding.OwnRule.{OwnRule}
use Rattle.rv_findings.specs.declared.spec_findings.SpecPart.{SpecPart}
use Rattle.rv_findings.specs.declared.spec_findings.SpecPart.TheVariants.{Events, Edges, Atoms}
use Rattle.rv_facts.specs.BindingLines.{begin_lines, lines_named}
use Rattle.rv_facts.specs.MonitorFacts.{place_edge, edge_text, places}
use Rattle.rv_findings.specs.OwnRules.{first_of, first_or, is_nothing, final_line, least_of, lines_where, own_rules}
use Rattle.rv_facts.specs.Shown.{in_brackets}

-- one finding where it is so, and else none
abbrev pub found_if : Bool → ℕ → List ℕ → List Finding
found_if is_so line text = if is_so then record { line = line; text = text } ∷ [] else []

-- ---- whether it can start, and does

-- it is off
unfoldable pub off_findings : List ℕ → Bool → List ℕ → List Finding
off_findings name enabled lines = found_if (not enabled) (first_or 0 lines) (codes "monitor-off: " ++ name ++ codes " gets no delivery")

-- no line can start an instance, or else none does
unfoldable pub start_findings : List ℕ → ℕ → Bool → Bool → Option ℕ → List Finding
start_findings name line enabled started None = record { line = line; text = codes "monitor-cannot-start: no line of " ++ name ++ codes " has the mode start or start_run" } ∷ []
start_findings name line enabled started (Some first) = found_if (enabled && not started) first (codes "monitor-never-starts: no delivery starts " ++ name)

-- nobody is told of its failures
unfoldable pub react_findings : List ℕ → ℕ → List ℕ → List Finding
react_findings name line lines = found_if (is_nothing lines) line (codes "no-react: a failure of " ++ name ++ codes " is counted, and not printed")

-- ---- its specification

-- no line brings the event
abbrev pub event_finding : List ℕ → ℕ → List OwnRule → List (List ℕ) → ℕ → List Finding
event_finding name line own events event =
    found_if (is_nothing (lines_where (Brings event) own)) line (codes "event-not-bound: no line brings " ++ slice_index_or events event [] ++ codes " to " ++ name)

-- an atom of the monitor
abbrev pub atom_text : List ℕ → List ℕ → List ℕ
atom_text name atom = atom ++ codes " of " ++ name

-- no line sets the atom, or else no letter has it
abbrev pub atom_findings_by : List ℕ → ℕ → ℕ → ℕ → List ℕ → Option ℕ → List Finding
atom_findings_by name line letters true_in atom None = record { line = line; text = codes "atom-not-bound: no line sets " ++ atom_text name atom } ∷ []
atom_findings_by name line letters true_in atom (Some least) =
    found_if (not (letters == 0) && true_in == 0) least (codes "atom-never-true: " ++ atom_text name atom ++ codes " is true in no letter" ++ in_brackets letters)

-- the lines that set the atom
abbrev pub setting_lines : List ℕ → List OwnRule → BindingLines → List ℕ → ℕ → List ℕ
setting_lines called own lines atom place = lines_where (Sets place) own ++ begin_lines called atom lines.begins.items

abbrev pub atom_finding : List ℕ → ℕ → List ℕ → List OwnRule → BindingLines → MonitorCounts → List (List ℕ) → ℕ → List Finding
atom_finding name line called own lines c atoms place =
    let atom = slice_index_or atoms place [] in
    atom_findings_by name line c.letters (slice_index c.atoms.items place) atom (least_of (setting_lines called own lines atom place))

-- the edge is not taken
abbrev pub edge_finding : List ℕ → ℕ → List OwnRule → MonitorCounts → Machine → ℕ → List Finding
edge_finding name line own c a place = found_if (slice_index c.edges.items place == 0)
    (first_or line (lines_where (Brings (place_edge a place).event) own))
    (codes "edge-never-taken: " ++ edge_text a (place_edge a place) ++ codes " of " ++ name)

-- how many places a part has: of an automaton its events and edges, of a rule its atoms
abbrev pub part_size : SpecPart → Spec → ℕ
part_size Events (spec.Da a) = length a.events
part_size Edges (spec.Da a) = length a.edges
part_size Atoms (spec.Ltl rule) = length rule.atoms
part_size _ _ = 0

-- what is found at a place of a part
abbrev pub place_finding : List ℕ → ℕ → List ℕ → List OwnRule → BindingLines → MonitorCounts → Spec → SpecPart → ℕ → List Finding
place_finding name line called own lines c (spec.Da a) Events place = event_finding name line own a.events place
place_finding name line called own lines c (spec.Da a) Edges place = edge_finding name line own c a place
place_finding name line called own lines c (spec.Ltl rule) Atoms place = atom_finding name line called own lines c rule.atoms place
place_finding name line called own lines c _ _ place = []

-- what is found at all of them
abbrev pub part_findings : List ℕ → ℕ → List ℕ → List OwnRule → BindingLines → MonitorCounts → Spec → SpecPart → List Finding
part_findings name line called own lines c spec part = flat_map (place_finding name line called own lines c spec part) (places (part_size part spec))

-- what no line brings or sets, and what none did
unfoldable pub spec_findings : List ℕ → ℕ → List ℕ → List OwnRule → BindingLines → MonitorCounts → Spec → List Finding
spec_findings name line called own lines c spec = part_findings name line called own lines c spec Events ++ part_findings name line called own lines c spec Atoms

-- edges of a monitor that is started, where they are asked for
unfoldable pub asked_edges : Bool → List ℕ → ℕ → List ℕ → List OwnRule → BindingLines → MonitorCounts → Spec → List Finding
asked_edges edges name line called own lines c spec = if edges && not (c.instances_started == 0) then part_findings name line called own lines c spec Edges else []

-- ---- the halt

-- what the run did not deliver since the monitor failed
unfoldable pub halt_finding : List ℕ → ℕ → List ℕ → Option Halt → ℕ → List Finding
halt_finding name place lines None undelivered = []
halt_finding name place lines (Some halt) undelivered = found_if (halt.monitor == place && not (undelivered == 0)) (final_line lines)
    (codes "run-halted: " ++ name ++ codes " failed on line " ++ decimal halt.line ++ codes " of the trace, and what fires behind it is not delivered" ++ in_brackets undelivered)

-- ---- all of a monitor

-- by its display name, and its rules
unfoldable pub findings_of : List ℕ → List OwnRule → Bool → BindingLines → Counts → ℕ → Monitor → MonitorCounts → List Finding
findings_of name own edges lines counts place m c =
    let line = slice_index lines.monitors.items place in
    off_findings name m.enabled (lines_named m.name lines.offs.items)
    ++ start_findings name line (m.enabled && not (counts.trace.events == 0)) (not (c.instances_started == 0)) (first_of (lines_where Starts own))
    ++ react_findings name line (lines_named m.name lines.reacts.items)
    ++ spec_findings name line m.name own lines c m.spec
    ++ asked_edges edges name line m.name own lines c m.spec
    ++ halt_finding name place (lines_named m.name lines.reacts.items) counts.halt counts.undelivered

-- the monitor at an index
abbrev pub monitor_findings : Bool → BoundValue → BindingLines → Counts → ℕ → Monitor → MonitorCounts → List Finding
monitor_findings edges b lines counts place m c =
    findings_of (shown_by b.containers m.container m.name) (own_rules place b.rules lines.rules.items) edges lines counts place m c
