-- The findings: what the run did not watch, each with the line that is to be changed, or that shows it. They are the zeros
-- among the numbers, and what is odd about the trace.
use Rattle.std.specs.Prelude.{ℕ, Bool, not, ◌&&◌, ◌==◌, List, [], ◌∷◌, ◌++◌, flat_map, codes, decimal, bytes_eq, slice_index, Option, Some, None, if◌then◌else◌}
use Rattle.std.specs.List.{list_any}
use Rattle.rv_bind.specs.declared.bindings.Test.{Test}
use Rattle.rv_bind.specs.declared.bindings.Test.TheVariants.{Is, IsNot}
use Rattle.rv_bind.specs.RuleValues.{OnValue}
use Rattle.rv_bind.specs.Values.{BoundValue}
use Rattle.rv_model.specs.Reports.{line_end}
use Rattle.rv_facts.specs.declared.lines.BindingLines.{BindingLines}
use Rattle.rv_facts.specs.declared.counts.Counts.{Counts}
use Rattle.rv_facts.specs.declared.counts.Entries.{Entries}
use Rattle.rv_facts.specs.declared.counts.FieldCounts.{FieldCounts}
use Rattle.rv_facts.specs.declared.counts.Late.{Late}
use Rattle.rv_facts.specs.declared.counts.Near.{Near}
use Rattle.rv_facts.specs.declared.counts.Returns.{Returns}
use Rattle.rv_facts.specs.declared.counts.RuleCounts.{RuleCounts}
use Rattle.rv_facts.specs.declared.counts.Stamped.{Stamped}
use Rattle.rv_facts.specs.declared.counts.TraceCounts.{TraceCounts}
use Rattle.rv_findings.specs.declared.finding.Finding.{Finding}
use Rattle.rv_findings.specs.MonitorFindings.{found_if, monitor_findings}
use Rattle.rv_facts.specs.Orders.{sorted_by}
use Rattle.rv_findings.specs.OwnRules.{is_nothing}
use Rattle.rv_facts.specs.Pairs.{of_pairs}
use Rattle.rv_facts.specs.RuleFacts.{test_text}
use Rattle.rv_facts.specs.Shown.{in_brackets, worded}

-- ---- a rule

-- a name of the trace that comes near
abbrev pub near_text : Near → List ℕ
near_text n = worded (codes ", and the nearest that it has is ") n.name

-- the nearest one, where there is one
abbrev pub nearest_text : List Near → List ℕ
nearest_text [] = []
nearest_text (n ∷ near) = near_text n

-- the field of a test
abbrev pub field_of_test : Test → List ℕ
field_of_test (Is field value) = field
field_of_test (IsNot field value) = field

-- the field is none of a number of lines
abbrev pub is_missing_in : ℕ → List ℕ → FieldCounts → Bool
is_missing_in lines field f = bytes_eq f.field field && f.missing == lines

-- no line of the rule's event has the field
abbrev pub is_missing : RuleCounts → List ℕ → Bool
is_missing c field = list_any (is_missing_in c.lines field) c.fields.items

-- the first test that holds on no line
abbrev pub never_holds : ℕ → Test → ℕ → List Test
never_holds place test holds = if holds == 0 then test ∷ [] else []

abbrev pub never : List Test → List ℕ → List Test
never tests holds = of_pairs never_holds tests holds

-- no line has the field
abbrev pub missing_text : List ℕ → List ℕ → List ℕ
missing_text event field = worded (codes "no line of ") event ++ codes " has the field " ++ field

-- the test holds on no line
abbrev pub no_hold_text : List ℕ → Test → List ℕ
no_hold_text event test = test_text test ++ worded (codes " holds on no line of ") event

-- the field that no line has, or the test that holds on none
abbrev pub test_never_text : List ℕ → RuleCounts → Test → List ℕ
test_never_text event c test = if is_missing c (field_of_test test) then missing_text event (field_of_test test) else no_hold_text event test

-- by the first test that holds on no line
abbrev pub never_text : List ℕ → RuleCounts → List Test → List ℕ
never_text event c [] = worded (codes "the tests hold together on no line of ") event
never_text event c (test ∷ tests) = test_never_text event c test

-- the trace has no line of the event
abbrev pub no_line_text : List ℕ → List Near → List ℕ
no_line_text event near = worded (codes "the trace has no event ") event ++ nearest_text near

-- it has some, and the tests hold together on none
abbrev pub no_match_text : OnValue → RuleCounts → List ℕ
no_match_text rule c = never_text rule.event c (never rule.tests c.holds.items) ++ in_brackets c.lines

-- why a rule never fires
abbrev pub silent_text : OnValue → RuleCounts → List ℕ
silent_text rule c = if c.lines == 0 then no_line_text rule.event c.near.items else no_match_text rule c

-- it fires on no line of a trace that has an event
abbrev pub rule_finding : ℕ → List ℕ → ℕ → OnValue → RuleCounts → List Finding
rule_finding events lines place rule c =
    found_if (not (events == 0) && c.fires == 0) (slice_index lines place) (codes "rule-never-fires: " ++ silent_text rule c)

-- ---- the trace

-- it has no event
abbrev pub empty_finding : ℕ → List Finding
empty_finding events = found_if (events == 0) 1 (codes "no-events: no line of the trace is an event")

-- its front was overwritten
abbrev pub overwritten_finding : Option Entries → List Finding
overwritten_finding None = []
overwritten_finding (Some e) = record { line = e.line; text = codes "front-overwritten: " ++ decimal e.kept ++ codes " of " ++ decimal e.written ++ codes " entries are left" } ∷ []

-- its lines end in a carriage return
abbrev pub return_finding : Option Returns → List Finding
return_finding None = []
return_finding (Some r) = record { line = r.line; text = codes "carriage-returns: the line ends in one" ++ in_brackets r.lines } ∷ []

-- a timestamp with its line
abbrev pub latest_text : Stamped → List ℕ
latest_text s = s.stamp ++ codes " of line " ++ decimal s.line

-- a time stands behind a later one
abbrev pub late_finding : Option Late → List Finding
late_finding None = []
late_finding (Some l) = record { line = l.late.line; text = codes "time-goes-back: " ++ l.late.stamp ++ codes " stands behind " ++ latest_text l.latest ++ in_brackets l.lines } ∷ []

-- all of the trace
unfoldable pub trace_findings : TraceCounts → List Finding
trace_findings c = empty_finding c.events ++ overwritten_finding c.overwritten ++ return_finding c.returns ++ late_finding c.late

-- ---- all of them

-- those of the bindings, in the order in which they are found
unfoldable pub bindings_findings : Bool → BoundValue → BindingLines → Counts → List Finding
bindings_findings edges b lines counts =
    found_if (is_nothing b.monitors) 1 (codes "no-monitors: no line of the bindings is a monitor")
    ++ of_pairs (monitor_findings edges b lines counts) b.monitors counts.monitors.items
    ++ of_pairs (rule_finding counts.trace.events lines.rules.items) b.rules counts.rules.items

-- a finding in a file, with its line end
abbrev pub finding_text : List ℕ → Finding → List ℕ
finding_text file f = file ++ codes ":" ++ decimal f.line ++ codes ": " ++ f.text ++ line_end

-- findings in a file by their lines, those of a line as they stand
unfoldable pub file_text : List ℕ → List Finding → List ℕ
file_text file findings = flat_map (finding_text file) (sorted_by (λ f. f.line) findings)
