-- The facts of a rule: its lines, and of a rule that never fires what comes near to its event, or what its tests see.
use Rattle.std.specs.Prelude.{ℕ, ◌==◌, List, [], ◌++◌, flat_map, codes, slice_index, if◌then◌else◌}
use Rattle.rv_bind.specs.declared.bindings.Test.{Test}
use Rattle.rv_bind.specs.declared.bindings.Test.TheVariants.{Is, IsNot}
use Rattle.rv_bind.specs.RuleValues.{OnValue}
use Rattle.rv_model.specs.Reports.{line_end}
use Rattle.rv_facts.specs.declared.counts.FieldCounts.{FieldCounts}
use Rattle.rv_facts.specs.declared.counts.Near.{Near}
use Rattle.rv_facts.specs.declared.counts.RuleCounts.{RuleCounts}
use Rattle.rv_facts.specs.Orders.{most_first}
use Rattle.rv_facts.specs.Pairs.{of_pairs}
use Rattle.rv_facts.specs.Shown.{counted_fact, lines_text, numbered, shown}

-- how each fact of the rule on a line of the bindings begins
abbrev pub rule_front : List ℕ → ℕ → List ℕ
rule_front name line = name ++ numbered (codes ": on") line ++ codes " "

-- the lines of its event, and those on which it fires
abbrev pub rule_fact : List ℕ → OnValue → RuleCounts → List ℕ
rule_fact front rule c = front ++ shown rule.event ++ numbered (codes ": lines") c.lines ++ numbered (codes ", fires") c.fires ++ line_end

-- a name of the trace that comes near to its event
abbrev pub near_fact : List ℕ → Near → List ℕ
near_fact front n = front ++ codes "near " ++ shown n.name ++ numbered (codes ": lines") n.lines ++ numbered (codes ", distance") n.distance ++ line_end

-- a test as the bindings have it
abbrev pub test_text : Test → List ℕ
test_text (Is field value) = shown field ++ codes "=" ++ shown value
test_text (IsNot field value) = shown field ++ codes "!=" ++ shown value

-- a test that does not hold on all lines of the event
abbrev pub test_fact : List ℕ → ℕ → ℕ → Test → ℕ → List ℕ
test_fact front lines place test holds = if holds == lines then [] else front ++ codes "if " ++ test_text test ++ numbered (codes ": holds") holds ++ line_end

-- lines of no word that is told, where there are some
abbrev pub other_fact : List ℕ → ℕ → List ℕ
other_fact front n = if n == 0 then [] else front ++ lines_text n

-- the values of a field, the most frequent first, and how often it has others, and none
abbrev pub field_facts : List ℕ → FieldCounts → List ℕ
field_facts front f =
    flat_map (counted_fact (front ++ codes "has " ++ f.field ++ codes "=")) (most_first f.values.items)
    ++ other_fact (front ++ codes "has other " ++ f.field) f.other
    ++ front ++ codes "has no " ++ f.field ++ lines_text f.missing

-- of a rule without lines what comes near, and of one that has lines and does not fire what its tests see
abbrev pub why_facts : List ℕ → OnValue → RuleCounts → List ℕ
why_facts front rule c =
    if c.lines == 0 then flat_map (near_fact front) c.near.items
    else if c.fires == 0 then of_pairs (test_fact front c.lines) rule.tests c.holds.items ++ flat_map (field_facts front) c.fields.items
    else []

-- all of the rule on a line of the bindings
abbrev pub rule_facts : List ℕ → OnValue → RuleCounts → List ℕ
rule_facts front rule c = rule_fact front rule c ++ why_facts front rule c

-- the same of a rule that is the monitor's
abbrev pub own_rule_facts : List ℕ → List ℕ → ℕ → ℕ → OnValue → RuleCounts → List ℕ
own_rule_facts name lines monitor place rule c = if rule.monitor == monitor then rule_facts (rule_front name (slice_index lines place)) rule c else []
