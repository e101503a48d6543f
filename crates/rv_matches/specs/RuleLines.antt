-- What the lines of a trace are to a rule: those of its event, those on which it fires, and what its fields have there.
use Rattle.std.specs.Prelude.{◌≡◌, ◌≢◌, ◌≤◌, ℕ, Bool, ◌==◌, List, [], ◌∷◌, ◌++◌, length, map, take, filter, filter_map, count_by, All, Some, None, is_none, slice_get, if◌then◌else◌}
use Rattle.std.specs.List.{AllZip, list_any}
use Rattle.rv_bind.specs.declared.bindings.Test.{Test}
use Rattle.rv_bind.specs.RuleValues.{OnValue}
use Rattle.rv_route.specs.Asking.{holds}
use Rattle.rv_route.specs.Events.{IsIndexOf, is_on_event, places_on, tested_fields}
use Rattle.rv_route.specs.declared.event.Event.{Event}
use Rattle.rv_matches.specs.declared.plain_events.PlainEvent.{PlainEvent}
use Rattle.rv_matches.specs.declared.rule_lines.FieldLines.{FieldLines}
use Rattle.rv_matches.specs.declared.rule_lines.RuleLine.{RuleLine}
use Rattle.rv_matches.specs.declared.rule_lines.TheConstants.{MOST_FIELDS, MOST_VALUES}
use Rattle.rv_matches.specs.LineEvents.{LineEvent, is_of, fires_on, value_on}
use Rattle.rv_matches.specs.Words.{Counted, counted_words, distinct, others}

-- ---- counts

-- the lines of the event
abbrev pub lines_of_event : List LineEvent → List ℕ → List LineEvent
lines_of_event lines event = filter (is_of event) lines

-- on how many lines the rule fires
abbrev pub fired : List LineEvent → OnValue → ℕ
fired lines rule = count_by (fires_on rule) lines

-- on how many of the lines the test holds
abbrev pub held : List LineEvent → Test → ℕ
held lines test = count_by (λ line. holds line.fields test) lines

-- what a field has on the lines of an event
pub record FieldCounts : Type 0 where
  pub field : List ℕ
  pub values : List Counted
  pub other : ℕ
  pub missing : ℕ

-- the values of a field on lines
abbrev pub field_values : List LineEvent → List ℕ → List (List ℕ)
field_values lines field = filter_map (value_on field) lines

-- each value with how often it is there, how often another is, and on how many lines there is none
abbrev pub field_counts : List LineEvent → List ℕ → FieldCounts
field_counts lines field = record {
  field = field;
  values = counted_words MOST_VALUES (field_values lines field);
  other = others MOST_VALUES (field_values lines field);
  missing = count_by (λ line. is_none (value_on field line)) lines;
}

-- the fields that the tests name, each once, in their order, and no more than are kept
abbrev pub kept_fields : List Test → List (List ℕ)
kept_fields tests = take MOST_FIELDS (distinct (tested_fields tests))

-- ---- all of a rule

-- a test as it stands in the bindings, and how often it holds
pub record TestCounts : Type 0 where
  pub test : Test
  pub holds : ℕ

-- what lines are to a rule
pub record RuleCounts : Type 0 where
  pub lines : ℕ
  pub fires : ℕ
  -- none of a rule that fires, and no fields
  pub tests : List TestCounts
  pub fields : List FieldCounts

-- what is told of a rule that fires on so many lines only if that is none
abbrev pub unless_fired : {X : Type 0} → ℕ → List X → List X
unless_fired fires told = if fires == 0 then told else []

-- the lines of its event, those on which it fires, and as long as there are none how often its tests hold and what their fields have
abbrev pub rule_counts : List LineEvent → OnValue → RuleCounts
rule_counts lines rule = record {
  lines = length (lines_of_event lines rule.event);
  fires = fired lines rule;
  tests = unless_fired (fired lines rule) (map (λ test. record { test = test; holds = held (lines_of_event lines rule.event) test }) rule.tests);
  fields = unless_fired (fired lines rule) (map (field_counts (lines_of_event lines rule.event)) (kept_fields rule.tests));
}

-- ---- all rules

-- some rule is on the event of the line
abbrev pub has_rule : List OnValue → LineEvent → Bool
has_rule rules line = list_any (λ rule. is_of rule.event line) rules

-- some rule fires on the line
abbrev pub is_fired : List OnValue → LineEvent → Bool
is_fired rules line = list_any (λ rule. fires_on rule line) rules

-- the rule by no field, which fires on the same lines
abbrev pub without_by : OnValue → OnValue
without_by rule = record { monitor = rule.monitor; event = rule.event; by = None; tests = rule.tests; hit = rule.hit }

-- what is kept of rules: the rules by no field, by their events, and the events whose rules have no tests; what the lines are to each, how many lines some rule names, and on how many some rule fires
pub record RuleLinesValue : Type 0 where
  pub asked : List OnValue
  pub index : List Event
  pub plain : List PlainEvent
  pub rules : List RuleLine
  pub named : ℕ
  pub fired : ℕ

-- what is kept of a field
abbrev pub field_told : FieldLines → FieldCounts
field_told f = record { field = f.field; values = f.values.words; other = f.values.others; missing = f.missing }

-- how often the test holds, of a test that is told of
abbrev pub holds_told : TestCounts → ℕ
holds_told t = t.holds

-- what is kept of a rule, whose tests stand in the bindings, is this
pub record IsRuleLine (counts : RuleCounts) (r : RuleLine) : Type 0 where
  pub lines : r.lines ≡ counts.lines
  pub fires : r.fires ≡ counts.fires
  pub holds : r.holds.items ≡ map holds_told counts.tests
  pub fields : map field_told r.fields.items ≡ counts.fields

-- what is kept of all rules is what these lines are to them
pub record AreRuleLines (rules : List OnValue) (lines : List LineEvent) (value : RuleLinesValue) : Type 0 where
  pub each : AllZip (λ rule r. IsRuleLine (rule_counts lines rule) r) rules value.rules
  pub named : value.named ≡ count_by (has_rule rules) lines
  pub fired : value.fired ≡ count_by (is_fired rules) lines

-- a field that is kept is that of a test, with as many values as may be kept
pub record HasTest (tests : List Test) (f : FieldLines) : Type 0 where
  pub field : slice_get (tested_fields tests) f.test ≡ Some f.field
  pub most : f.values.most ≡ MOST_VALUES

-- what is kept of a rule is by the places of its tests
pub record IsByTests (rule : OnValue) (r : RuleLine) : Type 0 where
  pub holds : length r.holds.items ≤ length rule.tests
  pub fields : All (HasTest rule.tests) r.fields.items

-- some rules are on the event, at these places, and none of them has a test
pub record IsPlainEvent (rules : List OnValue) (event : PlainEvent) : Type 0 where
  pub places : event.rules.items ≡ places_on event.name 0 rules
  pub tests : All (λ rule. rule.tests ≡ []) (filter (is_on_event event.name) rules)
  pub some : filter (is_on_event event.name) rules ≢ []

-- it is kept for these rules
pub record IsForRules (rules : List OnValue) (value : RuleLinesValue) : Type 0 where
  pub asked : value.asked ≡ map without_by rules
  pub index : IsIndexOf value.asked value.index
  pub plain : All (IsPlainEvent value.asked) value.plain
  pub places : AllZip IsByTests value.asked value.rules

-- what was counted of any lines becomes what is counted of these and one more
abbrev pub CountsRuleLine : List OnValue → LineEvent → RuleLinesValue → RuleLinesValue → Type 0
CountsRuleLine rules line old new = (lines : List LineEvent) → AreRuleLines rules lines old → AreRuleLines rules (lines ++ line ∷ []) new
