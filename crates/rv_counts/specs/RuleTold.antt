-- The numbers of rules, as they are told: what the events of a trace are to each.
use Rattle.std.specs.Prelude.{◌≡◌, ℕ, ◌==◌, List, [], map, if◌then◌else◌}
use Rattle.std.specs.List.{AllZip}
use Rattle.rv_bind.specs.RuleValues.{OnValue}
use Rattle.rv_matches.specs.LineEvents.{LineEvent}
use Rattle.rv_matches.specs.Nearest.{nearest}
use Rattle.rv_matches.specs.RuleLines as matches
use Rattle.rv_matches.specs.TraceFacts.{counted_names}
use Rattle.rv_matches.specs.Words as words
use Rattle.rv_matches.specs.declared.near.Near as nears
use Rattle.rv_facts.specs.declared.counts.Counted.{Counted}
use Rattle.rv_facts.specs.declared.counts.FieldCounts.{FieldCounts}
use Rattle.rv_facts.specs.declared.counts.Near.{Near}
use Rattle.rv_facts.specs.declared.counts.RuleCounts.{RuleCounts}

-- a word of the trace, and the number of lines that have it
abbrev pub counted_told : Counted → words.Counted
counted_told c = (c.word, c.lines)

-- a name that comes near to the event of a rule
abbrev pub near_of : Near → nears.Near
near_of n = record { name = n.name; lines = n.lines; distance = n.distance }

-- what a field has on the lines of a rule's event
abbrev pub field_counted : FieldCounts → matches.FieldCounts
field_counted f = record { field = f.field; values = map counted_told f.values.items; other = f.other; missing = f.missing }

-- the names that are told of a rule's event, of these: the nearest, where it has no line
abbrev pub near_told : List words.Counted → List ℕ → ℕ → List nears.Near
near_told names event lines = if lines == 0 then nearest event names else []

-- what the lines are to a rule with this event, of a trace with these names
pub record TellsRule (names : List words.Counted) (event : List ℕ) (counts : matches.RuleCounts) (c : RuleCounts) : Type 0 where
  pub lines : c.lines ≡ counts.lines
  pub fires : c.fires ≡ counts.fires
  pub near : map near_of c.near.items ≡ near_told names event counts.lines
  pub holds : c.holds.items ≡ map matches.holds_told counts.tests
  pub fields : map field_counted c.fields.items ≡ counts.fields

-- what the events of a trace are to each rule of its bindings
abbrev pub TellsRules : List LineEvent → List OnValue → List RuleCounts → Type 0
TellsRules events rules counts = AllZip (λ rule c. TellsRule (counted_names events).words rule.event (matches.rule_counts events rule) c) rules counts
