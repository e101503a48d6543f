-- What is kept of rules as one more line of an event comes.
use Rattle.std.specs.Prelude.{◌≡◌, ℕ, List, [], ◌∷◌, ◌++◌, map, take, Option, Some, option_map, slice_get}
use Rattle.std.specs.List.{AllZip}
use Rattle.rv_bind.specs.declared.bindings.Test.{Test}
use Rattle.rv_bind.specs.RuleValues.{OnValue}
use Rattle.rv_matches.specs.declared.plain_events.PlainEvent.{PlainEvent}
use Rattle.rv_matches.specs.declared.rule_lines.FieldLines.{FieldLines}
use Rattle.rv_matches.specs.declared.rule_lines.RuleLine.{RuleLine}
use Rattle.rv_matches.specs.declared.rule_lines.TheConstants.{MOST_FIELDS}
use Rattle.rv_matches.specs.LineEvents.{LineEvent, value_on}
use Rattle.rv_matches.specs.Words.{with_word}
use Rattle.rv_matches.specs.RuleLines.{CountsRuleLine, FieldCounts, IsRuleLine, RuleLinesValue, field_counts, field_told, held, rule_counts}

-- the name of a field that is kept
abbrev pub field_name : FieldLines → List ℕ
field_name f = f.field

-- the counts of tests on any lines become those on these and one more that has these fields
abbrev pub CountsTests : List ℕ → List Test → List ℕ → List ℕ → Type 0
CountsTests fields tests old new = (lines : List LineEvent) (line : LineEvent) → line.fields ≡ fields → old ≡ map (held lines) tests → new ≡ map (held (lines ++ line ∷ [])) tests

-- the fields that are kept of any names become those of these and one more, of which no line was seen
abbrev pub KeepsName : List ℕ → List FieldLines → List FieldLines → Type 0
KeepsName name old new = (names : List (List ℕ)) → map field_told old ≡ map (field_counts []) (take MOST_FIELDS names) → map field_told new ≡ map (field_counts []) (take MOST_FIELDS (with_word names name))

-- it is still the same field of the same test
pub record KeepsField (old new : FieldLines) : Type 0 where
  pub field : new.field ≡ old.field
  pub test : new.test ≡ old.test
  pub most : new.values.most ≡ old.values.most

-- what any lines have of a field becomes what these and one more have that has this value
abbrev pub CountsValue : Option (List ℕ) → FieldLines → FieldLines → Type 0
CountsValue value old new = (lines : List LineEvent) (line : LineEvent) → value_on old.field line ≡ value → field_told old ≡ field_counts lines old.field → field_told new ≡ field_counts (lines ++ line ∷ []) old.field

-- what any lines have of fields becomes what these and one more have that has these fields
abbrev pub CountsFields : List ℕ → List FieldCounts → List FieldCounts → Type 0
CountsFields fields old new = (lines : List LineEvent) (line : LineEvent) (names : List (List ℕ)) → line.fields ≡ fields → old ≡ map (field_counts lines) names → new ≡ map (field_counts (lines ++ line ∷ [])) names

-- what any lines are to a rule becomes what these are and one more of its event that has these fields
abbrev pub CountsEventLine : OnValue → List ℕ → RuleLine → RuleLine → Type 0
CountsEventLine rule fields old new = (lines : List LineEvent) (line : LineEvent) → line.name ≡ rule.event → line.fields ≡ fields → IsRuleLine (rule_counts lines rule) old → IsRuleLine (rule_counts (lines ++ line ∷ []) rule) new

-- what any lines are to all rules becomes what these are and one more of this event that has these fields
abbrev pub CountsLineOf : List OnValue → List ℕ → List ℕ → List RuleLine → List RuleLine → Type 0
CountsLineOf rules name fields old new = (lines : List LineEvent) (line : LineEvent) → line.name ≡ name → line.fields ≡ fields
    → AllZip (λ rule r. IsRuleLine (rule_counts lines rule) r) rules old → AllZip (λ rule r. IsRuleLine (rule_counts (lines ++ line ∷ []) rule) r) rules new

-- the event at a place has the name
abbrev pub IsNamedAt : List PlainEvent → ℕ → List ℕ → Type 0
IsNamedAt events place name = option_map (λ event. event.name) (slice_get events place) ≡ Some name

-- what was counted of any lines becomes what is counted of these and one more with this name and these fields
abbrev pub CountsNamedLine : List OnValue → List ℕ → List ℕ → RuleLinesValue → RuleLinesValue → Type 0
CountsNamedLine rules name fields old new = (number : ℕ) (stamp : List ℕ) → CountsRuleLine rules (record { number = number; stamp = stamp; name = name; fields = fields }) old new
