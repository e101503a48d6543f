-- Rules by the events that they are on, the fields that they name, and what is found of these on a line.
use Rattle.std.specs.Prelude.{◌≡◌, ℕ, ◌+◌, Bool, List, [], ◌∷◌, ◌++◌, All, Any, map, filter, Option, Some, IfSome, option_map, bytes_eq, slice_get, if◌then◌else◌}
use Rattle.std.specs.List.{AllZip}
use Rattle.rv_trace.specs.Fields.{field_of}
use Rattle.rv_trace.specs.FoundFields.{found_at}
use Rattle.rv_trace.specs.declared.line.Span.{Span}
use Rattle.rv_bind.specs.declared.bindings.Test.{Test}
use Rattle.rv_bind.specs.declared.bindings.Test.TheVariants.{Is, IsNot}
use Rattle.rv_bind.specs.RuleValues.{OnValue}
use Rattle.rv_route.specs.declared.event.Asked.{Asked}
use Rattle.rv_route.specs.declared.event.Event.{Event}
use Rattle.rv_route.specs.FieldTests.{MeanTests}

-- the field that a test names
abbrev pub tested_field : Test → List ℕ
tested_field (Is field wanted) = field
tested_field (IsNot field wanted) = field

-- the fields that tests name, in order
abbrev pub tested_fields : List Test → List (List ℕ)
tested_fields tests = map tested_field tests

-- the rule's fields stand among the names at these places, and its tests are the same field by field
pub record HasFields (names : List (List ℕ)) (asked : Asked) (rule : OnValue) : Type 0 where
  pub tests : map (slice_get names) asked.tests.items ≡ map Some (tested_fields rule.tests)
  pub by_field : IfSome asked.by_field (λ list. MeanTests list.items asked.tests.items rule.tests)
  pub by : option_map (slice_get names) asked.by ≡ option_map Some rule.by

-- it is this rule, and its fields stand among the names
pub record IsAsked (rules : List OnValue) (names : List (List ℕ)) (asked : Asked) (rule : OnValue) : Type 0 where
  pub there : slice_get rules asked.rule ≡ Some rule
  pub fields : HasFields names asked rule

-- the rule is on the event
abbrev pub is_on_event : List ℕ → OnValue → Bool
is_on_event event rule = bytes_eq event rule.event

-- the places of the rules that are on the event, of rules that stand from a place on
abbrev pub places_on : List ℕ → ℕ → List OnValue → List ℕ
places_on event place [] = []
places_on event place (rule ∷ rules) = (if is_on_event event rule then place ∷ [] else []) ++ places_on event (place + 1) rules

-- the place of a rule that is asked
abbrev pub asked_place : Asked → ℕ
asked_place asked = asked.rule

-- the event asks for the rules that are on this name, each once and in their order
pub record IsEventOf (rules : List OnValue) (name : List ℕ) (event : Event) : Type 0 where
  pub asked : AllZip (IsAsked rules event.fields) event.rules.items (filter (is_on_event name) rules)
  pub places : map asked_place event.rules.items ≡ places_on name 0 rules

-- the name has an event
unfoldable pub HasEvent : List Event → List ℕ → Type 0
HasEvent index name = Any (λ event. event.name ≡ name) index

-- each event asks for its rules, and each rule has its event
pub record IsIndexOf (rules : List OnValue) (index : List Event) : Type 0 where
  pub events : All (λ event. IsEventOf rules event.name event) index
  pub has : All (λ rule. HasEvent index rule.event) rules

-- the rule's fields were found at these places, and its tests are the same field by field
pub record HasFound (fields : List ℕ) (found : List (Option Span)) (asked : Asked) (rule : OnValue) : Type 0 where
  pub tests : map (found_at found) asked.tests.items ≡ map (field_of fields) (tested_fields rule.tests)
  pub by_field : IfSome asked.by_field (λ list. MeanTests list.items asked.tests.items rule.tests)
  pub by : option_map (found_at found) asked.by ≡ option_map (field_of fields) rule.by
