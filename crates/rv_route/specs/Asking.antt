-- What a rule asks for on a line: a condition on that line alone.
use Rattle.std.specs.Prelude.{ℕ, Bool, not, false, ◌&&◌, List, Option, Some, None, option_map, nat_lt, bytes_eq, slice_get, if◌then◌else◌}
use Rattle.std.specs.List.{list_all}
use Rattle.rv_text.specs.Places.{between}
use Rattle.rv_text.specs.Decimal.{decimal_of}
use Rattle.rv_model.specs.declared.work.Scope.{Scope}
use Rattle.rv_model.specs.declared.work.Scope.TheVariants as scopes
use Rattle.rv_trace.specs.Fields.{field_of}
use Rattle.rv_trace.specs.FoundFields.{found_at}
use Rattle.rv_trace.specs.declared.line.Span.{Span}
use Rattle.rv_trace.specs.declared.line.TraceLine.{TraceLine}
use Rattle.rv_bind.specs.declared.bindings.Monitor.{Monitor}
use Rattle.rv_bind.specs.declared.bindings.Test.{Test}
use Rattle.rv_bind.specs.declared.bindings.Test.TheVariants.{Is, IsNot}
use Rattle.rv_bind.specs.RuleValues.{OnValue}
use Rattle.rv_route.specs.declared.asking.Ask.{Ask}
use Rattle.rv_route.specs.declared.asking.Ask.TheVariants as asks

-- the bytes of a span
abbrev pub text_at : List ℕ → Span → List ℕ
text_at text span = between text span.from span.to

-- the value of a field
abbrev pub field_value : List ℕ → List ℕ → Option (List ℕ)
field_value fields name = option_map (text_at fields) (field_of fields name)

-- what the field has that was looked up at a place
abbrev pub value_found : List ℕ → List (Option Span) → ℕ → Option (List ℕ)
value_found fields found place = option_map (text_at fields) (found_at found place)

-- there is a value, and it is the wanted one
abbrev pub has_value : List ℕ → Option (List ℕ) → Bool
has_value wanted None = false
has_value wanted (Some found) = bytes_eq found wanted

-- there is a value, and it is another than this one
abbrev pub differs : List ℕ → Option (List ℕ) → Bool
differs wanted None = false
differs wanted (Some found) = not (bytes_eq found wanted)

-- whether a test holds: the field has a value, and it is the one, or another
abbrev pub holds : List ℕ → Test → Bool
holds fields (Is field wanted) = has_value wanted (field_value fields field)
holds fields (IsNot field wanted) = differs wanted (field_value fields field)

-- a rule fires on its event where all its tests hold
abbrev pub fires : List ℕ → List ℕ → OnValue → Bool
fires event fields rule = bytes_eq event rule.event && list_all (holds fields) rule.tests

-- the pid that a number is
abbrev pub pid_from : Option ℕ → Ask
pid_from None = asks.NoPid
pid_from (Some number) = if nat_lt 4294967295 number then asks.NoPid else asks.Pid number

-- the pid that a field's value is
abbrev pub pid_at : Option (List ℕ) → Ask
pid_at None = asks.NoPid
pid_at (Some value) = pid_from (decimal_of value)

-- the pid of the rule's field, or else the line's
abbrev pub pid_of : List ℕ → TraceLine → Option (List ℕ) → Ask
pid_of fields line None = asks.Pid line.pid
pid_of fields line (Some name) = pid_at (field_value fields name)

-- the instance by the monitor's scope
abbrev pub by_scope : List ℕ → TraceLine → Option (List ℕ) → Scope → Ask
by_scope fields line by scopes.Global = asks.Instance 0
by_scope fields line by scopes.Cpu = asks.Instance line.cpu
by_scope fields line by scopes.Task = pid_of fields line by

-- what is asked of the monitor at the rule's place, by its scope; nothing where there is none
abbrev pub asked_of : List ℕ → TraceLine → Option (List ℕ) → Option Monitor → Ask
asked_of fields line by None = asks.Quiet
asked_of fields line by (Some monitor) = by_scope fields line by monitor.scope

-- what the rule asks for
unfoldable pub ask_of : List ℕ → TraceLine → List Monitor → OnValue → Ask
ask_of text line monitors rule =
    if fires (text_at text line.name) (text_at text line.fields) rule then asked_of (text_at text line.fields) line rule.by (slice_get monitors rule.monitor) else asks.Quiet
