-- What one rule asks for on one line, and which pid it goes by.
use Rattle.std.specs.Prelude.{ℕ, List, Option, Some, None, option_map, slice_get, if◌then◌else◌}
use Rattle.std.specs.List.{list_all}
use Rattle.rv_trace.specs.declared.line.Span.{Span}
use Rattle.rv_trace.specs.declared.line.TraceLine.{TraceLine}
use Rattle.rv_bind.specs.declared.bindings.Monitor.{Monitor}
use Rattle.rv_bind.specs.RuleValues.{OnValue}
use Rattle.rv_route.specs.declared.asking.Ask.{Ask}
use Rattle.rv_route.specs.declared.asking.Ask.TheVariants as asks
use Rattle.rv_route.specs.Asking.{text_at, holds, pid_at, asked_of}

-- what the rule asks for on a line of its event with these fields
abbrev pub ask_on : List ℕ → TraceLine → List Monitor → OnValue → Ask
ask_on fields line monitors rule = if list_all (holds fields) rule.tests then asked_of fields line rule.by (slice_get monitors rule.monitor) else asks.Quiet

-- the pid of a field that was looked up, or else the line's
abbrev pub pid_found : List ℕ → TraceLine → Option (Option Span) → Ask
pid_found fields line None = asks.Pid line.pid
pid_found fields line (Some found) = pid_at (option_map (text_at fields) found)
