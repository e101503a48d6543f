-- By which numbers a trace is refused.
use Rattle.std.specs.Prelude.{ℕ, ◌≤◌, ◌⊎◌}
use Rattle.rv_text.specs.declared.numbers.TheConstants.{TRACE_SYNTAX, TOO_LONG, TOO_MANY_TASKS, TOO_MANY_DELIVERIES}

-- the numbers of the refusals of a trace's lines
abbrev pub IsTraceNumber : ℕ → Type 0
IsTraceNumber number = (TRACE_SYNTAX ≤ number) × (number ≤ TOO_LONG)

-- the numbers of the refusals of its routing
abbrev pub IsRoutingNumber : ℕ → Type 0
IsRoutingNumber number = (TOO_MANY_TASKS ≤ number) × (number ≤ TOO_MANY_DELIVERIES)

-- both
abbrev pub IsRoutedNumber : ℕ → Type 0
IsRoutedNumber number = IsTraceNumber number ⊎ IsRoutingNumber number
