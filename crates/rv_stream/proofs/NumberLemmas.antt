-- Every refusal of a trace has one of the numbers of its step.
use Rattle.std.proofs.Common.{◌≡◌, ℕ, Bool, true, false, List, [], ◌∷◌, ◌++◌, length, subst, ap, inl, inr, arith}
use Rattle.std.specs.Prelude.{Option, Some, None, Result, Ok, Err, IfSome, IfErr, option_map, nat_lt, if◌then◌else◌}
use Rattle.std.specs.Option.{option_or}
use Rattle.rv_text.specs.declared.numbers.TheConstants.{NO_PID, TOO_MANY_TASKS, TOO_MANY_DELIVERIES}
use Rattle.rv_text.specs.declared.refusals.Refusal.{Refusal}
use Rattle.rv_text.specs.declared.refusals.Refused.{Refused}
use Rattle.rv_text.specs.declared.refusals.Refused.TheVariants as refuseds
use Rattle.rv_text.specs.Readings.{Refuses, and_then}
use Rattle.rv_text.specs.TextLines.{LineText, lines_of}
use Rattle.rv_trace.specs.declared.line.TraceLine.{TraceLine}
use Rattle.rv_trace.specs.Lines.{said, line_of}
use Rattle.rv_trace.specs.Traces.{reading_of, all_read, trace_of}
use Rattle.rv_bind.specs.declared.bindings.Monitor.{Monitor}
use Rattle.rv_bind.specs.declared.fault.BindFault.{BindFault}
use Rattle.rv_bind.specs.declared.fault.BindFault.TheVariants as faults
use Rattle.rv_bind.specs.Values.{OnValue}
use Rattle.rv_bind.specs.Outcomes.{IsRefusal, IsFaultIn, of_file}
use Rattle.rv_bind.proofs.NumberLemmas.{then_numbered}
use Rattle.rv_slots.specs.declared.tasks.TheConstants.{MAX_TASKS}
use Rattle.rv_route.specs.declared.deliveries.TheConstants.{MAX_DELIVERIES}
use Rattle.rv_route.specs.Routing.{Firing, is_no_pid, tasks_of, firings_of, first_fault, routed_by, unless_refused, route_of}
use Rattle.rv_stream.specs.Numbers.{IsTraceNumber, IsRoutingNumber, IsRoutedNumber}
use Rattle.rv_stream.specs.inner.Faults.{IsOutcome}

-- ---- what is read of a text

-- the refusal of a reading
pub refusal_numbered : {X : Type 0} (Is : Refusal → Type 0) (read : Result X Refusal) (refusal : Refusal) → IfErr read Is → read ≡ Err refusal → Is refusal
refusal_numbered {X} Is read refusal numbered is = subst (λ (r : Result X Refusal). IfErr r Is) is numbered

-- a reading that some numbers refuse is refused by more
pub more_numbered : {X : Type 0} (Is Others : Refusal → Type 0) (read : Result X Refusal) → ((refusal : Refusal) → Is refusal → Others refusal) → IfErr read Is → IfErr read Others
more_numbered Is Others (Ok x) more numbered = tt
more_numbered Is Others (Err refusal) more numbered = more refusal numbered

-- a reader's refusal is what its file's text comes to
pub fault_tells : {Y : Type 0} (file : List ℕ) (read : Result Y Refusal) (fault : Refused) (given : BindFault) → IfErr read IsRefusal → Refuses fault read → IsFaultIn file fault given → IsOutcome {X = Y} (λ y. y) (Err given) (of_file file read)
fault_tells file read refuseds.Memory given numbered refuses is = rw is tt
fault_tells file read (refuseds.Because refusal) faults.Memory numbered refuses is = tt
fault_tells file read (refuseds.Because refusal) (faults.Unread named) numbered refuses is = absurd is
fault_tells file read (refuseds.Because refusal) (faults.Refused named told) numbered refuses is = rw (is.0, is.1) (refusal_numbered IsRefusal read refusal numbered refuses, ap (of_file file) refuses)

-- ---- traces

-- by a number of a trace's lines
abbrev pub IsTraceRefusal : Refusal → Type 0
IsTraceRefusal refusal = IsTraceNumber refusal.number

-- by one of its routing
abbrev IsRoutingRefusal : Refusal → Type 0
IsRoutingRefusal refusal = IsRoutingNumber refusal.number

-- they are refusals
pub traces_are_refusals : (refusal : Refusal) → IsTraceRefusal refusal → IsRefusal refusal
traces_are_refusals refusal is = (let low = is.0 in omega arith, let high = is.1 in omega arith)

-- what a line says
line_numbered : (text : List ℕ) (from number : ℕ) → IfErr (line_of text from number) IsTraceRefusal
unfolding line_of said
line_numbered text from number = grind arith

-- a line that ends in time
reading_numbered : (line : LineText) → IfErr (reading_of line) IsTraceRefusal
unfolding reading_of
reading_numbered line = grind (arith, line_numbered)

-- the lines
lines_numbered : (lines : List LineText) → IfErr (all_read lines) IsTraceRefusal
unfolding all_read
lines_numbered [] = tt
lines_numbered (line ∷ later) = then_numbered IsTraceRefusal (reading_of line) _ (reading_numbered line) (λ read. then_numbered IsTraceRefusal (all_read later) _ (lines_numbered later) (λ more. tt))

-- the trace of a text
pub trace_numbered : (text : List ℕ) → IfErr (trace_of text) IsTraceRefusal
unfolding trace_of
trace_numbered text = lines_numbered (lines_of text)

-- the first of the rules that fire that is refused
fault_numbered : (before firings : List Firing) → IfSome (first_fault before firings) IsRoutingRefusal
fault_numbered before [] = tt
fault_numbered before (f ∷ firings) = go (is_no_pid f.ask) (nat_lt MAX_TASKS (length (tasks_of (before ++ f ∷ [])))) (nat_lt MAX_DELIVERIES (length (before ++ f ∷ []))) (fault_numbered (before ++ f ∷ []) firings)
  where
    go : (no_pid tasks deliveries : Bool)
        → IfSome (first_fault (before ++ f ∷ []) firings) IsRoutingRefusal
        → IfSome
        (option_or (option_map (λ (number : ℕ). record { number = number; line = f.line.number }) (if no_pid then Some NO_PID else if tasks then Some TOO_MANY_TASKS else if deliveries then Some TOO_MANY_DELIVERIES else None))
        (first_fault (before ++ f ∷ []) firings)) IsRoutingRefusal
    go true tasks deliveries rest = (omega arith, omega arith)
    go false true deliveries rest = (omega arith, omega arith)
    go false false true rest = (omega arith, omega arith)
    go false false false rest = rest

-- what a trace is routed to
pub route_numbered : (monitors : List Monitor) (rules : List OnValue) (text : List ℕ) (lines : List TraceLine) → IfErr (route_of monitors rules text lines) IsRoutingRefusal
unfolding route_of
route_numbered monitors rules text lines = go (first_fault [] (firings_of monitors rules text lines)) (fault_numbered [] (firings_of monitors rules text lines))
  where
    go : (fault : Option Refusal) → IfSome fault IsRoutingRefusal → IfErr (unless_refused fault (routed_by lines (firings_of monitors rules text lines))) IsRoutingRefusal
    go None is = tt
    go (Some refusal) is = is

-- by one of either
abbrev pub IsRoutedRefusal : Refusal → Type 0
IsRoutedRefusal refusal = IsRoutedNumber refusal.number

-- it is a refusal
routed_are_refusals : (refusal : Refusal) → IsRoutedRefusal refusal → IsRefusal refusal
routed_are_refusals refusal (inl is) = traces_are_refusals refusal is
routed_are_refusals refusal (inr is) = (let low = is.0 in omega arith, let high = is.1 in omega arith)

module _ (monitors : List Monitor) (rules : List OnValue) (text : List ℕ) where
  -- the lines by a number of either
  pub trace_by_step : IfErr (trace_of text) IsRoutedRefusal
  trace_by_step = more_numbered IsTraceRefusal IsRoutedRefusal (trace_of text) (λ refusal is. inl is) (trace_numbered text)

  -- and their routing
  pub route_by_step : (lines : List TraceLine) → IfErr (route_of monitors rules text lines) IsRoutedRefusal
  route_by_step lines = more_numbered IsRoutingRefusal IsRoutedRefusal (route_of monitors rules text lines) (λ refusal is. inr is) (route_numbered monitors rules text lines)

  -- a trace and what it is routed to
  pub routed_numbered : IfErr (and_then (trace_of text) (route_of monitors rules text)) IsRefusal
  routed_numbered = more_numbered IsRoutedRefusal IsRefusal (and_then (trace_of text) (route_of monitors rules text)) routed_are_refusals (then_numbered IsRoutedRefusal (trace_of text) (route_of monitors rules text) trace_by_step route_by_step)
