-- The unread file that a part of the reading of a trace names is reached in the whole.
use Rattle.std.proofs.Common.{ℕ, List}
use Rattle.std.specs.Prelude.{Option, Result, Ok, Err}
use Rattle.rv_io.specs.Files.{Files}
use Rattle.rv_bind.specs.declared.fault.BindFault.{BindFault}
use Rattle.rv_bind.specs.declared.fault.BindFault.TheVariants as faults
use Rattle.rv_bind.specs.Values.{BoundValue}
use Rattle.rv_bind.specs.Outcomes.{Outcome, accepted, of_name, BlamesReached}
use Rattle.rv_bind.proofs.OutcomeLemmas.{of_name-reading}
use Rattle.rv_bind.proofs.ReachedLemmas.{step_named}
use Rattle.rv_stream.specs.inner.Faults.{IsOutcome}
use Rattle.rv_stream.specs.RoutedTraces.{routed_text, routed_in}

module _ (told : Option Files) where
  -- what a text comes to names no unread file
  pub tells_named : {X Y W : Type 0} (view : X → Y) (result : Result X BindFault) (text : Outcome Y) (outcome : Files → Outcome W) → IsOutcome view result text → BlamesReached told result outcome
  tells_named view (Ok x) text outcome tells = tt
  tells_named view (Err faults.Memory) text outcome tells = tt
  tells_named view (Err (faults.Refused file refusal)) text outcome tells = tt
  tells_named view (Err (faults.Unread file)) text outcome tells = absurd tells

  -- an unread trace is read by its file
  pub trace_named : (X Z : Type 0) (trace : List ℕ) (bound : BoundValue) (fault : BindFault) → BlamesReached {X = X} told (Err fault) (λ files. of_name files trace accepted) → BlamesReached {X = Z} told (Err fault) (λ files. routed_in files trace bound)
  trace_named X Z trace bound fault =
      step_named X Z told fault (λ files. of_name files trace accepted) (λ files text. routed_text trace bound text) (λ files. routed_in files trace bound) (λ files. of_name-reading files trace (routed_text trace bound))
