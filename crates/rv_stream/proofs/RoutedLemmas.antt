-- What a trace is routed to, as its file tells it, from what its text is routed to.
use Rattle.std.proofs.Common.{◌≡◌, ℕ, List, sym, ◌∙◌, subst}
use Rattle.std.specs.Prelude.{Option, Result, Ok, Err, IfOk, OnOk}
use Rattle.rv_io.specs.Files.{Files}
use Rattle.rv_text.specs.Readings.{and_then}
use Rattle.rv_text.specs.TextLines.{LineText, lines_of}
use Rattle.rv_bind.specs.declared.fault.BindFault.{BindFault}
use Rattle.rv_bind.specs.Outcomes.{Outcome, ReadsOutcome, of_file}
use Rattle.rv_bind.specs.Possible.{MayCome, MayRead}
use Rattle.rv_bind.specs.Values.{BoundValue}
use Rattle.rv_bind.proofs.OutcomeLemmas.{none_counted}
use Rattle.rv_route.specs.Routing.{RoutedValue, route_of}
use Rattle.rv_trace.specs.Traces.{trace_of}
use Rattle.rv_stream.specs.inner.Faults.{IsOutcome}
use Rattle.rv_stream.specs.inner.Feeding.{IsAll}
use Rattle.rv_stream.specs.Observing.{ObservesTrace}
use Rattle.rv_stream.specs.RoutedTraces.{routed_text, routed_in}
use Rattle.rv_stream.proofs.BlamesLemmas.{tells_named}
use Rattle.rv_stream.proofs.FrontLemmas.{of_file-and_then}
use Rattle.rv_stream.proofs.PossibleLemmas.{tells_may}
use Rattle.rv_stream.proofs.RefinesLemmas.{routed_comes}

module _ {X : Type 0} (view : X → RoutedValue) (trace text : List ℕ) (bound : BoundValue) (result : Result X BindFault)
    (tells : IsOutcome view result (of_file trace (and_then (trace_of text) (route_of bound.monitors bound.rules text)))) where
  -- in the words of the trace's text
  told_by_text : IsOutcome view result (routed_text trace bound text)
  told_by_text = subst (λ (o : Outcome RoutedValue). IsOutcome view result o) (of_file-and_then trace (trace_of text) (route_of bound.monitors bound.rules text)) tells

  -- the file comes to it
  pub trace_reads : (told left : Option Files) (before now : ℕ) → left ≡ told → now ≡ before → IsAll told trace text → ReadsOutcome view told left before now result (λ files. routed_in files trace bound)
  trace_reads told left before now kept same all = record {
    kept = kept;
    counts = none_counted before now result same;
    value = routed_comes told trace text bound all view before now result told_by_text;
    named = tells_named told view result (of_file trace (and_then (trace_of text) (route_of bound.monitors bound.rules text))) (λ files. routed_in files trace bound) tells;
  }

  -- some text comes to it
  pub trace_may : MayCome view result (MayRead trace (routed_text trace bound))
  trace_may = tells_may view trace text (routed_text trace bound) result told_by_text

-- what was routed of a text was observed with its lines
pub trace_observed : {X O : Type 0} (view : X → RoutedValue) (observed : List LineText → O → Type 0) (told : Option Files) (trace text : List ℕ) (bound : BoundValue) (result : Result X BindFault) (o : O)
    → IsOutcome view result (of_file trace (and_then (trace_of text) (route_of bound.monitors bound.rules text))) → IsAll told trace text → OnOk result (observed (lines_of text) o)
    → IfOk result (λ routed. ObservesTrace observed told trace bound (view routed) o)
trace_observed view observed told trace text bound (Ok routed) o tells all lines = record {
  text = text;
  routes = sym (of_file-and_then trace (trace_of text) (route_of bound.monitors bound.rules text)) ∙ tells;
  lines = lines;
  whole = all;
}
trace_observed view observed told trace text bound (Err fault) o tells all lines = tt
