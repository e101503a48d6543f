-- By which numbers a trace may be refused, on any store.
use Rattle.std.proofs.Common.{◌≡◌, ℕ, List, sym, subst}
use Rattle.std.specs.Prelude.{Some, None}
use Rattle.rv_trace.specs.Traces.{trace_of}
use Rattle.rv_bind.specs.Outcomes.{Outcome, of_file, IsRefusedBy}
use Rattle.rv_bind.specs.Possible.{MayRead}
use Rattle.rv_bind.specs.Values.{BoundValue}
use Rattle.rv_bind.proofs.RefusedLemmas.{reading_refused, file_refused}
use Rattle.rv_route.specs.Routing.{RoutedValue, route_of}
use Rattle.rv_stream.specs.Numbers.{IsRoutedNumber}
use Rattle.rv_stream.specs.RoutedTraces.{routed_text}
use Rattle.rv_stream.proofs.NumberLemmas.{trace_by_step, route_by_step}

module _ (trace : List ℕ) (bound : BoundValue) where
  -- what a text comes to
  text_refused : (text : List ℕ) → IsRefusedBy IsRoutedNumber (routed_text trace bound text)
  text_refused text =
      reading_refused IsRoutedNumber (of_file trace (trace_of text)) (λ lines. of_file trace (route_of bound.monitors bound.rules text lines))
      (file_refused IsRoutedNumber trace (trace_of text) (trace_by_step bound.monitors bound.rules text))
      (λ lines. file_refused IsRoutedNumber trace (route_of bound.monitors bound.rules text lines) (route_by_step bound.monitors bound.rules text lines))

  -- the trace
  pub trace_refused_by : (o : Outcome RoutedValue) → MayRead trace (routed_text trace bound) o → IsRefusedBy IsRoutedNumber o
  trace_refused_by o (None, is) = subst (IsRefusedBy IsRoutedNumber) (sym is) tt
  trace_refused_by o (Some text, is) = subst (IsRefusedBy IsRoutedNumber) (sym is) (text_refused text)
