-- What a trace comes to under bindings, as its text and as its file.
use Rattle.std.specs.Prelude.{ℕ, List}
use Rattle.rv_io.specs.Files.{Files}
use Rattle.rv_trace.specs.Traces.{trace_of}
use Rattle.rv_bind.specs.Values.{BoundValue}
use Rattle.rv_bind.specs.Outcomes.{Outcome, reading, of_file, of_name}
use Rattle.rv_route.specs.Routing.{RoutedValue, route_of}

-- what the text of the trace comes to under the bindings: the trace by lines, then the routing by lines
abbrev pub routed_text : List ℕ → BoundValue → List ℕ → Outcome RoutedValue
routed_text trace bound text = reading (of_file trace (trace_of text)) (λ lines. of_file trace (route_of bound.monitors bound.rules text lines))

-- what the trace's file comes to under the bindings; it may be missing
abbrev pub routed_in : Files → List ℕ → BoundValue → Outcome RoutedValue
routed_in files trace bound = of_name files trace (routed_text trace bound)
