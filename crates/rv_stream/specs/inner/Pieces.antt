-- A trace that is read and routed line by line: what has come of the text that was passed.
use Rattle.std.specs.Prelude.{◌≡◌, ◌≤◌, ℕ, List, [], ◌∷◌, ◌++◌, take, Option, Some, None, Result, Ok}
use Rattle.rv_text.specs.declared.refusals.Refusal.{Refusal}
use Rattle.rv_text.specs.declared.refusals.Refused.{Refused}
use Rattle.rv_text.specs.Readings.{Refuses}
use Rattle.rv_text.specs.TextLines.{LineText, lines_of}
use Rattle.rv_trace.specs.declared.line.TraceLine.{TraceLine}
use Rattle.rv_trace.specs.Streams.{Stream}
use Rattle.rv_trace.specs.Traces.{trace_of}
use Rattle.rv_bind.specs.declared.bindings.Bindings.{Bindings}
use Rattle.rv_route.specs.Fitting.{NumbersAscend}
use Rattle.rv_route.specs.Routers.{RouterValue, IsFor}
use Rattle.rv_route.specs.LineByLine.{Routes, routes_of, no_routes}

-- the text that was passed of a stream
abbrev pub passed_text : Stream → List ℕ
passed_text s = take s.taken s.fed

-- what was routed, or why a line was refused
abbrev pub RoutedAs : Option Refused → Result Routes Refusal → Routes → Type 0
RoutedAs None read routes = read ≡ Ok routes
RoutedAs (Some refused) read routes = Refuses refused read

-- the lines of the text were given to the router, and this is the refusal that it gave, if any
pub record IsRouted (bindings : Bindings) (text : List ℕ) (router : RouterValue) (late : Option Refused) : Type 0 where
  pub lines : List TraceLine
  pub read : trace_of text ≡ Ok lines
  pub made : IsFor bindings router
  pub next : (line : TraceLine) → NumbersAscend (lines ++ line ∷ []) → router.next ≤ line.number
  pub late_is : late ≡ router.refused
  pub routed : RoutedAs router.refused (routes_of text bindings.monitors.items bindings.rules.items lines no_routes) router.routes

-- the lines of the text that was passed were observed
abbrev pub IsTold : {O : Type 0} → (List LineText → O → Type 0) → Stream → O → Type 0
IsTold observed s o = observed (lines_of (passed_text s)) o
