-- That the generated trace is accepted under the generated bindings, and that only one CPU has deliveries for each slot of it.
use Rattle.std.specs.Prelude.{◌≡◌, ◌≤◌, ℕ, List, length, map, Ok}
use Rattle.rv_trace.specs.declared.line.TraceLine.{TraceLine}
use Rattle.rv_trace.specs.Traces.{trace_of}
use Rattle.rv_slots.specs.Shapes.{count_of}
use Rattle.rv_gen.specs.declared.files.TheConstants.{MAX_BLOCKS}
use Rattle.rv_gen.specs.Generated.{trace_text}
use Rattle.rv_route.specs.Routing.{RoutedValue, route_of}
use Rattle.rv_laws.specs.SingleWriter.{HasOneWriter}
use Rattle.rv_generated.specs.GeneratedBound.{generated_bound}

-- how many slots each monitor has for so many tasks
abbrev pub generated_shape : ℕ → List ℕ
generated_shape tasks = map (count_of tasks) (map (λ m. m.scope) generated_bound.monitors)

-- the trace is read and routed, and no two CPUs have deliveries for one slot
pub record IsAccepted (blocks : ℕ) : Type 0 where
  pub lines : List TraceLine
  pub routed : RoutedValue
  pub read : trace_of (trace_text blocks) ≡ Ok lines
  pub routes : route_of generated_bound.monitors generated_bound.rules (trace_text blocks) lines ≡ Ok routed
  pub one_writer : (slot : ℕ) → HasOneWriter (generated_shape (length routed.tasks)) routed.works slot

-- a law: so it is for each number of blocks that may be asked for
abbrev pub TraceIsAccepted : Type 0
TraceIsAccepted = (blocks : ℕ) → blocks ≤ MAX_BLOCKS → IsAccepted blocks
