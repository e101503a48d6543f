use Rattle.std.proofs.Common.{◌≡◌, length}
use Rattle.std.specs.List.{All}
use Rattle.rv_text.specs.inner.LinePlaces.{StandsIn}
use Rattle.rv_trace.specs.Traces.{all_read, trace_of}
use Rattle.rv_text.specs.Readings.{onto}
use Rattle.rv_trace.proofs.trace.read_trace.Given as goal

abbrev pub invariant-loop-line : goal.invariant-loop-line
invariant-loop-line l = (trace_of l.bytes ≡ onto l.lines.items (all_read l.cursor)) × All (StandsIn l.bytes) l.cursor

abbrev pub decreases-loop-line : goal.decreases-loop-line
decreases-loop-line l = length l.cursor
