-- The lines so far were routed.
use Rattle.std.proofs.Common.{◌≡◌, ◌-◌, length}
use Rattle.rv_text.specs.TextLines.{lines_of}
use Rattle.rv_trace.specs.Streams.{part_read}
use Rattle.rv_stream.specs.inner.Pieces.{passed_text, IsRouted, IsTold}
use Rattle.rv_stream.proofs.routing.route_taken.Given as goal

abbrev pub invariant-loop-taken : goal.invariant-loop-taken
invariant-loop-taken g l = (l.lines.fed ≡ l.fn.lines.fed) × (l.lines.ended ≡ l.fn.lines.ended) × IsRouted l.bindings (passed_text l.lines) l.collector l.late × (l.collector.listed ≡ l.fn.collector.listed) × IsTold (g.O.LineObserver.observed l.context) l.lines l.observer

abbrev pub decreases-loop-taken : goal.decreases-loop-taken
decreases-loop-taken g l = length (lines_of (part_read l.lines.ended l.lines.fed)) - length (lines_of (passed_text l.lines))
