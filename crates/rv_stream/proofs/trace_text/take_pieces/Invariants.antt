-- What was fed so far is the front of the file, and its lines were routed.
use Rattle.std.proofs.Common.{◌-◌, ◌≡◌, ◌≤◌, length}
use Rattle.rv_io.specs.declared.store.TheConstants.{READ_LIMIT}
use Rattle.rv_stream.specs.inner.Feeding.{IsFileFed}
use Rattle.rv_stream.specs.inner.Pieces.{IsTold}
use Rattle.rv_stream.specs.inner.Routings.{MayBeFed}
use Rattle.rv_stream.proofs.trace_text.take_pieces.Given as goal

abbrev pub invariant-loop-place : goal.invariant-loop-place
invariant-loop-place g l =
    (g.S.Store.files l.store ≡ g.S.Store.files l.fn.store)
    × (g.S.Store.faults l.store ≡ g.S.Store.faults l.fn.store)
    × (l.place ≤ READ_LIMIT)
    × (length l.buffer ≡ length l.fn.buffer)
    × MayBeFed l.bound.bindings l.routing
    × IsFileFed (g.S.Store.files l.fn.store) l.trace l.place l.routing.lines.fed
    × (l.routing.collector.listed ≡ l.fn.routing.collector.listed)
    × IsTold (g.O.LineObserver.observed l.context) l.routing.lines l.observer

abbrev pub decreases-loop-place : goal.decreases-loop-place
decreases-loop-place g l = READ_LIMIT - l.place
