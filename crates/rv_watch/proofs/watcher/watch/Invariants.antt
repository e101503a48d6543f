-- What the watcher has come to after the readings so far.
use Rattle.rv_watch.proofs.WatchLemmas.{IsUnderWay}
use Rattle.rv_watch.proofs.watcher.watch.Given as goal

abbrev pub invariant-loop-reading : goal.invariant-loop-reading
invariant-loop-reading g l = record {
  way : IsUnderWay l.fn.watcher l.watcher l.reading;
}
