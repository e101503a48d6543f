-- One reading more, after which the watcher goes on or ends.
use Rattle.std.proofs.Common.{◌+◌, arith}
use Rattle.rv_watch.proofs.WatchLemmas.{way-starts, way-passes, way-reads, way-goes, way-ends}
use Rattle.rv_watch.proofs.watcher.watch.Goals as goal

pub loop-reading-init : goal.loop-reading-init
loop-reading-init g c = record { way = way-starts c.args.board.now c.args.watcher.now c.number.ensures.sound c.requires }

pub read-requires : goal.read-requires
read-requires g c =
    let old = c.args.watcher.now in
    let n = c.loop-reading.reading in
    way-reads c.args.board.now old _ n c.requires (way-passes old c.loop-reading.watcher n c.pass.new.self c.loop-reading.invariant.way)

pub loop-reading-preserved : goal.loop-reading-preserved
loop-reading-preserved g c =
    let old = c.args.watcher.now in
    let n = c.loop-reading.reading in
    record { way = way-goes old _ c.read.new.watcher n (n + 1) (way-passes old c.loop-reading.watcher n c.pass.new.self c.loop-reading.invariant.way) c.read.ensures }

pub returns-then-load : goal.returns-then-load
returns-then-load g c =
    let old = c.args.watcher.now in
    let n = c.loop-reading.reading in
    way-ends old c.read.new.watcher (n + 1) (omega arith) (way-goes old _ c.read.new.watcher n (n + 1) (way-passes old c.loop-reading.watcher n c.pass.new.self c.loop-reading.invariant.way) c.read.ensures)
