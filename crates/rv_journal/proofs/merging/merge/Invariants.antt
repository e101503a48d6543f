use Rattle.rv_journal.proofs.merging.merge.Given as goal

abbrev pub ghost-merge_lanes : goal.ghost-merge_lanes
ghost-merge_lanes a = a._seat.now.seat.part.seen
