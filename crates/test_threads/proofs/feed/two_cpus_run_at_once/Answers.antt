-- Both feeders fit the board.
use Rattle.std.proofs.Common.{[], ◌∷◌}
use Rattle.std.proofs.lemmas.List.Elements.{All-nil, All-cons}
use Rattle.rv_feed.specs.declared.feeder.Feeder.{Feeder}
use Rattle.test_threads.specs.declared.feed.Meeting.{Meeting}
use Rattle.rv_feed.specs.Feeders.{FitsFeeder}
use Rattle.rv_feed.specs.Lane.{LaneValue}
use Rattle.test_threads.proofs.feed.two_cpus_run_at_once.Goals as goal

pub run_feeders-requires-clause-feeders : goal.run_feeders-requires-clause-feeders
run_feeders-requires-clause-feeders g c κs =
    let fits : Feeder Meeting LaneValue → Type 0 = FitsFeeder c.in_ok-board.field-0.board in
    let two : Feeder Meeting LaneValue = c.in_ok-feeder_of-2.field-0 in
    All-cons fits c.in_ok-feeder_of.field-0 (two ∷ []) c.in_ok-feeder_of.ensures (All-cons fits two [] c.in_ok-feeder_of-2.ensures (All-nil fits))
