-- The board's history is that of the run.
use denote.Param.Send.{sendable}
use Rattle.std.proofs.Common.{◌≡◌, List, sym, ap, ◌∙◌, subst, arith}
use Rattle.std.specs.Prelude.{All}
use Rattle.std.proofs.Crossing.{crosses}
use Rattle.std.proofs.lemmas.List.Elements.{All-weaker}
use Rattle.rv_model.specs.Setups.{Setup}
use Rattle.rv_core.proofs.JudgedLemmas.{are-judges}
use Rattle.rv_board.specs.Seats.{SeatValue}
use Rattle.rv_board.proofs.ListLemmas.{lent}
use Rattle.rv_feed.specs.declared.feeder.Feeder.{Feeder}
use Rattle.rv_feed.specs.AtOnce.{IsSeated}
use Rattle.rv_feed.specs.Feeders.{FitsFeeder, RunsFeeder}
use Rattle.rv_feed.specs.Lane.{LaneValue, FitsLane, panics_of}
use Rattle.rv_feed.proofs.feeder.Feeder.TheSendSync.{the_send as feeder-send}
use Rattle.rv_feed.proofs.recording.RecordingLane.TheSendSync.{the_send as lane-send}
use Rattle.rv_feed.proofs.AtOnceLemmas.{ran-on, ran-room, fed-from, works-back, fed-legal}
use Rattle.rv_feed.proofs.at_once.feed.Goals as goal

pub seat_lanes-requires-clause-seat : goal.seat_lanes-requires-clause-seat
seat_lanes-requires-clause-seat g c = record {
  board_is = ap (λ (s : SeatValue). s.board) c.in_ok-board.ensures.seat;
  number = ap (λ (s : SeatValue). s.part.number) c.in_ok-board.ensures.seat;
  end = let end : c.in_ok-board.field-0.seat.part.end ≡ 67 = ap (λ (s : SeatValue). s.part.end) c.in_ok-board.ensures.seat in omega arith;
  seen = ap (λ (s : SeatValue). s.part.seen) c.in_ok-board.ensures.seat;
}

pub seat_lanes-requires-clause-fit : goal.seat_lanes-requires-clause-fit
seat_lanes-requires-clause-fit g c = subst (λ (s : Setup). All (FitsLane s) c.args.lanes.items) (sym c.in_ok-board.ensures.board) c.requires.fit

pub split-requires-clause-board : goal.split-requires-clause-board
split-requires-clause-board g c = c.in_ok-feeders.ensures.feeders.is_first.board_is

pub split-requires-clause-range : goal.split-requires-clause-range
split-requires-clause-range g c = let number = c.in_ok-feeders.ensures.feeders.is_first.number in (omega arith, c.in_ok-feeders.ensures.feeders.is_first.end)

pub run_all-requires : goal.run_all-requires
run_all-requires g c =
    let board = c.in_ok-board.field-0.board in
    let fs : List (Feeder g.row.G.Denot LaneValue) = c.in_ok-feeders.feeders.items in
    let send = c.type_bounds.send-G in
    let keeps = c.type_bounds.send-C in (
      send,
      (
        search (sendable, crosses, feeder-send, lane-send) depth 20,
        (
          c.type_bounds.sync-R,
          (
            subst (All (FitsFeeder board)) (sym c.as_mut_slice.ensures.value) (All-weaker (IsSeated board) (FitsFeeder board) (λ f seated. seated.fits) fs c.in_ok-feeders.ensures.feeders.seated),
            record {
              seat_is = record {
                board_is = ap (λ (s : SeatValue). s.board) c.split.ensures.new ∙ c.in_ok-feeders.ensures.feeders.is_first.board_is;
                actor = ap (λ (s : SeatValue). s.part.number) c.split.ensures.new;
              };
              below_halt = c.requires.changes;
            },
          ),
        ),
      ),
    )

pub join-requires-clause-into : goal.join-requires-clause-into
join-requires-clause-into g c = ap (λ (s : SeatValue). s.board) c.split.ensures.old ∙ c.in_ok-feeders.ensures.feeders.is_first.board_is

pub join-requires-clause-from : goal.join-requires-clause-from
join-requires-clause-from g c = c.run_all.ensures.changer.does.grows.board ∙ ap (λ (s : SeatValue). s.board) c.split.ensures.new ∙ c.in_ok-feeders.ensures.feeders.is_first.board_is

pub join_all-requires-clause-into : goal.join_all-requires-clause-into
join_all-requires-clause-into g c = c.join.ensures.board ∙ ap (λ (s : SeatValue). s.board) c.split.ensures.old ∙ c.in_ok-feeders.ensures.feeders.is_first.board_is

pub join_all-requires-clause-seats : goal.join_all-requires-clause-seats
join_all-requires-clause-seats g c =
    let ran = lent (RunsFeeder (panics_of c.args.reactors.now)) _ _ _ c.run_all.new.feeders c.in_ok-feeders.feeders.ok.0 c.as_mut_slice.ensures.value c.run_all.ensures.feeders in
    ran-on c.in_ok-board.field-0.board _ _ _ c.in_ok-feeders.ensures.feeders.seated ran

pub join_all-requires-clause-room : goal.join_all-requires-clause-room
join_all-requires-clause-room g c =
    let ran = lent (RunsFeeder (panics_of c.args.reactors.now)) _ _ _ c.run_all.new.feeders c.in_ok-feeders.feeders.ok.0 c.as_mut_slice.ensures.value c.run_all.ensures.feeders in
    ran-room _ _ _ _ c.in_ok-feeders.ensures.feeders.lanes_are ran c.in_ok-feeders.ensures.empty c.in_ok-feeders.ensures.room

pub close-requires : goal.close-requires
close-requires g c = c.join_all.ensures.board

pub returns-clause-legal : goal.returns-clause-legal
returns-clause-legal g c = λ specs mean.
    let ran = lent (RunsFeeder (panics_of c.args.reactors.now)) _ _ _ c.run_all.new.feeders c.in_ok-feeders.feeders.ok.0 c.as_mut_slice.ensures.value c.run_all.ensures.feeders in
    let fed =
    fed-from c.args.changes.items c.in_ok-feeders.ensures.feeders (ap (λ (s : SeatValue). s.part.end) c.in_ok-board.ensures.seat) c.split.ensures.old c.split.ensures.new ran c.run_all.ensures.changer.does c.join.ensures c.join_all.ensures.into c.join_all.ensures.seats c.join_all.ensures.board c.close.ensures in
    fed-legal c.in_ok-board.field-0.board (panics_of c.args.reactors.now) c.close.result fed specs c.in_ok-board.ensures.board c.in_ok-feeders.ensures.feeders.lanes_are c.join_all.ensures.lanes c.in_ok-feeders.ensures.empty
    (are-judges specs c.args.setup.tables c.assert_invariant.ensures.are_tables mean)

pub returns-clause-works : goal.returns-clause-works
returns-clause-works g c =
    let ran = lent (RunsFeeder (panics_of c.args.reactors.now)) _ _ _ c.run_all.new.feeders c.in_ok-feeders.feeders.ok.0 c.as_mut_slice.ensures.value c.run_all.ensures.feeders in
    let fed =
    fed-from c.args.changes.items c.in_ok-feeders.ensures.feeders (ap (λ (s : SeatValue). s.part.end) c.in_ok-board.ensures.seat) c.split.ensures.old c.split.ensures.new ran c.run_all.ensures.changer.does c.join.ensures c.join_all.ensures.into c.join_all.ensures.seats c.join_all.ensures.board c.close.ensures in
    works-back c.in_ok-board.field-0.board (panics_of c.args.reactors.now) c.close.result fed c.in_ok-feeders.ensures.feeders.lanes_are c.join_all.ensures.lanes c.in_ok-feeders.ensures.empty
