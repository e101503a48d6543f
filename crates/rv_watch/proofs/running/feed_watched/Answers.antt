-- The board's history is that of the run, and the watcher's words are the slot's along it.
use denote.Param.Send.{sendable}
use Rattle.std.proofs.Common.{◌≡◌, ◌<◌, Bool, ℕ, List, ◌++◌, length, sum, sym, ap, ◌∙◌, subst, arith}
use Rattle.std.specs.Prelude.{take, drop, All}
use Rattle.std.proofs.Crossing.{crosses}
use Rattle.std.proofs.lemmas.List.Elements.{All-weaker}
use Rattle.rv_model.specs.Setups.{Setup}
use Rattle.rv_core.proofs.JudgedLemmas.{are-judges}
use Rattle.rv_board.specs.Seats.{SeatValue}
use Rattle.rv_board.proofs.ListLemmas.{lent}
use Rattle.rv_feed.specs.declared.feeder.Feeder.{Feeder}
use Rattle.rv_feed.specs.AtOnce.{IsSeated, lanes_of}
use Rattle.rv_feed.specs.Feeders.{FitsFeeder, RunsFeeder}
use Rattle.rv_feed.specs.Lane.{LaneValue, FitsLane, panics_of, works_of}
use Rattle.rv_feed.proofs.feeder.Feeder.TheSendSync.{the_send as feeder-send}
use Rattle.rv_feed.proofs.recording.RecordingLane.TheSendSync.{the_send as lane-send}
use Rattle.rv_feed.proofs.AtOnceLemmas.{ran-on, ran-many}
use Rattle.rv_watch.proofs.RunLemmas.{IsRun, run-works, run-promised, legal-of-watched}
use Rattle.rv_watch.proofs.running.feed_watched.Goals as goal

pub split-own-requires-clause-board : goal.split-own-requires-clause-board
split-own-requires-clause-board g c = ap (λ (s : SeatValue). s.board) c.in_ok-board.ensures.seat

pub split-own-requires-clause-range : goal.split-own-requires-clause-range
split-own-requires-clause-range g c =
    let number : c.in_ok-board.field-0.seat.part.number ≡ 0 = ap (λ (s : SeatValue). s.part.number) c.in_ok-board.ensures.seat in
    let end : c.in_ok-board.field-0.seat.part.end ≡ 67 = ap (λ (s : SeatValue). s.part.end) c.in_ok-board.ensures.seat in
    (omega arith, omega arith)

pub seat_lanes-requires-clause-seat : goal.seat_lanes-requires-clause-seat
seat_lanes-requires-clause-seat g c = record {
  board_is = ap (λ (s : SeatValue). s.board) c.split-own.ensures.old ∙ ap (λ (s : SeatValue). s.board) c.in_ok-board.ensures.seat;
  number = ap (λ (s : SeatValue). s.part.number) c.split-own.ensures.old ∙ ap (λ (s : SeatValue). s.part.number) c.in_ok-board.ensures.seat;
  end = let end : c.split-own.new.seat.part.end ≡ 66 = ap (λ (s : SeatValue). s.part.end) c.split-own.ensures.old in omega arith;
  seen = ap (λ (s : SeatValue). s.part.seen) c.split-own.ensures.old ∙ ap (λ (s : SeatValue). s.part.seen) c.in_ok-board.ensures.seat;
}

pub seat_lanes-requires-clause-fit : goal.seat_lanes-requires-clause-fit
seat_lanes-requires-clause-fit g c = subst (λ (s : Setup). All (FitsLane s) c.args.lanes.items) (sym c.in_ok-board.ensures.board) c.requires.fit

pub run_watched-requires : goal.run_watched-requires
run_watched-requires g c =
    let board = c.in_ok-board.field-0.board in
    let fs : List (Feeder g.row.G.Denot LaneValue) = c.in_ok-feeders.feeders.items in
    let send = c.type_bounds.send-G in
    let keeps = c.type_bounds.send-C in (
      send,
      (
        search (sendable, crosses, feeder-send, lane-send) depth 20,
        (
          c.type_bounds.sync-R,
          (
            subst (All (FitsFeeder board)) (sym c.as_mut_slice.ensures.value) (All-weaker (IsSeated board) (FitsFeeder board) (λ f seated. seated.fits) fs c.in_ok-feeders.ensures.feeders.seated),
            record {
              board_is = ap (λ (s : SeatValue). s.board) (c.in_ok-watcher.ensures.seat_is ∙ c.split-own.ensures.new) ∙ ap (λ (s : SeatValue). s.board) c.in_ok-board.ensures.seat;
              slot_is = subst (λ (n : ℕ). n < sum board.setup.shape) (sym c.in_ok-watcher.ensures.slot_is) (subst (λ (s : Setup). c.args.slot < sum s.shape) (sym c.in_ok-board.ensures.board) c.requires.slot);
              no_words = c.in_ok-watcher.ensures.no_words;
              room = c.in_ok-watcher.ensures.room;
            },
          ),
        ),
      ),
    )

pub join_all-requires-clause-into : goal.join_all-requires-clause-into
join_all-requires-clause-into g c = c.in_ok-feeders.ensures.feeders.is_first.board_is

pub join_all-requires-clause-seats : goal.join_all-requires-clause-seats
join_all-requires-clause-seats g c =
    let board = c.in_ok-board.field-0.board in
    let panics : ℕ → Bool = panics_of c.args.reactors.now in
    let fs : List (Feeder g.row.G.Denot LaneValue) = c.in_ok-feeders.feeders.items in
    let fs' : List (Feeder g.row.G.Denot LaneValue) = take c.in_ok-feeders.feeders.len (c.run_watched.new.feeders ++ drop (length c.run_watched.new.feeders) fs) in
    let ran = lent (RunsFeeder panics) c.in_ok-feeders.feeders.len fs c.as_mut_slice.result.now c.run_watched.new.feeders c.in_ok-feeders.feeders.ok.0 c.as_mut_slice.ensures.value c.run_watched.ensures.feeders in
    ran-on board panics fs fs' c.in_ok-feeders.ensures.feeders.seated ran

pub join_all-requires-clause-room : goal.join_all-requires-clause-room
join_all-requires-clause-room g c =
    let board = c.in_ok-board.field-0.board in
    let panics : ℕ → Bool = panics_of c.args.reactors.now in
    let fs : List (Feeder g.row.G.Denot LaneValue) = c.in_ok-feeders.feeders.items in
    let fs' : List (Feeder g.row.G.Denot LaneValue) = take c.in_ok-feeders.feeders.len (c.run_watched.new.feeders ++ drop (length c.run_watched.new.feeders) fs) in
    let ran = lent (RunsFeeder panics) c.in_ok-feeders.feeders.len fs c.as_mut_slice.result.now c.run_watched.new.feeders c.in_ok-feeders.feeders.ok.0 c.as_mut_slice.ensures.value c.run_watched.ensures.feeders in
    let many = ran-many panics c.args.lanes.items fs fs' c.in_ok-feeders.ensures.feeders.lanes_are ran in
    let none : length c.seat_lanes.new.lanes.items ≡ 0 = ap length c.in_ok-feeders.ensures.empty in
    let room = c.in_ok-feeders.ensures.room in
    omega arith

pub join-requires-clause-from : goal.join-requires-clause-from
join-requires-clause-from g c = c.run_watched.ensures.watcher.grows.board ∙ ap (λ (s : SeatValue). s.board) (c.in_ok-watcher.ensures.seat_is ∙ c.split-own.ensures.new) ∙ ap (λ (s : SeatValue). s.board) c.in_ok-board.ensures.seat

pub word-last-requires-clause-board : goal.word-last-requires-clause-board
word-last-requires-clause-board g c = c.join.ensures.board ∙ c.join_all.ensures.board

pub word-last-requires-clause-slot : goal.word-last-requires-clause-slot
word-last-requires-clause-slot g c = subst (λ (s : Setup). c.args.slot < sum s.shape) (sym c.in_ok-board.ensures.board) c.requires.slot

pub close-requires : goal.close-requires
close-requires g c = c.word-last.ensures.grows.board ∙ c.join.ensures.board ∙ c.join_all.ensures.board

pub returns-clause-words : goal.returns-clause-words
returns-clause-words g c = λ specs mean.
    let board = c.in_ok-board.field-0.board in
    let panics : ℕ → Bool = panics_of c.args.reactors.now in
    let fs : List (Feeder g.row.G.Denot LaneValue) = c.in_ok-feeders.feeders.items in
    let fs' : List (Feeder g.row.G.Denot LaneValue) = take c.in_ok-feeders.feeders.len (c.run_watched.new.feeders ++ drop (length c.run_watched.new.feeders) fs) in
    let ran = lent (RunsFeeder panics) c.in_ok-feeders.feeders.len fs c.as_mut_slice.result.now c.run_watched.new.feeders c.in_ok-feeders.feeders.ok.0 c.as_mut_slice.ensures.value c.run_watched.ensures.feeders in
    let run : IsRun board panics c.close.result c.args.slot c.word-last.result c.in_ok-board.field-0.seat c.split-own.new.seat c.split-own.result c.seat_lanes.new.seat c.join_all.new.into c.join.new.into c.word-last.new.seat c.args.lanes.items fs fs' c.in_ok-watcher.watcher c.run_watched.new.watcher = record {
      start_is = c.in_ok-board.ensures.seat;
      first_is = c.split-own.ensures.old;
      own_is = c.split-own.ensures.new;
      watcher_is = c.in_ok-watcher.ensures.seat_is;
      slot_is = c.in_ok-watcher.ensures.slot_is;
      seated = c.in_ok-feeders.ensures.feeders;
      ran = ran;
      watched = c.run_watched.ensures.watcher;
      permitted = c.join_all.ensures.into;
      feeders = c.join_all.ensures.seats;
      joins = c.join.ensures;
      reads = c.word-last.ensures.grows;
      last_is = c.word-last.ensures.word;
      closes = c.close.ensures;
      on = c.word-last.ensures.grows.board ∙ c.join.ensures.board ∙ c.join_all.ensures.board;
    } in
    let back : c.join_all.new.lanes.items ≡ lanes_of fs' = c.join_all.ensures.lanes ∙ ap (λ (z : List LaneValue). z ++ lanes_of fs') c.in_ok-feeders.ensures.empty in
    run-promised board panics c.close.result c.args.slot c.word-last.result c.in_ok-board.field-0.seat c.split-own.new.seat c.split-own.result c.seat_lanes.new.seat c.join_all.new.into c.join.new.into c.word-last.new.seat c.args.lanes.items fs fs' c.in_ok-watcher.watcher c.run_watched.new.watcher run
    c.args.setup c.join_all.new.lanes.items specs c.in_ok-board.ensures.board back (are-judges specs c.args.setup.tables c.assert_invariant.ensures.are_tables mean)

pub returns-clause-legal : goal.returns-clause-legal
returns-clause-legal g c = λ specs mean. legal-of-watched c.args.slot c.run_watched.new.watcher.words.items c.word-last.result _ _ c.close.result (returns-clause-words g c specs mean)

pub returns-clause-works : goal.returns-clause-works
returns-clause-works g c =
    let board = c.in_ok-board.field-0.board in
    let panics : ℕ → Bool = panics_of c.args.reactors.now in
    let fs : List (Feeder g.row.G.Denot LaneValue) = c.in_ok-feeders.feeders.items in
    let fs' : List (Feeder g.row.G.Denot LaneValue) = take c.in_ok-feeders.feeders.len (c.run_watched.new.feeders ++ drop (length c.run_watched.new.feeders) fs) in
    let ran = lent (RunsFeeder panics) c.in_ok-feeders.feeders.len fs c.as_mut_slice.result.now c.run_watched.new.feeders c.in_ok-feeders.feeders.ok.0 c.as_mut_slice.ensures.value c.run_watched.ensures.feeders in
    let run : IsRun board panics c.close.result c.args.slot c.word-last.result c.in_ok-board.field-0.seat c.split-own.new.seat c.split-own.result c.seat_lanes.new.seat c.join_all.new.into c.join.new.into c.word-last.new.seat c.args.lanes.items fs fs' c.in_ok-watcher.watcher c.run_watched.new.watcher = record {
      start_is = c.in_ok-board.ensures.seat;
      first_is = c.split-own.ensures.old;
      own_is = c.split-own.ensures.new;
      watcher_is = c.in_ok-watcher.ensures.seat_is;
      slot_is = c.in_ok-watcher.ensures.slot_is;
      seated = c.in_ok-feeders.ensures.feeders;
      ran = ran;
      watched = c.run_watched.ensures.watcher;
      permitted = c.join_all.ensures.into;
      feeders = c.join_all.ensures.seats;
      joins = c.join.ensures;
      reads = c.word-last.ensures.grows;
      last_is = c.word-last.ensures.word;
      closes = c.close.ensures;
      on = c.word-last.ensures.grows.board ∙ c.join.ensures.board ∙ c.join_all.ensures.board;
    } in
    let back : c.join_all.new.lanes.items ≡ lanes_of fs' = c.join_all.ensures.lanes ∙ ap (λ (z : List LaneValue). z ++ lanes_of fs') c.in_ok-feeders.ensures.empty in
    ap works_of back ∙ run-works board panics c.close.result c.args.slot c.word-last.result c.in_ok-board.field-0.seat c.split-own.new.seat c.split-own.result c.seat_lanes.new.seat c.join_all.new.into c.join.new.into c.word-last.new.seat c.args.lanes.items fs fs' c.in_ok-watcher.watcher c.run_watched.new.watcher run
