-- A lane is seated, after those behind it.
use Rattle.std.proofs.Common.{ℕ, List, [], ◌∷◌, ◌++◌, ap, ◌∙◌, sym, subst, arith, refl}
use Rattle.rv_board.specs.Seats.{SeatValue}
use Rattle.rv_feed.specs.declared.feeder.Feeder.{Feeder}
use Rattle.rv_feed.specs.AtOnce.{AreSeated}
use Rattle.rv_feed.specs.Lane.{LaneValue}
use Rattle.rv_feed.proofs.SeatedLemmas.{CanSeat, seated-none, can-start, last-below, can-more, seated-more}
use Rattle.rv_feed.proofs.at_once.seat_lanes.Goals as goal

pub loop-lane-init : goal.loop-lane-init
loop-lane-init g c =
    let board = c.args.board.now in
    let lanes : List LaneValue = c.args.lanes.now.items in
    record {
      seated = subst (AreSeated {G = g.row.G.Denot} board c.args.seat.now.part.end c.args.seat.now lanes lanes) (sym c.in_ok-feeders.ensures.items) (seated-none board c.args.seat.now lanes c.requires.seat);
      can = can-start board c.args.seat.now lanes c.requires.end c.requires.fit c.requires.ascend;
      room = refl;
    }

pub seat_lane-requires-clause-range : goal.seat_lane-requires-clause-range
seat_lane-requires-clause-range g c =
    let board = c.args.board.now in
    let i = c.loop-lane.invariant in
    let can : CanSeat board.setup c.loop-lane.seat (c.pop.new.self.items ++ c.in-Some.lane ∷ []) = subst (CanSeat board.setup c.loop-lane.seat) c.in-Some.ensures.items i.can in
    (let z = i.seated.is_first.number in omega arith, last-below board c.loop-lane.seat c.loop-lane.seat c.pop.new.self.items c.in-Some.lane can)

pub loop-lane-preserved : goal.loop-lane-preserved
loop-lane-preserved g c =
    let board = c.args.board.now in
    let i = c.loop-lane.invariant in
    let old : SeatValue = c.loop-lane.seat in
    let new : SeatValue = c.seat_lane.new.seat in
    let left : List LaneValue = c.pop.new.self.items in
    let all : List LaneValue = c.args.lanes.now.items in
    let fs : List (Feeder g.row.G.Denot LaneValue) = c.loop-lane.feeders.items in
    let can : CanSeat board.setup old (left ++ c.in-Some.lane ∷ []) = subst (CanSeat board.setup old) c.in-Some.ensures.items i.can in
    let end : ℕ = c.args.seat.now.part.end in
    let are : AreSeated board end old all (left ++ c.in-Some.lane ∷ []) fs = subst (λ (z : List LaneValue). AreSeated board end old all z fs) c.in-Some.ensures.items i.seated in
    let made = c.seat_lane.ensures in
    let more = seated-more board old new left c.in-Some.lane can end all fs c.seat_lane.result are made.lane made.new made.old in
    record {
      seated = subst (AreSeated board end new all left) (sym c.in_ok-push.ensures.items) more;
      can = can-more board old new left c.in-Some.lane can (ap (λ (s : SeatValue). s.part.end) made.old);
      room = c.in-Some.ensures.capacity ∙ i.room;
    }
