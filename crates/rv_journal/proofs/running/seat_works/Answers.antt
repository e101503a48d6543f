-- A work is seated, after those behind it.
use Rattle.std.proofs.Common.{List, [], ◌∷◌, ◌++◌, sym, subst}
use Rattle.rv_model.specs.Works.{Work}
use Rattle.rv_board.specs.Seats.{SeatValue}
use Rattle.rv_journal.specs.declared.feeding.CountedFeeder.{CountedFeeder}
use Rattle.rv_journal.specs.inner.Running.{AreCountedSeated}
use Rattle.rv_journal.proofs.SeatWorkLemmas.{CanSeatWorks, works-seated-none, works-can-start, last-work-fits, last-work-below, works-can-more, works-seated-more}
use Rattle.rv_journal.proofs.running.seat_works.Goals as goal

pub loop-work-init : goal.loop-work-init
loop-work-init g c =
    let board = c.args.board.now in
    let works : List Work = c.args.works.items in
    record {
      seated = subst (AreCountedSeated {G = g.row.G.Denot} board c.args.seat.now.seat works works) (sym c.new-feeders.ensures.items) (works-seated-none board c.args.seat.now works c.requires.seat);
      can = works-can-start board c.args.seat.now works c.requires.seat c.requires.fit c.requires.ascend;
    }

pub seat_work-requires-clause-work : goal.seat_work-requires-clause-work
seat_work-requires-clause-work g c =
    let board = c.args.board.now in
    let old : SeatValue = c.loop-work.seat.seat in
    let can : CanSeatWorks board.setup old (c.pop.new.self.items ++ c.in-Some.work ∷ []) = subst (CanSeatWorks board.setup old) c.in-Some.ensures.items c.loop-work.invariant.can in
    last-work-fits board old old c.pop.new.self.items c.in-Some.work can

pub seat_work-requires-clause-below : goal.seat_work-requires-clause-below
seat_work-requires-clause-below g c =
    let board = c.args.board.now in
    let old : SeatValue = c.loop-work.seat.seat in
    let can : CanSeatWorks board.setup old (c.pop.new.self.items ++ c.in-Some.work ∷ []) = subst (CanSeatWorks board.setup old) c.in-Some.ensures.items c.loop-work.invariant.can in
    last-work-below board old old c.pop.new.self.items c.in-Some.work can

pub loop-work-preserved : goal.loop-work-preserved
loop-work-preserved g c =
    let board = c.args.board.now in
    let old : SeatValue = c.loop-work.seat.seat in
    let new : SeatValue = c.seat_work.new.seat.seat in
    let left : List Work = c.pop.new.self.items in
    let all : List Work = c.args.works.items in
    let fs : List (CountedFeeder g.row.G.Denot) = c.loop-work.feeders.items in
    let can : CanSeatWorks board.setup old (left ++ c.in-Some.work ∷ []) = subst (CanSeatWorks board.setup old) c.in-Some.ensures.items c.loop-work.invariant.can in
    let are : AreCountedSeated board old all (left ++ c.in-Some.work ∷ []) fs = subst (λ (z : List Work). AreCountedSeated board old all z fs) c.in-Some.ensures.items c.loop-work.invariant.seated in
    let made = c.in_ok-push.ensures in
    record {
      seated = subst (AreCountedSeated board new all left) (sym c.in_ok-push.ensures.items) (works-seated-more board old new left c.in-Some.work can all fs c.in_ok-seat_work.field-0 are c.in_ok-seat_work.ensures);
      can = works-can-more board old new left c.in-Some.work can c.in_ok-seat_work.ensures.end;
    }
