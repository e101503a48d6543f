use Rattle.std.proofs.Common.{sym, ap, subst, arith}
use Rattle.rv_board.specs.Seats.{Closes}
use Rattle.rv_board.proofs.CallLemmas.{closes}
use Rattle.rv_board.proofs.MeetLemmas.{meets}
use Rattle.rv_board.proofs.SpacingLemmas.{front-place}
use Rattle.rv_journal.specs.CountedSeats.{CountedValue}
use Rattle.rv_journal.proofs.CountedCallLemmas.{saw-plain, seat-seen}
use Rattle.rv_journal.proofs.CountedTryLemmas.{counted-loads}
use Rattle.rv_journal.proofs.board.CountedBoard.close.Goals as goal

pub load-requires : goal.load-requires
load-requires c =
    let m = meets (ap (λ (f : CountedValue). f.seat) c.seat.view_is) c.requires c.self.view_is c.self.invariant in
    (m.table_is, m.front, counted-loads _ _ c.seat.invariant m.setup_is 0 (front-place _) (omega arith))

pub returns : goal.returns
returns c = subst (Closes c.args.seat.seat) (sym c.of.ensures) (closes (ap (λ (f : CountedValue). f.seat) c.seat.view_is) (saw-plain c.load.ensures.2.0.0))

pub invariant_of-seat : goal.invariant_of-seat
invariant_of-seat c = seat-seen c.seat.inside.token.me c.seat.invariant c.load.ensures.2.0 c.load.ensures.2.1
