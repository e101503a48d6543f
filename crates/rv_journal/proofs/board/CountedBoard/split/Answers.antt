-- The board allows the cut, and both seats keep what a seat keeps.
use Rattle.std.proofs.Common.{ap, arith}
use Rattle.rv_board.proofs.MeetLemmas.{cut_range}
use Rattle.rv_board.proofs.SplitLemmas.{splits_with}
use Rattle.rv_journal.specs.inner.CountedWords.{counted_at, also_counted}
use Rattle.rv_journal.specs.CountedSeats.{CountedValue}
use Rattle.rv_journal.proofs.CountedSeatLemmas.{seat-below, seat-above}
use Rattle.rv_journal.proofs.board.CountedBoard.split.Goals as goal

pub cut-token-requires-clause-allowed : goal.cut-token-requires-clause-allowed
cut-token-requires-clause-allowed c =
    let range = cut_range (ap (λ (f : CountedValue). f.seat) c.seat.view_is) c.requires.range in
    let low = range.0 in
    let high = range.1 in
    let k = c.self.inside.table.shared.key in
    splits_with counted_at (also_counted k) (λ history old new is. is) k c.seat.inside.token.id c.seat.inside.token.me.0 c.args.number (omega arith) (omega arith)

pub invariant_of-seat : goal.invariant_of-seat
invariant_of-seat c = seat-below c.seat.inside.token.me c.seat.invariant (cut_range (ap (λ (f : CountedValue). f.seat) c.seat.view_is) c.requires.range) c.cut-token.ensures.old.1

pub invariant_of-result : goal.invariant_of-result
invariant_of-result c = seat-above c.seat.inside.token.me c.seat.invariant (cut_range (ap (λ (f : CountedValue). f.seat) c.seat.view_is) c.requires.range) c.cut-token.ensures.new.1
