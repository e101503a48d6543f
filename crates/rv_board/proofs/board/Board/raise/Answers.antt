use Rattle.std.proofs.Common.{inl, ap, ◌∙◌, refl, arith}
use Rattle.rv_board.specs.Seats.{SeatValue}
use Rattle.rv_board.proofs.AllowedLemmas.{raises}
use Rattle.rv_board.proofs.CallLemmas.{acts-as}
use Rattle.rv_board.proofs.MeetLemmas.{meets}
use Rattle.rv_board.proofs.board.Board.raise.Goals as goal

pub fetch_or-requires : goal.fetch_or-requires
fetch_or-requires c =
    let m = meets c.seat.view_is c.requires.board c.self.view_is c.self.invariant in
    let few = c.requires.bits in
    (m.table_is, m.front, raises _ _ c.seat.invariant m.setup_is _ (omega arith) (inl (ap (λ (f : SeatValue). f.part.number) c.seat.view_is ∙ c.requires.actor)))

pub returns : goal.returns
returns c = acts-as refl c.seat.invariant c.seat.view_is c.fetch_or.ensures.0 c.fetch_or.ensures.2
