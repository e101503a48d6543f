use Rattle.std.proofs.Common.{◌≡◌, ap, ◌∙◌, arith, w64}
use Rattle.std.specs.Int.{bit_not}
use Rattle.rv_model.specs.declared.entry.Act.TheVariants.{Lower}
use Rattle.rv_board.specs.Seats.{SeatValue}
use Rattle.rv_board.proofs.AllowedLemmas.{lowers}
use Rattle.rv_board.proofs.CallLemmas.{acts-as}
use Rattle.rv_board.proofs.MeetLemmas.{meets}
use Rattle.rv_board.proofs.board.Board.lower.Goals as goal

pub fetch_and-requires : goal.fetch_and-requires
fetch_and-requires c =
    let m = meets c.seat.view_is c.requires.board c.self.view_is c.self.invariant in
    (m.table_is, m.front, lowers _ _ c.seat.invariant m.setup_is _ (omega arith) (ap (λ (f : SeatValue). f.part.number) c.seat.view_is ∙ c.requires.actor))

pub returns : goal.returns
returns c =
    let few = c.requires.bits in
    let back : bit_not w64 (bit_not w64 c.args.bits) ≡ c.args.bits = omega arith in
    acts-as (ap Lower back) c.seat.invariant c.seat.view_is c.fetch_and.ensures.0 c.fetch_and.ensures.2
