use Rattle.std.proofs.Common.{◌<◌, sym, ap, ◌∙◌, arith, subst}
use Rattle.rv_board.specs.inner.Steps.{Ours}
use Rattle.rv_board.proofs.JoinLemmas.{joins}
use Rattle.rv_board.proofs.CallLemmas.{joins-by}
use Rattle.rv_board.proofs.MeetLemmas.{meets}
use Rattle.rv_board.proofs.SpacingLemmas.{front-place}
use Rattle.rv_board.proofs.StepLemmas.{sees}
use Rattle.rv_board.proofs.board.Board.join.Goals as goal

pub join_seat-requires : goal.join_seat-requires
join_seat-requires c =
    let m = meets c.into.view_is c.requires.into c.self.view_is c.self.invariant in
    let n = meets c.from.view_is c.requires.from c.self.view_is c.self.invariant in
    (m.table_is, n.table_is, c.from.invariant.empty, m.front, joins c.self.inside.table.shared.key _ _ _ _)

pub load-requires : goal.load-requires
load-requires c =
    let m = meets c.into.view_is c.requires.into c.self.view_is c.self.invariant in
    let j = c.join_seat.ensures in
    let has = subst (λ (m : Ours). m.0.part.number < m.0.part.end) (sym j.2) c.into.invariant.has in
    (j.0 ∙ m.table_is, m.front, sees _ _ _ c.join_seat.new.seat.me 0 (front-place _) (omega arith) (ap (λ (m : Ours). m.0.setup) j.2 ∙ m.setup_is) has)

pub returns : goal.returns
returns c =
    let j = c.join_seat.ensures in
    joins-by c.into.inside.token.me.0 c.from.inside.token.me.0 (ap (λ (m : Ours). m.0) j.2) c.into.view_is c.from.view_is (c.load.ensures.0 ∙ j.0) c.load.ensures.2.0
