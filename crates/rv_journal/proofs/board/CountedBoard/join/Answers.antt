use Rattle.std.proofs.Common.{◌<◌, sym, ap, ◌∙◌, arith, subst, sum}
use Rattle.rv_board.specs.inner.Steps.{Ours}
use Rattle.rv_board.specs.inner.Rule.{index_at}
use Rattle.rv_board.proofs.JoinLemmas.{joins_with}
use Rattle.rv_board.proofs.CallLemmas.{joins-by}
use Rattle.rv_board.proofs.MeetLemmas.{meets}
use Rattle.rv_board.proofs.SpacingLemmas.{front-place}
use Rattle.rv_journal.specs.inner.CountedWords.{counted_at, also_counted}
use Rattle.rv_journal.specs.inner.CountedSteps.{SawCounted}
use Rattle.rv_journal.specs.CountedSeats.{CountedValue}
use Rattle.rv_journal.proofs.CountedCallLemmas.{saw-plain}
use Rattle.rv_journal.proofs.CountedSeatLemmas.{seat-joined}
use Rattle.rv_journal.proofs.CountedStepLemmas.{sees}
use Rattle.rv_journal.proofs.board.CountedBoard.join.Goals as goal

pub join_seat-requires : goal.join_seat-requires
join_seat-requires c =
    let m = meets (ap (λ (f : CountedValue). f.seat) c.into.view_is) c.requires.into c.self.view_is c.self.invariant in
    let n = meets (ap (λ (f : CountedValue). f.seat) c.from.view_is) c.requires.from c.self.view_is c.self.invariant in
    let k = c.self.inside.table.shared.key in
    (m.table_is, n.table_is, c.from.invariant.usable.empty, m.front, joins_with counted_at (also_counted k) (λ history old new is. is) k _ _ _ _)

pub load-requires : goal.load-requires
load-requires c =
    let m = meets (ap (λ (f : CountedValue). f.seat) c.into.view_is) c.requires.into c.self.view_is c.self.invariant in
    let j = c.join_seat.ensures in
    let has = subst (λ (m : Ours). m.0.part.number < m.0.part.end) (sym j.2) c.into.invariant.usable.has in
    (j.0 ∙ m.table_is, m.front, sees _ _ _ c.join_seat.new.seat.me 0 (front-place _) (omega arith) (ap (λ (m : Ours). m.0.setup) j.2 ∙ m.setup_is) has)

pub invariant_of-into : goal.invariant_of-into
invariant_of-into c =
    let j = c.join_seat.ensures in
    let s = c.load.ensures in
    seat-joined c.into.inside.token.me c.from.inside.token.me.0 c.into.invariant (subst (λ (m : Ours). SawCounted m.0 c.load.new.seat.me.0 (index_at (sum m.0.setup.shape) 0) c.load.result) j.2 s.2.0) (s.2.1 ∙ ap (λ (m : Ours). m.1) j.2 ∙ c.into.invariant.usable.empty)

pub returns-clause-seats : goal.returns-clause-seats
returns-clause-seats c =
    let j = c.join_seat.ensures in
    joins-by c.into.inside.token.me.0 c.from.inside.token.me.0 (ap (λ (m : Ours). m.0) j.2) (ap (λ (f : CountedValue). f.seat) c.into.view_is) (ap (λ (f : CountedValue). f.seat) c.from.view_is) (c.load.ensures.0 ∙ j.0) (saw-plain c.load.ensures.2.0.0)
