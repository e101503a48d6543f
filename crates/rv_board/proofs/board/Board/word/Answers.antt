use Rattle.std.proofs.Common.{◌≡◌, ◌+◌, ◌∙◌, arith, add-one}
use Rattle.rv_board.specs.inner.Rule.{word_at}
use Rattle.rv_board.proofs.AllowedLemmas.{loads}
use Rattle.rv_board.proofs.CallLemmas.{grows_seen}
use Rattle.rv_board.proofs.MeetLemmas.{meets}
use Rattle.rv_board.proofs.SpacingLemmas.{index-at}
use Rattle.rv_board.proofs.board.Board.word.Goals as goal

pub load-requires : goal.load-requires
load-requires c =
    let m = meets c.seat.view_is c.requires.board c.self.view_is c.self.invariant in
    let at = m.stands c.requires.slot c.place.ensures.place in
    let low = at.low in
    (m.table_is, at.below, loads _ _ c.seat.invariant m.setup_is (c.args.slot + 1) at.at (omega arith))

pub returns-clause-grows : goal.returns-clause-grows
returns-clause-grows c = grows_seen c.seat.view_is c.load.ensures.0 c.load.ensures.2.0

pub returns-clause-word : goal.returns-clause-word
returns-clause-word c =
    let m = meets c.seat.view_is c.requires.board c.self.view_is c.self.invariant in
    let at = m.stands c.requires.slot c.place.ensures.place in
    let saw = c.load.ensures.2.0 in
    let own : c.seat.inside.token.me.0.setup ≡ c.args.self.now.setup = m.setup_is ∙ m.key_is in
    saw.word ∙ (λ j. word_at (own j) c.load.new.seat.me.0.part.seen ((index-at (c.args.slot + 1) m.setup_is at.at ∙ add-one c.args.slot) j))
