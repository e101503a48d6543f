use Rattle.std.proofs.Common.{sym, ◌∙◌}
use Rattle.rv_ltl.proofs.TokenSteps.{one_token, no_token, begins, ends}
use Rattle.rv_ltl.proofs.words.tokens.Goals as goal

pub pieces-init : goal.pieces-init
pieces-init c = rw c.new-out.ensures.items (begins _)

pub returns-in_default : goal.returns-in_default
returns-in_default c = no_token _ c.args.pieces.now c.pieces.piece-index _ c.pieces.out.items _ c.pieces-test.true (sym c.token.ensures ∙ c.in_default.is) c.pieces.invariant

pub pieces-preserved : goal.pieces-preserved
pieces-preserved c =
    rw c.in_ok-push.ensures.items (one_token _ c.args.pieces.now c.pieces.piece-index _ c.pieces.out.items c.in-Some.mark _ c.pieces-test.true (sym c.token.ensures ∙ c.in-Some.is) c.pieces.invariant)

pub returns : goal.returns
returns c = ends _ c.args.pieces.now c.pieces.piece-index c.pieces.out.items _ c.pieces-test.false c.pieces.invariant
