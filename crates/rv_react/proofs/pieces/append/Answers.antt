use Rattle.std.proofs.Common.{take, drop, ◌∙◌}
use Rattle.std.proofs.lemmas.Result.{err_from_is_err_and}
use Rattle.rv_react.specs.inner.Parts.{joined}
use Rattle.rv_react.proofs.AppendLemmas.{joined-next, joined-split}
use Rattle.rv_react.proofs.pieces.append.Goals as goal

pub returns-in_err-text : goal.returns-in_err-text
returns-in_err-text c =
    let failed = err_from_is_err_and c.from_residual.result c.from_residual.ensures.1 in
    let pieces = c.args.pieces.now in
    let i = c.loop-piece.piece-index in
    rw failed.1 (joined (take i pieces), joined (drop i pieces), joined-split pieces i, c.in_err-text.ensures.err ∙ c.loop-piece.invariant)

pub loop-piece-preserved : goal.loop-piece-preserved
loop-piece-preserved c = joined-next _ _ _ c.args.pieces.now c.loop-piece.piece-index _ c.loop-piece-test.true c.loop-piece.invariant c.in_ok-text.ensures.ok
