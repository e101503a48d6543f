use Rattle.std.proofs.Common.{arith}
use Rattle.std.proofs.lemmas.Int.{clamps}
use Rattle.rv_matches.proofs.FarLemmas.{edits_far}
use Rattle.rv_matches.proofs.near.near_edits.Goals as goal

pub returns-then-abs_diff-far : goal.returns-then-abs_diff-far
returns-then-abs_diff-far c =
    let far = edits_far c.args.one.now c.args.other.now in
    let first = far.0 in
    let second = far.1 in
    let differ = c.abs_diff.ensures in
    omega (arith, clamps, c.if-abs_diff-far.true)
