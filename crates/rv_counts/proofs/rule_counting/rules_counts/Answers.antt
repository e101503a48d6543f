use Rattle.std.proofs.Common.{◌+◌, ◌<◌, length, sym, subst, arith}
use Rattle.rv_counts.proofs.CountedLemmas.{AreTold, told_all, told_more}
use Rattle.rv_counts.proofs.rule_counting.rules_counts.Goals as goal

pub loop-place-preserved : goal.loop-place-preserved
loop-place-preserved c =
    let names = c.args.names.now in
    let all = c.args.rules.now in
    let lines = c.args.lines.now in
    let place = c.loop-place.place in
    let end = c.min-place-end.ensures in
    let inside : place < length all = let x = c.loop-place-test.true in omega arith in
    let kept : place < length lines = let x = c.loop-place-test.true in omega arith in
    subst (AreTold names all lines (place + 1)) (sym c.in_ok-push.ensures.items)
    (told_more names all lines place c.loop-place.counts.items c.index-rules-place.result c.index-lines-place.result c.in_ok-rule_counts.field-0 inside kept c.index-rules-place.is c.index-lines-place.is c.in_ok-rule_counts.ensures c.loop-place.invariant)

pub returns : goal.returns
returns c =
    let end = c.min-place-end.ensures in
    told_all c.args.names.now c.args.rules.now c.args.lines.now c.loop-place.place c.loop-place.counts.items (let x = c.loop-place-test.false in omega arith) c.loop-place.invariant
