use Rattle.std.proofs.Common.{◌≡◌, ◌+◌, ◌<◌, length, rules, ◌∙◌, arith}
use Rattle.rv_counts.proofs.FiredLemmas.{fired_all, fired_more}
use Rattle.rv_counts.proofs.counting.fired_enabled.Goals as goal

pub loop-place-preserved : goal.loop-place-preserved
loop-place-preserved c = λ events told.
    let place = c.loop-place.place in
    let end = c.min-place-end.ensures in
    let inside : place < length c.args.rules.now = let x = c.loop-place-test.true in omega arith in
    let counted : place < length c.args.counts.now = let x = c.loop-place-test.true in omega arith in
    let more : c.in_ok-fired.fired ≡ c.loop-place.fired + c.enabled_fires-fires.result = search rules in
    more ∙ fired_more c.args.monitors.now events c.args.rules.now c.args.counts.now place c.index-rules-place.result c.index-counts-place.result inside counted c.index-rules-place.is c.index-counts-place.is told
    c.loop-place.fired c.enabled_fires-fires.result (c.loop-place.invariant events told) c.enabled_fires-fires.ensures

pub returns : goal.returns
returns c = λ events told.
    let end = c.min-place-end.ensures in
    fired_all c.args.monitors.now events c.args.rules.now c.args.counts.now c.loop-place.place c.loop-place.fired (let x = c.loop-place-test.false in omega arith) told (c.loop-place.invariant events told)
