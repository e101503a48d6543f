use Rattle.std.proofs.Common.{rules}
use Rattle.rv_bind.proofs.BoundLemmas.{found_at, none_below, not_found}
use Rattle.rv_bind.proofs.bound.place_or_len.Goals as goal

pub returns-then-eq : goal.returns-then-eq
returns-then-eq c = found_at c.args.names.now c.args.name.now c.loop-place.place c.get.result.now c.get.ensures (search rules) c.loop-place.invariant

pub loop-place-preserved : goal.loop-place-preserved
loop-place-preserved c = none_below c.args.names.now c.args.name.now c.loop-place.place c.get.result.now c.get.ensures (search rules) c.loop-place.invariant

pub returns : goal.returns
returns c = not_found c.args.names.now c.args.name.now c.loop-place.place c.len.result c.len.ensures (search rules) c.loop-place.invariant
