use Rattle.std.proofs.Common.{map, min, ap, ◌∙◌, arith, rules}
use Rattle.rv_matches.proofs.NearLemmas.{further, none_yet}
use Rattle.rv_matches.proofs.near.nearest.Goals as goal

pub loop-far-init : goal.loop-far-init
loop-far-init c = search (rules, none_yet)

pub loop-far-preserved : goal.loop-far-preserved
loop-far-preserved c =
    (c.in_ok-add_far.ensures.few, further c.args.event.now c.args.names.now.words c.loop-far.far c.loop-far.found.items c.add_far.new.found.items c.loop-far.invariant.1 (c.in_ok-add_far.ensures.added c.args.event.now _ (omega arith) (ap (map (λ d. min d _)) c.as_slice.ensures.value ∙ c.in_ok-distances.ensures)))
