-- No task, 64 empty lanes and an empty list.
use Rattle.std.proofs.Common.{◌≡◌, ◌∙◌, [], ◌∷◌, ◌++◌, ap, arith, replicate}
use Rattle.std.proofs.lemmas.List.{replicate_more}
use Rattle.rv_route.specs.LineByLine.{no_lane}
use Rattle.rv_route.proofs.ListingLemmas.{gathered-none}
use Rattle.rv_route.proofs.deliveries.Deliveries.new.Goals as goal

pub returns-clause-routes : goal.returns-clause-routes
returns-clause-routes c =
    let all : c.loop-cpu.cpu ≡ 64 = omega arith in
    gathered-none c.new-2.result c.in_ok-targets.targets.items c.loop-cpu.lanes.items c.new-3.result.items c.args.listed c.new-2.ensures (c.loop-cpu.invariant ∙ ap (λ n. replicate n no_lane) all) c.new-3.ensures.items

pub loop-cpu-preserved : goal.loop-cpu-preserved
loop-cpu-preserved c = c.in_ok-push.ensures.items ∙ (λ i. c.loop-cpu.invariant i ++ c.new.ensures i ∷ []) ∙ replicate_more c.loop-cpu.cpu no_lane
