use Rattle.std.proofs.Common.{◌≡◌, map, take}
use Rattle.rv_route.specs.Listing.{target_of}
use Rattle.rv_route.proofs.listing.targets_of.Given as goal

abbrev pub invariant-loop-rule : goal.invariant-loop-rule
invariant-loop-rule l = l.targets.items ≡ map target_of (take l.rule-index l.rules)
