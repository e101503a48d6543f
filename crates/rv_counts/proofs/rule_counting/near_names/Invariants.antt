-- The names so far are told.
use Rattle.std.proofs.Common.{◌≡◌, map}
use Rattle.rv_counts.specs.RuleTold.{near_of}
use Rattle.rv_counts.proofs.rule_counting.near_names.Given as goal

abbrev pub invariant-loop-found : goal.invariant-loop-found
invariant-loop-found l = map near_of l.near.items ≡ l.yielded
