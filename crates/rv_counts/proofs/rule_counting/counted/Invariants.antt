-- The words so far are told.
use Rattle.std.proofs.Common.{◌≡◌, map, take}
use Rattle.rv_counts.specs.RuleTold.{counted_told}
use Rattle.rv_counts.proofs.rule_counting.counted.Given as goal

abbrev pub invariant-loop-place : goal.invariant-loop-place
invariant-loop-place l = map counted_told l.list.items ≡ take l.place l.words.words
