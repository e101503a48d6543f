-- The rules so far were counted.
use Rattle.std.proofs.Common.{◌≡◌, List, map, take}
use Rattle.std.specs.Prelude.{sum}
use Rattle.rv_matches.specs.LineEvents.{LineEvent}
use Rattle.rv_counts.specs.Counts.{fired_if}
use Rattle.rv_counts.specs.RuleTold.{TellsRules}
use Rattle.rv_counts.proofs.counting.fired_enabled.Given as goal

abbrev pub invariant-loop-place : goal.invariant-loop-place
invariant-loop-place l = (events : List LineEvent) → TellsRules events l.rules l.counts → l.fired ≡ sum (map (fired_if l.monitors events) (take l.place l.rules))
