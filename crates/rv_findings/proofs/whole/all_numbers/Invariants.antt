-- The pairs so far and those that are to come are the whole.
use Rattle.std.proofs.Common.{◌≡◌, ◌++◌, drop}
use Rattle.rv_facts.specs.Pairs.{of_pairs, pairs_from}
use Rattle.rv_findings.specs.Whole.{own_numbers}
use Rattle.rv_findings.proofs.whole.all_numbers.Given as goal

abbrev pub invariant-monitors : goal.invariant-monitors
invariant-monitors l = l.numbers.items ++ pairs_from (own_numbers l.share) l.place (drop l.place l.monitors) (drop l.place l.counts) ≡ of_pairs (own_numbers l.share) l.monitors l.counts
