-- The pairs so far and those that are to come are the whole.
use Rattle.std.proofs.Common.{◌≡◌, ◌++◌, drop}
use Rattle.rv_facts.specs.Pairs.{of_pairs, pairs_from}
use Rattle.rv_bind.specs.BoundViews.{bound_value}
use Rattle.rv_facts.specs.Facts.{monitor_facts}
use Rattle.rv_facts.proofs.facts.put_monitors.Given as goal

abbrev pub invariant-monitors : goal.invariant-monitors
invariant-monitors l = l.out ++ pairs_from (monitor_facts (bound_value l.bound) l.lines l.rules) l.place (drop l.place l.monitors) (drop l.place l.counts) ≡ l.initial.out ++ of_pairs (monitor_facts (bound_value l.bound) l.lines l.rules) l.monitors l.counts
