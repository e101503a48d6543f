-- The first pieces.
use Rattle.std.proofs.Common.{◌≡◌, ◌++◌, flat_map}
use Rattle.rv_model.specs.Numbers.{list_of}
use Rattle.rv_facts.specs.MonitorFacts.{share_fact}
use Rattle.rv_facts.proofs.monitor_facts.put_each.Given as goal

abbrev pub invariant-places : goal.invariant-places
invariant-places l = l.out ≡ l.initial.out ++ flat_map (share_fact l.name l.c l.table l.spec l.share) (list_of (λ i. i) l.place)
