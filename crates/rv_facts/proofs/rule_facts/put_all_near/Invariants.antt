-- The pieces so far and those that are to come are the whole.
use Rattle.std.proofs.Common.{◌≡◌, ◌++◌, drop, flat_map}
use Rattle.rv_facts.specs.RuleFacts.{near_fact}
use Rattle.rv_facts.proofs.rule_facts.put_all_near.Given as goal

abbrev pub invariant-names : goal.invariant-names
invariant-names l = l.out ++ flat_map (near_fact l.front) (drop l.near-index l.names) ≡ l.initial.out ++ flat_map (near_fact l.front) l.names
