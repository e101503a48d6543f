-- The pieces so far and those that are to come are the whole.
use Rattle.std.proofs.Common.{◌≡◌, ◌++◌, drop, flat_map}
use Rattle.rv_facts.specs.RuleFacts.{field_facts}
use Rattle.rv_facts.proofs.rule_facts.put_fields.Given as goal

abbrev pub invariant-fields : goal.invariant-fields
invariant-fields l = l.out ++ flat_map (field_facts l.front) (drop l.field-index l.fields) ≡ l.initial.out ++ flat_map (field_facts l.front) l.fields
