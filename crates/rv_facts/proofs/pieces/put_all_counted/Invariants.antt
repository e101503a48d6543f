-- The pieces so far and those that are to come are the whole.
use Rattle.std.proofs.Common.{◌≡◌, ◌++◌, drop, flat_map}
use Rattle.rv_facts.specs.Shown.{counted_fact}
use Rattle.rv_facts.proofs.pieces.put_all_counted.Given as goal

abbrev pub invariant-words : goal.invariant-words
invariant-words l = l.out ++ flat_map (counted_fact l.front) (drop l.counted-index l.words) ≡ l.initial.out ++ flat_map (counted_fact l.front) l.words
