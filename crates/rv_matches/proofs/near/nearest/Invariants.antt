use Rattle.std.proofs.Common.{◌≡◌, ◌≤◌, length, take}
use Rattle.std.specs.Prelude.{flat_map}
use Rattle.rv_model.specs.Numbers.{list_of}
use Rattle.rv_matches.specs.declared.near.TheConstants.{MOST_NEAR}
use Rattle.rv_matches.specs.Nearest.{nears_at}
use Rattle.rv_matches.proofs.near.nearest.Given as goal

abbrev pub invariant-loop-far : goal.invariant-loop-far
invariant-loop-far l = (length l.found.items ≤ MOST_NEAR) × (l.found.items ≡ take MOST_NEAR (flat_map (nears_at l.event l.names.words) (list_of (λ far. far) l.far)))
