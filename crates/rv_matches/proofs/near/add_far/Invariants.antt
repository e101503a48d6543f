use Rattle.std.proofs.Common.{◌≡◌, ◌<◌, ◌≤◌, ℕ, List, ◌++◌, length, map, min, take}
use Rattle.rv_matches.specs.declared.near.TheConstants.{MOST_NEAR}
use Rattle.rv_matches.specs.Nearest.{distance, nears_at}
use Rattle.rv_matches.proofs.near.add_far.Given as goal

abbrev pub invariant-loop-place : goal.invariant-loop-place
invariant-loop-place l = record {
  few : length l.found.items ≤ MOST_NEAR;
  added : (event : List ℕ) (least : ℕ) → l.far < least → map (λ near. min near least) l.distances ≡ map (λ counted. min (distance event counted.0) least) l.names.words → l.found.items ≡ take MOST_NEAR (l.initial.found.items ++ nears_at event (take l.place l.names.words) l.far);
}
