use Rattle.std.proofs.Common.{◌≡◌, map, min, take}
use Rattle.rv_matches.specs.Nearest.{distance}
use Rattle.rv_matches.proofs.near.distances.Given as goal

abbrev pub invariant-loop-place : goal.invariant-loop-place
invariant-loop-place l = map (λ near. min near l.far) l.list.items ≡ map (λ counted. min (distance l.event counted.0) l.far) (take l.place l.names.words)
