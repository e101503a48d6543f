use Rattle.std.proofs.Common.{◌≡◌, take, map}
use Rattle.std.specs.List.{filter_map}
use Rattle.rv_dot.specs.inner.Gathering.{gathered_by}
use Rattle.rv_dot.specs.inner.Held.{sayings_claims, bytes_of}
use Rattle.rv_dot.proofs.gather.names_in.Given as goal

abbrev pub invariant-sayings : goal.invariant-sayings
invariant-sayings l = map bytes_of l.found.items ≡ filter_map (gathered_by l.kind) (sayings_claims (take l.saying-index l.said))
