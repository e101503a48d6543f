use Rattle.std.proofs.Common.{◌≡◌, map, take, Some}
use Rattle.std.specs.Prelude.{slice_get}
use Rattle.rv_route.specs.Events.{tested_fields}
use Rattle.rv_trace.specs.FoundFields.{Extends}
use Rattle.rv_route.proofs.event.test_places.Given as goal

abbrev pub invariant-loop-test : goal.invariant-loop-test
invariant-loop-test l = (map (slice_get l.names) l.places.items ≡ map Some (tested_fields (take l.test-index l.tests))) × Extends l.fn.names l.names
