use Rattle.std.proofs.Common.{◌≡◌, map, take}
use Rattle.std.specs.Prelude.{All}
use Rattle.rv_trace.specs.Fields.{field_of}
use Rattle.rv_trace.specs.FoundFields.{IsInside}
use Rattle.rv_route.proofs.asking.look_up.Given as goal

abbrev pub invariant-loop-name : goal.invariant-loop-name
invariant-loop-name l = (l.found.items ≡ map (field_of l.fields) (take l.name-index l.names)) × All (IsInside l.fields) l.found.items
