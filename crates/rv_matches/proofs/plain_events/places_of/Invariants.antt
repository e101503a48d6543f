use Rattle.std.proofs.Common.{◌≡◌, map, take}
use Rattle.rv_route.specs.Events.{asked_place}
use Rattle.rv_matches.proofs.plain_events.places_of.Given as goal

abbrev pub invariant-loop-asked : goal.invariant-loop-asked
invariant-loop-asked l = l.places.items ≡ map asked_place (take l.asked-index l.asked-items)
