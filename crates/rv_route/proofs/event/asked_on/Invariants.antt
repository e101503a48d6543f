use Rattle.std.proofs.Common.{◌≡◌, map, take}
use Rattle.std.specs.Prelude.{filter}
use Rattle.std.specs.List.{AllZip}
use Rattle.rv_route.specs.Events.{IsAsked, is_on_event, asked_place, places_on}
use Rattle.rv_route.proofs.event.asked_on.Given as goal

abbrev pub invariant-loop-place : goal.invariant-loop-place
invariant-loop-place l = record {
  asked : AllZip (IsAsked l.rules l.names) l.list.items (filter (is_on_event l.event) (take l.place l.rules));
  places : map asked_place l.list.items ≡ places_on l.event 0 (take l.place l.rules);
}
