-- What is routed, as a plain value.
use Rattle.rv_route.specs.declared.routed.Routed.{Routed}
use Rattle.rv_route.specs.declared.listing.RoutedList.{RoutedList}
use Rattle.rv_route.specs.Listing.{works_listed}
use Rattle.rv_route.specs.Routing.{RoutedValue}

-- the tasks, and the works without the memory that they take
abbrev pub routed_value : Routed → RoutedValue
routed_value routed = record { tasks = routed.tasks; works = routed.works.items }

-- the tasks, and the works of the list
abbrev pub list_value : RoutedList → RoutedValue
list_value routed = record { tasks = routed.tasks; works = works_listed routed.list }
