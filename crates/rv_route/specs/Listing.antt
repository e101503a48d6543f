-- Deliveries as one list: what each is, and the turns and deliveries that each CPU has of them.
use Rattle.std.specs.Prelude.{ℕ, ◌+◌, ◌<◌, ◌≤◌, All, AllPairs, List, [], ◌∷◌, fold, replicate, slice_index_or, slice_set}
use Rattle.rv_model.specs.declared.hit.Mode.TheVariants.{Event}
use Rattle.rv_model.specs.declared.hit.What.TheVariants.{Nothing}
use Rattle.rv_model.specs.declared.work.Delivery.{Delivery}
use Rattle.rv_model.specs.Works.{Work}
use Rattle.rv_bind.specs.RuleValues.{OnValue}
use Rattle.rv_route.specs.declared.listing.Listed.{Listed}
use Rattle.rv_route.specs.declared.listing.Target.{Target}
use Rattle.rv_route.specs.Lanes.{LaneValue, with_delivery}
use Rattle.rv_route.specs.LineByLine.{no_lane, works_of}

-- a delivery, and the number and the CPU of the line that it is of
pub record ListedDelivery : Type 0 where
  pub line : ℕ
  pub cpu : ℕ
  pub delivery : Delivery

-- the monitor that a rule hits, and how
abbrev pub target_of : OnValue → Target
target_of rule = record { monitor = rule.monitor; hit = rule.hit }

-- what is hit where there is no rule
abbrev pub no_target : Target
no_target = record { monitor = 0; hit = record { mode = Event; what = Nothing } }

-- the delivery with this number
abbrev pub listed_as : List Target → ℕ → Listed → ListedDelivery
listed_as targets order item = record {
  line = item.line;
  cpu = item.cpu;
  delivery = record { order = order; monitor = (slice_index_or targets item.rule no_target).monitor; instance = item.instance; hit = (slice_index_or targets item.rule no_target).hit };
}

-- the deliveries, numbered from this number on
abbrev pub listed_from : List Target → ℕ → List Listed → List ListedDelivery
listed_from targets order [] = []
listed_from targets order (item ∷ items) = listed_as targets order item ∷ listed_from targets (order + 1) items

-- the delivery goes last on its CPU
abbrev pub with_listed : List LaneValue → ListedDelivery → List LaneValue
with_listed lanes d = slice_set lanes d.cpu (with_delivery (slice_index_or lanes d.cpu no_lane) d.line d.delivery)

-- what each of the 64 CPUs has of the deliveries
unfoldable pub lanes_listed : List ListedDelivery → List LaneValue
lanes_listed list = fold with_listed (replicate 64 no_lane) list

-- the works of the CPUs that have a delivery
abbrev pub works_listed : List ListedDelivery → List Work
works_listed list = works_of (lanes_listed list)

-- ---- while it grows

-- the lines never descend, and all are below this number; the CPUs are below 64
pub record AreBelow (next : ℕ) (list : List ListedDelivery) : Type 0 where
  pub below : All (λ d. d.line < next) list
  pub ascend : AllPairs (λ d e. d.line ≤ e.line) list
  pub cpus : All (λ d. d.cpu < 64) list
