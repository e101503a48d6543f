-- A router between two lines.
use Rattle.std.specs.Prelude.{◌≡◌, ◌+◌, ℕ, Bool, List, map, All, Option, Some, None, Result, Ok, Err}
use Rattle.rv_text.specs.declared.refusals.Refused.{Refused}
use Rattle.rv_trace.specs.declared.line.TraceLine.{TraceLine}
use Rattle.rv_bind.specs.declared.bindings.Bindings.{Bindings}
use Rattle.rv_bind.specs.WellFormed.{FitsKind, kinds_of}
use Rattle.rv_route.specs.declared.event.Event.{Event}
use Rattle.rv_route.specs.Events.{IsIndexOf}
use Rattle.rv_route.specs.Fitting.{FitsLines}
use Rattle.rv_route.specs.declared.listing.Target.{Target}
use Rattle.rv_route.specs.LineByLine.{Routes, GivesRoutes, line_routes}
use Rattle.rv_route.specs.Listing.{AreBelow, ListedDelivery, target_of}

-- the events of the rules, what has been routed, what the rules hit, whether deliveries go to one list, and that list, the least number of the next line, and the refusal that was given, if any
pub record RouterValue : Type 0 where
  pub index : List Event
  pub routes : Routes
  pub targets : List Target
  pub listed : Bool
  pub list : List ListedDelivery
  pub next : ℕ
  pub refused : Option Refused

-- the router was made for these bindings
pub record IsFor (bindings : Bindings) (router : RouterValue) : Type 0 where
  pub index : IsIndexOf bindings.rules.items router.index
  pub rules : All (FitsKind (kinds_of bindings.monitors.items)) bindings.rules.items
  pub targets : router.targets ≡ map target_of bindings.rules.items
  pub lines : AreBelow router.next router.list
  pub fits : router.refused ≡ None → FitsLines (kinds_of bindings.monitors.items) router.next router.routes

-- the refusal that a call gave, if any
abbrev pub refusal_of : {X : Type 0} → Result X Refused → Option Refused
refusal_of (Ok x) = None
refusal_of (Err refused) = Some refused

-- a call took the line: it did what the rules ask for, unless a line was refused before
pub record RoutesLine (bindings : Bindings) (text : List ℕ) (line : TraceLine) (old : RouterValue) (result : Result (Unit {0}) Refused) (new : RouterValue) : Type 0 where
  pub first : old.refused ≡ None → GivesRoutes result new.routes (line_routes text line bindings.monitors.items bindings.rules.items old.routes)
  pub again : (refused : Refused) → old.refused ≡ Some refused → result ≡ Err refused
  pub noted : new.refused ≡ refusal_of result
  pub next : new.next ≡ line.number + 1
  pub listed : new.listed ≡ old.listed
