-- What a collector has gathered, while it grows.
use Rattle.std.specs.Prelude.{◌≡◌, ℕ, ◌+◌, ◌<◌, ◌≤◌, Bool, List, length, slice_index_or}
use Rattle.rv_bind.specs.RuleValues.{OnValue}
use Rattle.rv_route.specs.declared.listing.Target.{Target}
use Rattle.rv_route.specs.LineByLine.{Routes}
use Rattle.rv_route.specs.Listing.{AreBelow, ListedDelivery, no_target, target_of}

-- what has been routed, what the rules hit, whether deliveries go to one list, and that list
pub record Gathered : Type 0 where
  pub routes : Routes
  pub targets : List Target
  pub listed : Bool
  pub list : List ListedDelivery

-- a line was taken: deliveries go where they went, the rules hit what they did, and the list still ascends
pub record GathersLine (line : ℕ) (old new : Gathered) : Type 0 where
  pub targets : new.targets ≡ old.targets
  pub listed : new.listed ≡ old.listed
  pub lines : (next : ℕ) → next ≤ line + 1 → AreBelow next old.list → AreBelow (line + 1) new.list

-- what the rule hits stands at this place
pub record IsTarget (targets : List Target) (place : ℕ) (rule : OnValue) : Type 0 where
  pub within : place < length targets
  pub is : slice_index_or targets place no_target ≡ target_of rule
