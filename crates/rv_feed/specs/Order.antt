-- What a run of all scripts in the order of the trace comes to.
use Rattle.std.specs.Prelude.{◌≡◌, ℕ, ◌+◌, Bool, List, ◌++◌, reverse, All, Any}
use Rattle.rv_model.specs.declared.entry.Entry.{Entry}
use Rattle.rv_model.specs.Cuts.{AtEach}
use Rattle.rv_model.specs.Histories.{IsNoStop, IsPermitted, IsInOrder}
use Rattle.rv_model.specs.Records.{script_records}
use Rattle.rv_model.specs.Scripts.{Played, played, Plays}
use Rattle.rv_model.specs.Setups.{Setup}
use Rattle.rv_core.specs.Core.{CoreValue}
use Rattle.rv_core.specs.Setup.{judges_of}
use Rattle.rv_feed.specs.Lane.{LaneValue, works_of}

-- the seat of the lane's CPU played a whole script of the lane's work, and the lane has the script's records
pub record Whole (s : Setup) (panics : ℕ → Bool) (old new : List Entry) (lane : LaneValue) : Type 0 where
  pub script : List Played
  pub played_is : played s (judges_of s) (2 + lane.work.cpu) (reverse new) ≡ played s (judges_of s) (2 + lane.work.cpu) (reverse old) ++ script
  pub plays : Plays s panics lane.work script
  pub records : script_records lane.work.deliveries lane.work.turns script ≡ lane.records

-- the history grows by whole scripts of the lanes and by nothing else, without a stop, and the lines of its entries
-- never descend
pub record Ran (panics : ℕ → Bool) (old new : CoreValue) (lanes lanes' : List LaneValue) : Type 0 where
  pub more : List Entry
  pub grows : new ≡ record old { history = old.history ++ more }
  pub same_works : works_of lanes' ≡ works_of lanes
  pub whole : All (Whole old.setup panics old.history new.history) lanes'
  pub nobody_else : AtEach (λ before e. Any (λ w. e.seat ≡ 2 + w.cpu) (works_of lanes)) more
  pub no_stop : AtEach (λ before e. IsNoStop e.act) more
  pub permitted : IsPermitted more
  pub in_order : IsInOrder (works_of lanes) more
