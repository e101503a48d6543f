-- A whole run over a list.
use Rattle.std.specs.Prelude.{◌≡◌, ℕ, Bool, List, []}
use Rattle.rv_model.specs.declared.record.Record.{Record}
use Rattle.rv_model.specs.declared.record.Task.{Task}
use Rattle.rv_model.specs.Histories.{IsOneHistory}
use Rattle.rv_model.specs.Records.{sort_records}
use Rattle.rv_model.specs.Reports.{Reported}
use Rattle.rv_model.specs.Setups.{Setup}
use Rattle.rv_feed.specs.Runs.{IsRunBySpecs}
use Rattle.rv_report.specs.Tallies.{IsFound}
use Rattle.rv_route.specs.Listing.{ListedDelivery, works_listed}
use Rattle.rv_replay.specs.declared.walk.Replayed.{Replayed}

-- by judges of the specifications this is the one history of the works of the list, and what its records come to was found
pub record RunsList (monitors : List Reported) (tasks : List Task) (setup : Setup) (panics : ℕ → Bool) (list : List ListedDelivery) (run : Replayed) : Type 0 where
  pub rs : List Record
  pub ascend : rs ≡ sort_records rs
  pub is_run : IsRunBySpecs IsOneHistory setup panics (works_listed list) [] rs run.closed
  pub is_found : IsFound monitors tasks rs run.found
