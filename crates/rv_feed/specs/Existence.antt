-- A law: what lanes have to do has a history of one thread.
use Rattle.std.specs.Prelude.{ℕ, Bool, List, [], All}
use Rattle.rv_model.specs.declared.entry.Entry.{Entry}
use Rattle.rv_model.specs.declared.formula.Spec.{Spec}
use Rattle.rv_model.specs.Histories.{Input, input_with, AreJudges, IsOneHistory}
use Rattle.rv_model.specs.Judging.{Judge}
use Rattle.rv_model.specs.Setups.{Setup}
use Rattle.rv_model.specs.Works.{IsWork}
use Rattle.rv_core.specs.Judged.{AllMean}
use Rattle.rv_core.specs.Setup.{IsSetup}
use Rattle.rv_feed.specs.Lane.{LaneValue, FitLanes, works_of}

-- by judges of its specifications the input has a history of one thread
pub record HasOneHistory (input : Input) : Type 0 where
  pub judges : List Judge
  pub are_judges : AreJudges input.specs input.setup.tables judges
  pub history : List Entry
  pub is_one : IsOneHistory input judges history

-- a law: where the tables mean the specifications, the works of lanes that fit the setup have a history of one thread
abbrev pub OneExists : Type 0
OneExists = (s : Setup) (specs : List Spec) (panics : ℕ → Bool) (lanes : List LaneValue) → IsSetup s → AllMean specs s.tables → All (λ l. IsWork l.work) lanes → FitLanes s lanes → HasOneHistory (input_with s specs panics (works_of lanes) [])
