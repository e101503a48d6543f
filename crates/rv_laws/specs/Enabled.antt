-- The deliveries that the opening switches show on, and that no other delivery matters where nothing changes the switches.
use Rattle.std.specs.Prelude.{◌≡◌, ℕ, ◌<◌, ◌^◌, List, map, filter}
use Rattle.std.specs.List.{AllZip}
use Rattle.rv_model.specs.declared.entry.Entry.{Entry}
use Rattle.rv_model.specs.Histories.{Input, IsLegal}
use Rattle.rv_model.specs.Judging.{Judge}
use Rattle.rv_model.specs.Scripts.{is_enabled_by, turns_of}
use Rattle.rv_model.specs.Works.{Work}
use Rattle.rv_laws.specs.Verdicts.{IsSteady}

-- the second work is of the same CPU, and each of its turns has those of the first one's deliveries that the look shows on
pub record IsEnabledOf (look : ℕ) (w v : Work) : Type 0 where
  pub cpu : v.cpu ≡ w.cpu
  pub turns : turns_of v ≡ map (filter (is_enabled_by look)) (turns_of w)

-- a law: a history of the deliveries that the opening switches show on is a history of all
abbrev pub EnabledIsEnough : Type 0
EnabledIsEnough = (input : Input) (js : List Judge) (enabled : List Work) (h : List Entry) → IsSteady input → input.setup.switches < 2 ^ 64 → AllZip (IsEnabledOf input.setup.switches) input.works enabled → IsLegal (record input { works = enabled }) js h → IsLegal input js h
