-- A history that has begun, and what it began by.
use Rattle.std.specs.Prelude.{ℕ, List}
use Rattle.rv_model.specs.declared.entry.Entry.{Entry}
use Rattle.rv_model.specs.Numbers.{has_bit}
use Rattle.rv_model.specs.Setups.{Setup}
use Rattle.rv_model.specs.Works.{Work}
use Rattle.rv_core.specs.Setup.{judges_of}
use Rattle.rv_check.specs.Beginnings.{IsBeginning}

-- what it was made with, and the entries so far
pub record RunValue : Type 0 where
  pub setup : Setup
  pub panics : ℕ
  pub works : List Work
  pub history : List Entry

-- the history is a beginning, by the setup's tables as judges
abbrev pub BeginsRun : RunValue → List Entry → Type 0
BeginsRun r h = IsBeginning r.setup (judges_of r.setup) (has_bit r.panics) r.works h
