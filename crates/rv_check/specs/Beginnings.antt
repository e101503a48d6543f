-- Histories that have begun: those that may still become a legal history of an input without changes.
use Rattle.std.specs.Prelude.{◌≡◌, ◌≢◌, ℕ, ◌+◌, ◌<◌, Bool, List, ◌++◌, reverse, All, AllPairs, Any}
use Rattle.rv_model.specs.declared.entry.Entry.{Entry}
use Rattle.rv_model.specs.Cuts.{AtEach}
use Rattle.rv_model.specs.Histories.{IsSound}
use Rattle.rv_model.specs.Judging.{Judge}
use Rattle.rv_model.specs.Scripts.{Played, played, Plays}
use Rattle.rv_model.specs.Setups.{Setup}
use Rattle.rv_model.specs.Works.{Work}
use Rattle.rv_core.specs.Deliveries.{FitsDelivery}

-- the entries are a front of some script of the work
abbrev pub HasBegun : Setup → (ℕ → Bool) → Work → List Played → Type 0
HasBegun s panics w ps = (rest : List Played) × Plays s panics w (ps ++ rest)

-- it is sound, each work's CPU has begun its script, and nobody else has an entry
pub record IsBeginning (s : Setup) (js : List Judge) (panics : ℕ → Bool) (works : List Work) (h : List Entry) : Type 0 where
  pub sound : IsSound s js h
  pub cpus : All (λ w. HasBegun s panics w (played s js (2 + w.cpu) (reverse h))) works
  pub nobody_else : AtEach (λ before e. Any (λ w. e.seat ≡ 2 + w.cpu) works) h

-- ---- which works fit a setup

-- the CPU is below 64, and the deliveries fit
pub record FitsWork (s : Setup) (w : Work) : Type 0 where
  pub cpu : w.cpu < 64
  pub fit : All (FitsDelivery s) w.deliveries

-- works of different CPUs, which fit
pub record FitWorks (s : Setup) (works : List Work) : Type 0 where
  pub fit : All (FitsWork s) works
  pub apart : AllPairs (λ v w. v.cpu ≢ w.cpu) works
