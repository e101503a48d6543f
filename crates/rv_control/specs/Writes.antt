-- A write that is done, and the files that show what was written.
use Rattle.std.specs.Prelude.{◌≡◌, ◌≢◌, ℕ, ◌^◌, ◌<◌, Bool, List, Some, Ok}
use Rattle.rv_model.specs.declared.work.Change.{Change}
use Rattle.rv_control.specs.declared.sets.Those.TheVariants as those
use Rattle.rv_control.specs.declared.paths.Path.{Path}
use Rattle.rv_control.specs.declared.paths.Path.TheVariants.{AvailableMonitors, AvailableReactors, EnabledMonitors, MonitoringOn, ReactingOn, Desc, Enable, Reactors}
use Rattle.rv_control.specs.Trees.{ControlValue, IsControl}
use Rattle.rv_control.specs.Sets.{chosen_set}
use Rattle.rv_control.specs.Effects.{effect}

-- the files are those of a run: each monitor has a switch and a reactor, and the switches are a word
pub record AreFiles (tree : ControlValue) : Type 0 where
  pub control : IsControl tree
  pub switches : tree.switches < 2 ^ 64

-- a write of the text to the path makes these files of those, by this change
abbrev pub Writes : ControlValue → List ℕ → List ℕ → Bool → ControlValue → Change → Type 0
Writes tree path text append after change = effect tree path text append ≡ Ok (after, change)

-- the file shows `0` or `1`, as it was written: a container that has no monitor is never enabled
abbrev pub ShowsFlag : ControlValue → Path → Type 0
ShowsFlag tree MonitoringOn = Unit {0}
ShowsFlag tree ReactingOn = Unit {0}
ShowsFlag tree (Enable item) = chosen_set tree (Some item) those.All ≢ 0
ShowsFlag tree EnabledMonitors = ⊥
ShowsFlag tree AvailableMonitors = ⊥
ShowsFlag tree AvailableReactors = ⊥
ShowsFlag tree (Desc item) = ⊥
ShowsFlag tree (Reactors place) = ⊥
