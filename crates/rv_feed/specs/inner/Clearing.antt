-- The clears of one monitor.
use Rattle.std.specs.Prelude.{ℕ, List}
use Rattle.rv_model.specs.declared.entry.Act.{Act}
use Rattle.rv_model.specs.declared.entry.Act.TheVariants.{Clear}
use Rattle.rv_model.specs.Numbers.{list_of}
use Rattle.rv_model.specs.Setups.{slot_of}

-- a Clear of the slot of each of a monitor's first instances, so many of them
abbrev pub of_instances : List ℕ → ℕ → ℕ → List Act
of_instances shape monitor count = list_of (λ instance. Clear (slot_of shape monitor instance)) count
