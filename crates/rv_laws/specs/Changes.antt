-- What a control script leaves as it is: monitors that it never clears, and everything, where it asks for no change.
use Rattle.std.specs.Prelude.{◌≡◌, ◌≢◌, ◌↔◌, ℕ, false, List, [], All}
use Rattle.rv_model.specs.declared.entry.Act.TheVariants.{Stop}
use Rattle.rv_model.specs.declared.entry.Entry.{Entry}
use Rattle.rv_model.specs.declared.work.Change.{Change}
use Rattle.rv_model.specs.Cuts.{AtEach}
use Rattle.rv_model.specs.Histories.{Input, IsLegal, IsNoStop}
use Rattle.rv_model.specs.Judging.{Judge}
use Rattle.rv_model.specs.Numbers.{has_bit}
use Rattle.rv_model.specs.Records.{records_of, status_of}
use Rattle.rv_model.specs.Setups.{slot_of}
use Rattle.rv_laws.specs.SingleWriter.{HasInstance, HasOneWriter}

-- no change clears the monitor
abbrev pub IsNeverCleared : List Change → ℕ → Type 0
IsNeverCleared changes monitor = All (λ c. has_bit c.clear monitor ≡ false) changes

-- a law: where no change clears a monitor, nothing stops a lone slot of it
abbrev pub UnclearedHasNoStop : Type 0
UnclearedHasNoStop = (input : Input) (js : List Judge) (h : List Entry) (monitor instance : ℕ) → IsLegal input js h → IsNeverCleared input.changes monitor → HasInstance input.setup.shape monitor instance
    → HasOneWriter input.setup.shape input.works (slot_of input.setup.shape monitor instance) → AtEach (λ before e. ¬ (e.act ≡ Stop (slot_of input.setup.shape monitor instance))) h

-- a law: where no change clears any monitor and all slots are lone, nothing is stopped
abbrev pub AllUnclearedHaveNoStop : Type 0
AllUnclearedHaveNoStop = (input : Input) (js : List Judge) (h : List Entry) → IsLegal input js h → ((monitor : ℕ) → IsNeverCleared input.changes monitor) → ((slot : ℕ) → HasOneWriter input.setup.shape input.works slot) → AtEach (λ before e. IsNoStop e.act) h

-- a law: then the status is never that of an instance that was stopped
abbrev pub AllUnclearedGiveNoSix : Type 0
AllUnclearedGiveNoSix = (input : Input) (js : List Judge) (h : List Entry) → IsLegal input js h → ((monitor : ℕ) → IsNeverCleared input.changes monitor) → ((slot : ℕ) → HasOneWriter input.setup.shape input.works slot) → status_of (records_of input js h) ≢ 6

-- ---- scripts that ask for no change

-- no switch goes off or on, and no monitor is cleared
pub record AsksNothing (c : Change) : Type 0 where
  pub lower : c.lower ≡ 0
  pub clear : c.clear ≡ 0
  pub raise : c.raise ≡ 0

-- the input without its script
abbrev pub without_changes : Input → Input
without_changes input = record input { changes = [] }

-- a law: beside a script that asks for no change a run has the histories that it has without one, with their records
abbrev pub IdleScriptIsNone : Type 0
IdleScriptIsNone = (input : Input) (js : List Judge) (h : List Entry) → All AsksNothing input.changes → (IsLegal input js h ↔ IsLegal (without_changes input) js h) × (records_of input js h ≡ records_of (without_changes input) js h)
