-- Beside a control script, a slot of one CPU alone is not stopped where the script never clears its monitor.
use Rattle.std.proofs.Common.{◌≡◌, ℕ, Bool, true, false, ◌==◌, List, ◌∷◌, ◌++◌, arith, refl, sym, ◌∙◌}
use Rattle.std.specs.Prelude.{All}
use Rattle.rv_model.specs.declared.entry.Entry.{Entry}
use Rattle.rv_model.specs.declared.work.Change.{Change}
use Rattle.rv_model.specs.Cuts.{AtEach}
use Rattle.rv_model.specs.Histories.{Input, IsLegal, is_on}
use Rattle.rv_model.specs.Judging.{Judge}
use Rattle.rv_model.specs.Numbers.{has_bit}
use Rattle.rv_model.specs.Setups.{slot_of}
use Rattle.rv_laws.specs.Changes.{IsNeverCleared, UnclearedHasNoStop, AllUnclearedHaveNoStop, AllUnclearedGiveNoSix}
use Rattle.rv_laws.specs.SingleWriter.{HasInstance}
use Rattle.rv_laws.proofs.ControlLemmas.{PassesNoClear, control-free}
use Rattle.rv_laws.proofs.CpuLemmas.{slot-tells}
use Rattle.rv_laws.proofs.InstanceLemmas.{monitor-below}
use Rattle.rv_laws.proofs.OwnerLemmas.{IsByOwner, owner-of}
use Rattle.rv_laws.proofs.StatusLemmas.{free_gives_no_six}
use Rattle.rv_laws.proofs.StopLemmas.{owned-has-no-stop, no-stop-by-slot}

-- ---- one slot

-- a clear of another monitor's slot is not on the slot
uncleared-slot : (shape : List ℕ) (monitor instance set : ℕ) → HasInstance shape monitor instance → has_bit set monitor ≡ false → PassesNoClear (is_on (slot_of shape monitor instance)) shape set
uncleared-slot shape monitor instance set there uncleared other k has below = go (slot_of shape other k == slot_of shape monitor instance) refl
  where
    go : (b : Bool) → (slot_of shape other k == slot_of shape monitor instance) ≡ b → b ≡ false
    go true same =
        let slots : slot_of shape other k ≡ slot_of shape monitor instance = grind arith in
        let one = slot-tells shape other k monitor instance (record { monitor_below = monitor-below shape other k below; instance_below = below }) there slots in
        let no : true ≡ false = sym has ∙ (let here : has_bit set other ≡ false = rw one.0 uncleared in here) in cc
    go false differs = refl

module _ (input : Input) (js : List Judge) (h : List Entry) (legal : IsLegal input js h) (slot : ℕ) (uncleared : All (λ c. PassesNoClear (is_on slot) input.setup.shape c.clear) input.changes) where
  -- an entry on the slot is not the control actor's
  not-control : (before : List Entry) (e : Entry) (after : List Entry) → h ≡ before ++ e ∷ after → is_on slot e.act ≡ true → ¬ (e.seat ≡ 1)
  not-control before e after eq on control =
      let off = control-free input js h legal (is_on slot) (record { raise = λ bits. refl; lower = λ bits. refl }) uncleared before e after eq control in
      let no : true ≡ false = sym on ∙ off in cc

  -- so it is by a CPU that has a delivery for it
  uncleared-owner : AtEach (λ before e. is_on slot e.act ≡ true → IsByOwner input.setup.shape slot input.works e) h
  uncleared-owner before e after eq on = owner-of input js h legal slot before e after eq (not-control before e after eq on) on

-- nothing stops a lone slot of a monitor that no change clears
pub uncleared_has_no_stop : UnclearedHasNoStop
uncleared_has_no_stop input js h monitor instance legal uncleared there one_writer =
    let slot : ℕ = slot_of input.setup.shape monitor instance in
    owned-has-no-stop input js h slot legal one_writer (uncleared-owner input js h legal slot (λ k d lt. uncleared-slot input.setup.shape monitor instance _ there (uncleared k d lt)))

-- ---- all slots

-- where no monitor is cleared, no clear is on any slot
uncleared-all : (changes : List Change) (shape : List ℕ) (slot : ℕ) → ((monitor : ℕ) → IsNeverCleared changes monitor) → All (λ c. PassesNoClear (is_on slot) shape c.clear) changes
uncleared-all changes shape slot uncleared k d lt monitor i has below = let no : true ≡ false = sym has ∙ uncleared monitor k d lt in cc

-- nothing stops anything where no change clears a monitor
pub all_uncleared_have_no_stop : AllUnclearedHaveNoStop
all_uncleared_have_no_stop input js h legal uncleared one_writer before e after eq =
    no-stop-by-slot e.act (λ slot. owned-has-no-stop input js h slot legal (one_writer slot) (uncleared-owner input js h legal slot (uncleared-all input.changes input.setup.shape slot uncleared)) before e after eq)

-- so the status is not that of a stop
pub all_uncleared_give_no_six : AllUnclearedGiveNoSix
all_uncleared_give_no_six input js h legal uncleared one_writer = free_gives_no_six input js h legal (all_uncleared_have_no_stop input js h legal uncleared one_writer)
