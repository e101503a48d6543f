-- The clears of a set of monitors, monitor by monitor, and of a monitor, instance by instance.
use Rattle.std.proofs.Common.{◌≡◌, ℕ, suc, ◌+◌, Bool, true, false, List, [], ◌∷◌, ◌++◌, arith, refl, ap, ◌∙◌, append-nil}
use Rattle.std.specs.Prelude.{flat_map, slice_index, if◌then◌else◌}
use Rattle.std.proofs.lemmas.Grind.{flat_map-append}
use Rattle.rv_model.specs.declared.entry.Act.{Act}
use Rattle.rv_model.specs.declared.entry.Act.TheVariants.{Clear}
use Rattle.rv_model.specs.Numbers.{has_bit, list_of}
use Rattle.rv_model.specs.Setups.{slot_of}
use Rattle.rv_feed.specs.inner.Clearing.{of_instances}

-- ---- a list by its last

list-last : {X : Type 0} (f : ℕ → X) (n : ℕ) → list_of f (n + 1) ≡ list_of f n ++ f n ∷ []
unfolding list_of
list-last f n = let next : n + 1 ≡ suc n = omega arith in ap (list_of f) next

list-none : {X : Type 0} (f : ℕ → X) → list_of f 0 ≡ []
unfolding list_of
list-none f = refl

module _ (shape : List ℕ) where
  -- ---- the instances of a monitor

  pub no-instance : (monitor : ℕ) → of_instances shape monitor 0 ≡ []
  no-instance monitor = list-none (λ instance. Clear (slot_of shape monitor instance))

  pub one-instance : (monitor n : ℕ) → of_instances shape monitor (n + 1) ≡ of_instances shape monitor n ++ Clear (slot_of shape monitor n) ∷ []
  one-instance monitor n = list-last (λ instance. Clear (slot_of shape monitor instance)) n

  -- ---- the monitors of a set

  module _ (set : ℕ) where
    -- what is cleared of the first monitors
    abbrev pub of_monitors : ℕ → List Act
    of_monitors n = flat_map (λ monitor. if has_bit set monitor then of_instances shape monitor (slice_index shape monitor) else []) (list_of (λ m. m) n)

    pub no-monitor : of_monitors 0 ≡ []
    no-monitor = ap (flat_map (λ monitor. if has_bit set monitor then of_instances shape monitor (slice_index shape monitor) else [])) (list-none (λ m. m))

    one-monitor : (n : ℕ) → of_monitors (n + 1) ≡ of_monitors n ++ (if has_bit set n then of_instances shape n (slice_index shape n) else [])
    one-monitor n =
        let each : ℕ → List Act = λ monitor. if has_bit set monitor then of_instances shape monitor (slice_index shape monitor) else [] in
        ap (flat_map each) (list-last (λ m. m) n) ∙ flat_map-append each (list_of (λ m. m) n) (n ∷ []) ∙ ap (λ (z : List Act). of_monitors n ++ z) (append-nil (each n))

    -- one more, in the set or not
    pub monitor-on : (n : ℕ) → has_bit set n ≡ true → of_monitors (n + 1) ≡ of_monitors n ++ of_instances shape n (slice_index shape n)
    monitor-on n on = one-monitor n ∙ ap (λ (b : Bool). of_monitors n ++ (if b then of_instances shape n (slice_index shape n) else [])) on

    pub monitor-off : (n : ℕ) → has_bit set n ≡ false → of_monitors (n + 1) ≡ of_monitors n
    monitor-off n off = one-monitor n ∙ ap (λ (b : Bool). of_monitors n ++ (if b then of_instances shape n (slice_index shape n) else [])) off ∙ append-nil (of_monitors n)
