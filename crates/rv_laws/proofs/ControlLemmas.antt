-- What the control actor never does: a test that no switch passes, and none of the slots that its changes clear, no act of it passes. So it makes no deliveries.
use Rattle.std.proofs.Common.{◌≡◌, ℕ, zero, suc, ◌<◌, Bool, true, false, ◌==◌, ◌||◌, List, [], ◌∷◌, ◌++◌, arith, refl, sym, ap, ◌∙◌}
use Rattle.std.specs.Prelude.{flat_map, length, slice_index, All, if◌then◌else◌}
use Rattle.std.specs.List.{list_any}
use Rattle.std.proofs.lemmas.List.Elements.{All-head, All-tail}
use Rattle.std.proofs.lemmas.List.Folds.{list_any-append}
use Rattle.rv_model.specs.declared.entry.Act.{Act}
use Rattle.rv_model.specs.declared.entry.Act.TheVariants.{Raise, Lower, Clear}
use Rattle.rv_model.specs.declared.entry.Entry.{Entry}
use Rattle.rv_model.specs.declared.work.Change.{Change}
use Rattle.rv_model.specs.Histories.{Input, IsLegal, acts_of}
use Rattle.rv_model.specs.Judging.{Judge}
use Rattle.rv_model.specs.Numbers.{has_bit, list_of}
use Rattle.rv_model.specs.Records.{is_delivery_act}
use Rattle.rv_model.specs.Scripts.{bits_act, clears, change_acts, control_acts}
use Rattle.rv_model.specs.Setups.{slot_of}

-- neither of two tests holds
neither : (a b : Bool) → (a || b) ≡ false → (a ≡ false) × (b ≡ false)
neither true b e = absurd (let wrong : true ≡ false = e in cc)
neither false b e = (refl, e)

-- ---- acts that pass no test

module _ (test : Act → Bool) where
  -- no act of the list passes the test
  abbrev NonePass : List Act → Type 0
  NonePass acts = list_any test acts ≡ false

  -- lists after lists
  none-append : (a b : List Act) → NonePass a → NonePass b → NonePass (a ++ b)
  none-append a b h g = list_any-append test a b ∙ ap (λ (z : Bool). z || list_any test b) h ∙ g

  -- lists of many things
  none-flat_map : {X : Type 0} (f : X → List Act) → ((x : X) → NonePass (f x)) → (xs : List X) → NonePass (flat_map f xs)
  none-flat_map f each [] = refl
  none-flat_map f each (x ∷ xs) = none-append (f x) (flat_map f xs) (each x) (none-flat_map f each xs)

  -- one act for each number
  none-list_of : (f : ℕ → Act) (n : ℕ) → ((k : ℕ) → k < n → test (f k) ≡ false) → NonePass (list_of f n)
  unfolding list_of
  none-list_of f zero each = refl
  none-list_of f (suc n) each = none-append (list_of f n) (f n ∷ []) (none-list_of f n (λ k lt. each k (omega arith))) (ap (λ (z : Bool). z || false) (each n (omega arith)))

  -- the act on some bits
  none-bits : (act : ℕ → Act) → ((bits : ℕ) → test (act bits) ≡ false) → (bits : ℕ) → NonePass (bits_act act bits)
  none-bits act each bits = go (bits == 0) refl
    where
      go : (b : Bool) → (bits == 0) ≡ b → NonePass (bits_act act bits)
      go true none = rw none refl
      go false some = rw some (ap (λ (z : Bool). z || false) (each bits))

  -- where none of a seat's acts passes, none of its entries does
  none-entry : (seat : ℕ) (before : List Entry) (e : Entry) (after : List Entry) → NonePass (acts_of seat (before ++ e ∷ after)) → e.seat ≡ seat → test e.act ≡ false
  none-entry seat [] e after none at =
      let mine : (e.seat == seat) ≡ true = grind arith in
      let first : (test e.act || list_any test (acts_of seat after)) ≡ false = rw mine at none in
      (neither (test e.act) (list_any test (acts_of seat after)) first).0
  none-entry seat (x ∷ before) e after none at = go (x.seat == seat) refl (λ rest. none-entry seat before e after rest at)
    where
      go : (b : Bool) → (x.seat == seat) ≡ b → (NonePass (acts_of seat (before ++ e ∷ after)) → test e.act ≡ false) → test e.act ≡ false
      go true mine rest =
          let both : (test x.act || list_any test (acts_of seat (before ++ e ∷ after))) ≡ false = rw mine at none in
          rest (neither (test x.act) (list_any test (acts_of seat (before ++ e ∷ after))) both).1
      go false other rest = rest (rw other at none)

-- no act on the switches passes the test
pub record PassesNoSwitch (test : Act → Bool) : Type 0 where
  pub raise : (bits : ℕ) → test (Raise bits) ≡ false
  pub lower : (bits : ℕ) → test (Lower bits) ≡ false

-- nor the clearing of a slot of a monitor of the set
abbrev pub PassesNoClear : (Act → Bool) → List ℕ → ℕ → Type 0
PassesNoClear test shape set = (monitor k : ℕ) → has_bit set monitor ≡ true → k < slice_index shape monitor → test (Clear (slot_of shape monitor k)) ≡ false

module _ (test : Act → Bool) (shape : List ℕ) (free : PassesNoSwitch test) where
  -- what clears slots
  none-clears : (set : ℕ) → PassesNoClear test shape set → NonePass test (clears shape set)
  none-clears set uncleared = none-flat_map test (λ monitor. if has_bit set monitor then list_of (λ k. Clear (slot_of shape monitor k)) (slice_index shape monitor) else []) one (list_of (λ m. m) (length shape))
    where
      one : (monitor : ℕ) → NonePass test (if has_bit set monitor then list_of (λ k. Clear (slot_of shape monitor k)) (slice_index shape monitor) else [])
      one monitor = go (has_bit set monitor) refl
        where
          go : (b : Bool) → has_bit set monitor ≡ b → NonePass test (if b then list_of (λ k. Clear (slot_of shape monitor k)) (slice_index shape monitor) else [])
          go true has = none-list_of test (λ k. Clear (slot_of shape monitor k)) (slice_index shape monitor) (λ k lt. uncleared monitor k has lt)
          go false not = refl

  -- the acts of a change
  none-change : (c : Change) → PassesNoClear test shape c.clear → NonePass test (change_acts shape c)
  none-change c uncleared =
      let first = none-append test (bits_act Lower c.lower) (clears shape c.clear) (none-bits test Lower free.lower c.lower) (none-clears c.clear uncleared) in
      none-append test (bits_act Lower c.lower ++ clears shape c.clear) (bits_act Raise c.raise) first (none-bits test Raise free.raise c.raise)

  -- what the control actor does
  none-control : (changes : List Change) → All (λ c. PassesNoClear test shape c.clear) changes → NonePass test (control_acts shape changes)
  none-control [] uncleared = refl
  none-control (c ∷ changes) uncleared =
      none-append test (change_acts shape c) (control_acts shape changes) (none-change c (All-head (λ c. PassesNoClear test shape c.clear) c changes uncleared))
      (none-control changes (All-tail (λ c. PassesNoClear test shape c.clear) c changes uncleared))

-- ---- a history
module _ (input : Input) (js : List Judge) (h : List Entry) (legal : IsLegal input js h) where
  -- no entry of the control actor passes the test
  pub control-free : (test : Act → Bool) → PassesNoSwitch test → All (λ c. PassesNoClear test input.setup.shape c.clear) input.changes → (before : List Entry) (e : Entry) (after : List Entry) → h ≡ before ++ e ∷ after → e.seat ≡ 1 → test e.act ≡ false
  control-free test free uncleared before e after eq at =
      none-entry test 1 before e after (ap (λ (z : List Entry). list_any test (acts_of 1 z)) (sym eq) ∙ ap (list_any test) legal.control ∙ none-control test input.setup.shape free input.changes uncleared) at

  -- the control actor's entries make no deliveries
  pub control-none : (before : List Entry) (e : Entry) (after : List Entry) → h ≡ before ++ e ∷ after → e.seat ≡ 1 → is_delivery_act e.act ≡ false
  control-none = control-free is_delivery_act (record { raise = λ bits. refl; lower = λ bits. refl }) (all_of input.changes)
    where
      all_of : (changes : List Change) → All (λ c. PassesNoClear is_delivery_act input.setup.shape c.clear) changes
      all_of changes k d lt monitor i has below = refl
