-- Each kind of step is allowed.
use Rattle.std.proofs.Common.{◌≡◌, ℕ, ◌+◌, ◌-◌, ◌^◌, ◌<◌, ◌==◌, refl, ap, sym, subst, arith, sum, Fits, w64}
use Rattle.std.specs.Prelude.{bit_and, bit_or}
use Rattle.std.specs.Int.{bit_not}
use Rattle.std.specs.Int.Bits.{and_lt}
use Rattle.std.proofs.Math.Facts.{Fits-or}
use mathlib.Core.Option.{some, none}
use prog.Atomic.{either}
use Rattle.atomic_table.specs.Table.{step, Allows}
use Rattle.rv_model.specs.declared.entry.Act.{Act}
use Rattle.rv_model.specs.declared.entry.Act.TheVariants.{Deliver, Stop, Look, Raise, Lower, Clear, End}
use Rattle.rv_model.specs.declared.hit.Hit.{Hit}
use Rattle.rv_model.specs.Setups.{Setup, start_of}
use Rattle.rv_model.specs.Histories.{IsPermittedTo, LostThrice}
use Rattle.rv_core.specs.Advance.{FitsTable, WhatFits, advanced}
use Rattle.rv_core.specs.Setup.{table_at}
use Rattle.rv_word.specs.Words.{packed}
use Rattle.rv_board.specs.inner.Rule.{place_in, KeptPlainly, width, index_at}
use Rattle.rv_board.specs.inner.Steps.{Ours, IsActStep, IsLoadStep, IsExchangeStep, IsLookStep, IsRaiseStep, IsLowerStep, IsClearStep, IsEndStep, IsStopStep}
use Rattle.rv_board.specs.Seats.{IsUsable}
use Rattle.rv_board.proofs.StepLemmas.{makes, tries, sees}
use Rattle.rv_board.proofs.CallLemmas.{may}
use Rattle.rv_board.proofs.SpacingLemmas.{front-place, slot-at}

-- a union of two words is a word
or-small : (n bits : ℕ) → n < 18446744073709551616 → bits < 2 ^ 64 → bit_or n bits < 2 ^ 64
or-small n bits a b = let f : Fits w64 n = record { fits = a } in let g : Fits w64 bits = record { fits = b } in (Fits-or f g).fits

module _ {k : Setup} (slots id : ℕ) {number end : ℕ} {me : Ours} (u : IsUsable number end me) (setup : me.0.setup ≡ k) where
  -- a load
  pub loads : (i : ℕ) {place : ℕ} → place ≡ place_in k i → i < width k → Allows (KeptPlainly k) slots id me place (λ n. n) (IsLoadStep (step slots place 0 0 none) me)
  loads i at inside = sees k slots id me i at inside setup u.has

  -- a step on the switches is one at place 0
  at-front : (f : ℕ → ℕ) (then : ℕ → Ours → Type 0) → Allows (KeptPlainly k) slots id me (place_in k 0) f then → Allows (KeptPlainly k) slots id me 0 f then
  at-front f then allowed = subst (λ (z : ℕ). Allows (KeptPlainly k) slots id me z f then) (sym (front-place (sum k.shape))) allowed

  -- a step on a slot's word is one at its place
  at-slot : (f : ℕ → ℕ) (act : ℕ → Act) (slot : ℕ) {place : ℕ} → place ≡ place_in k (slot + 1) → Allows (KeptPlainly k) slots id me (place_in k (slot + 1)) f (IsActStep (act slot) me)
      → Allows (KeptPlainly k) slots id me place f (IsActStep (act (index_at (sum me.0.setup.shape) place - 1)) me)
  at-slot f act slot {place} at allowed = subst (λ (z : ℕ × ℕ). Allows (KeptPlainly k) slots id me z.0 f (IsActStep (act z.1) me)) (λ j. (sym at j, sym (slot-at slot setup at) j)) allowed

  -- a look
  pub looks : Allows (KeptPlainly k) slots id me 0 (λ n. n) (IsLookStep (step slots 0 0 0 none) me)
  looks = at-front (λ n. n) (IsActStep Look me) (makes k slots id me Look (λ n. n) (may k number end me Look u setup tt tt tt tt) (λ n small. (refl, small)))

  -- switches that go on
  pub raises : (bits : ℕ) → bits < 2 ^ 64 → IsPermittedTo (Raise bits) me.0.part.number → Allows (KeptPlainly k) slots id me 0 (λ n. bit_or n bits) (IsRaiseStep (step slots 0 bits 0 none) me)
  raises bits low held = at-front (λ n. bit_or n bits) (IsActStep (Raise bits) me) (makes k slots id me (Raise bits) (λ n. bit_or n bits) (may k number end me (Raise bits) u setup tt low held tt) (λ n small. (refl, or-small n bits small low)))

  -- switches that go off
  pub lowers : (mask : ℕ) → mask < 2 ^ 64 → me.0.part.number ≡ 1 → Allows (KeptPlainly k) slots id me 0 (λ n. bit_and n mask) (IsLowerStep (step slots 0 mask 0 none) me)
  lowers mask low actor =
      let bits : ℕ = bit_not w64 mask in
      let same : mask ≡ bit_not w64 bits = omega arith in
      at-front (λ n. bit_and n mask) (IsActStep (Lower bits) me) (makes k slots id me (Lower bits) (λ n. bit_and n mask) (may k number end me (Lower bits) u setup tt (omega arith) actor tt) (λ n small. (ap (bit_and n) same, and_lt 64 n mask small low)))

  -- a clear
  pub clears : (slot first : ℕ) {place : ℕ} → place ≡ place_in k (slot + 1) → slot < sum k.shape → (start_of k slot < 2 ^ 32) × (first ≡ packed 1 (start_of k slot)) → me.0.part.number ≡ 1 → Allows (KeptPlainly k) slots id me place (λ _. first) (IsClearStep (step slots place first 0 none) me)
  clears slot first at inside opens actor =
      let low = opens.0 in
      at-slot (λ _. first) Clear slot at (makes k slots id me (Clear slot) (λ _. first) (may k number end me (Clear slot) u setup inside low actor tt) (λ n _. (opens.1, omega arith)))

  -- an end
  pub ends : (slot first : ℕ) {place : ℕ} → place ≡ place_in k (slot + 1) → slot < sum k.shape → (start_of k slot < 2 ^ 32) × (first ≡ packed 1 (start_of k slot)) → Allows (KeptPlainly k) slots id me place (λ _. first) (IsEndStep (step slots place first 0 none) me)
  ends slot first at inside opens =
      let low = opens.0 in
      at-slot (λ _. first) End slot at (makes k slots id me (End slot) (λ _. first) (may k number end me (End slot) u setup inside low tt tt) (λ n _. (opens.1, omega arith)))

  -- a stop, which three lost tries justify
  pub stops : (slot : ℕ) {place : ℕ} → place ≡ place_in k (slot + 1) → slot < sum k.shape → LostThrice slot me.0.part.number me.0.part.seen → Allows (KeptPlainly k) slots id me place (λ _. 0) (IsStopStep (step slots place 0 0 none) me)
  stops slot at inside lost =
      at-slot (λ _. 0) Stop slot at
      (makes k slots id me (Stop slot) (λ _. 0) record { setup = setup; has = u.has; small = u.small; fits = inside; bits = tt; permitted = tt; justified = lost } (λ n _. (refl, omega arith)))

  -- a compare-exchange to the next word
  pub exchanges : (slot old new : ℕ) (hit : Hit) {place : ℕ} → place ≡ place_in k (slot + 1) → slot < sum k.shape → FitsTable (table_at k slot) hit → WhatFits hit.what → new ≡ (advanced (table_at k slot) old hit).1 → new < 2 ^ 64
      → Allows (KeptPlainly k) slots id me place (λ n. either (n == old) new n) (IsExchangeStep (step slots place old new (some (Deliver slot hit))) me)
  exchanges slot old new hit at inside fits bits is low =
      subst (λ (z : ℕ). Allows (KeptPlainly k) slots id me z (λ n. either (n == old) new n) (IsExchangeStep (step slots z old new (some (Deliver slot hit))) me)) (sym at)
      (tries k slots id me (Deliver slot hit) old new (may k number end me (Deliver slot hit) u setup (inside, fits) bits tt tt) is low)
