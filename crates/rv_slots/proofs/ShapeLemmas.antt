-- A slot's monitor is found again, and found by the first slots of all.
use Rattle.std.proofs.Common.{◌≡◌, ℕ, zero, suc, ◌+◌, ◌-◌, ◌<◌, ◌≤◌, Bool, List, [], ◌∷◌, ◌++◌, true, false, sum, take, length, slice_index, nat_lt, leb, refl, sym, ap, ◌∙◌, arith}
use Rattle.std.specs.List.Sorted.{IsNonDecreasingBy, IsPartitionedBy, IsPartitionPoint}
use Rattle.std.proofs.lemmas.Bool.{leb-true, leb-false}
use Rattle.std.proofs.lemmas.List.{take_all, take-append-le, get_or_default, get_or_append_left, get_or_push, length_push}
use Rattle.std.proofs.lemmas.List.Sorted.{IsNonDecreasingBy-from_all_adjacent, IsPartitionedBy-leb}
use Rattle.std.proofs.lemmas.List.Sums.{sum_by-append, sum_by-take-drop, sum_by_more}
use Rattle.rv_model.specs.Setups.{monitor_of, slot_of}
use Rattle.rv_model.specs.declared.work.Scope.{Scope}
use Rattle.rv_model.specs.declared.work.Scope.TheVariants.{Global, Cpu, Task}
use Rattle.rv_slots.specs.Shapes.{AreBases, count_of}

-- a sum by its first number
pub sum-cons : (count : ℕ) (shape : List ℕ) → sum (count ∷ shape) ≡ count + sum shape
sum-cons count shape = let parts = sum_by-take-drop (λ (x : ℕ). x) (count ∷ shape) 1 in omega arith

-- a sum by its last number
pub sum-push : (shape : List ℕ) (count : ℕ) → sum (shape ++ count ∷ []) ≡ sum shape + count
sum-push shape count = let parts = sum_by-append (λ (x : ℕ). x) shape (count ∷ []) in omega arith

-- the monitor of a slot that the first monitor does not have
monitor-past : (count : ℕ) (shape : List ℕ) (slot : ℕ) → monitor_of (count ∷ shape) (count + slot) ≡ 1 + monitor_of shape slot
monitor-past count shape slot =
    let past : nat_lt (count + slot) count ≡ false = grind arith in
    let left : (count + slot) - count ≡ slot = omega arith in
    rw (past, left) refl

-- the slot of a monitor's instance is of that monitor
pub monitor_of-slot_of : (shape : List ℕ) (monitor instance : ℕ) → monitor < length shape → instance < slice_index shape monitor → monitor_of shape (slot_of shape monitor instance) ≡ monitor
monitor_of-slot_of [] monitor instance there below = absurd (omega (arith, there))
monitor_of-slot_of (count ∷ shape) zero instance there below =
    let first : sum (take 0 (count ∷ shape)) + instance ≡ instance = omega arith in
    let within : nat_lt instance count ≡ true = grind (arith, below) in
    rw (first, within) refl
monitor_of-slot_of (count ∷ shape) (suc monitor) instance there below =
    let parts : sum (take (suc monitor) (count ∷ shape)) + instance ≡ count + (sum (take monitor shape) + instance) = let front = sum-cons count (take monitor shape) in omega arith in
    let rest = monitor_of-slot_of shape monitor instance (omega (arith, there)) below in
    ap (monitor_of (count ∷ shape)) parts ∙ monitor-past count shape (slot_of shape monitor instance) ∙ (let found : monitor_of shape (slot_of shape monitor instance) ≡ monitor = rest in omega arith)

-- one monitor more
pub sum-more : (shape : List ℕ) (monitor : ℕ) → monitor < length shape → sum (take (monitor + 1) shape) ≡ sum (take monitor shape) + slice_index shape monitor
sum-more shape monitor there = sum_by_more (λ (x : ℕ). x) shape monitor 0 there

-- what stands between a monitor's first slot and the next one's is its own
pub monitor_of-between : (shape : List ℕ) (monitor slot : ℕ) → monitor < length shape → sum (take monitor shape) ≤ slot → slot < sum (take (monitor + 1) shape) → monitor_of shape slot ≡ monitor
monitor_of-between shape monitor slot there first last =
    let more = sum-more shape monitor there in
    let instance : slot - sum (take monitor shape) < slice_index shape monitor = omega (arith, first, last, more) in
    let same : slot_of shape monitor (slot - sum (take monitor shape)) ≡ slot = omega (arith, first) in
    ap (monitor_of shape) (sym same) ∙ monitor_of-slot_of shape monitor (slot - sum (take monitor shape)) there instance

module _ (shape bases : List ℕ) (are : AreBases shape bases) (slot : ℕ) where
  -- the first slots ascend
  ascend : IsNonDecreasingBy (λ (base : ℕ). base) bases
  ascend = IsNonDecreasingBy-from_all_adjacent (λ (base : ℕ). base) bases (λ k d within.
      let there : k < length shape = omega (arith, within, are.0) in
      let this = are.1 k (omega (arith, there)) in
      let next = are.1 (k + 1) (omega (arith, there)) in
      let more = sum-more shape k there in
      let a = get_or_default bases k d 0 (omega (arith, within)) in
      let b = get_or_default bases (k + 1) d 0 within in
      omega (arith, this, next, more, a, b))

  pub parted : IsPartitionedBy (λ (base : ℕ). leb base slot) bases
  parted = IsPartitionedBy-leb (λ (base : ℕ). base) bases slot ascend

  module _ (within : slot < sum shape) where
    -- the first monitor's first slot is not above it
    pub some-before : (k : ℕ) → IsPartitionPoint (λ (base : ℕ). leb base slot ≡ true) (λ base. leb base slot ≡ false) bases k → 1 ≤ k
    some-before zero point =
        let above = leb-false (slice_index bases 0) slot (point.1 0 0 (omega arith) (omega (arith, are.0))) in
        let first : slice_index bases 0 ≡ 0 = are.1 0 (omega arith) in
        absurd (omega (arith, above, first))
    some-before (suc k) point = omega arith

    module _ (k : ℕ) (point : IsPartitionPoint (λ (base : ℕ). leb base slot ≡ true) (λ base. leb base slot ≡ false) bases k) where
      -- what stands behind all monitors is above it
      pub not-behind : k ≤ length shape
      not-behind = go (leb k (length shape)) refl
        where
          go : (b : Bool) → leb k (length shape) ≡ b → k ≤ length shape
          go true is = leb-true k (length shape) is
          go false is =
              let past = leb-false k (length shape) is in
              let low = leb-true (slice_index bases (length shape)) slot (point.0 (length shape) 0 (omega arith) past) in
              let all : slice_index bases (length shape) ≡ sum shape = are.1 (length shape) (omega arith) ∙ ap sum (take_all (length shape) shape (omega arith)) in
              absurd (omega (arith, low, all, within))

      pub begins-before : 1 ≤ k → sum (take (k - 1) shape) ≤ slot
      begins-before some =
          let low = leb-true (slice_index bases (k - 1)) slot (point.0 (k - 1) 0 (omega arith) (omega (arith, some))) in
          let base = are.1 (k - 1) (omega (arith, not-behind)) in
          omega (arith, low, base)

      pub ends-behind : slot < sum (take k shape)
      ends-behind =
          let high = leb-false (slice_index bases k) slot (point.1 k 0 (omega arith) (omega (arith, not-behind, are.0))) in
          let base = are.1 k not-behind in
          omega (arith, high, base)

-- with no monitor all slots begin at 0
pub first-base : AreBases [] (0 ∷ [])
first-base = (refl, λ monitor within. let none : monitor ≡ 0 = omega arith in rw none refl)

-- one monitor more begins behind the others
pub base-more : (shape bases : List ℕ) (slots : ℕ) (count : ℕ) → slots ≡ sum shape → AreBases shape bases → AreBases (shape ++ count ∷ []) (bases ++ (slots + count) ∷ [])
base-more shape bases slots count all are = (omega (arith, length_push bases (slots + count), length_push shape count, are.0), λ monitor within. at monitor within (leb monitor (length shape)) refl)
  where
    at : (monitor : ℕ) → monitor ≤ length (shape ++ count ∷ []) → (b : Bool) → leb monitor (length shape) ≡ b → slice_index (bases ++ (slots + count) ∷ []) monitor ≡ sum (take monitor (shape ++ count ∷ []))
    at monitor within true is =
        let low = leb-true monitor (length shape) is in
        get_or_append_left bases ((slots + count) ∷ []) 0 monitor (omega (arith, are.0)) ∙ are.1 monitor low ∙ ap sum (sym (take-append-le monitor shape (count ∷ []) low))
    at monitor within false is =
        let high = leb-false monitor (length shape) is in
        let last : length bases ≡ monitor = omega (arith, high, within, length_push shape count, are.0) in
        get_or_push bases (slots + count) 0 monitor last ∙ ap (λ n. n + count) all ∙ sym (sum-push shape count) ∙ ap sum (sym (take_all monitor (shape ++ count ∷ []) (omega (arith, high, length_push shape count))))

-- a monitor has at most as many slots as there may be tasks
pub few-slots : (tasks : ℕ) (scope : Scope) → tasks ≤ 65536 → count_of tasks scope ≤ 65536
few-slots tasks Global few = omega arith
few-slots tasks Cpu few = omega arith
few-slots tasks Task few = few
