-- The slots of different instances differ, so a slot of a monitor by CPU is one CPU's.
use Rattle.std.proofs.Common.{◌≡◌, ℕ, zero, suc, ◌+◌, ◌<◌, true, ◌==◌, List, [], ◌∷◌, take, arith, refl, sym, ap, ◌∙◌}
use Rattle.std.specs.Prelude.{All, Contains}
use Rattle.std.proofs.lemmas.List.Elements.{All-contains}
use Rattle.std.proofs.lemmas.List.Folds.{Any-from_list_any}
use Rattle.std.proofs.lemmas.List.Sums.{sum_by-cons}
use Rattle.rv_model.specs.declared.work.Delivery.{Delivery}
use Rattle.rv_model.specs.Setups.{slot_of}
use Rattle.rv_model.specs.Works.{Work}
use Rattle.rv_laws.specs.SingleWriter.{is_named, HasInstance, HaveInstances, IsByCpu, CpuSlotsHaveOneWriter, AllByCpuHaveOneWriter}

-- ---- slots

-- the slots after a monitor's
pub slot-later : (count : ℕ) (shape : List ℕ) (monitor instance : ℕ) → slot_of (count ∷ shape) (suc monitor) instance ≡ count + slot_of shape monitor instance
slot-later count shape monitor instance = let front = sum_by-cons (λ (n : ℕ). n) count (take monitor shape) in omega arith

-- the slots of different instances differ
pub slot-tells : (shape : List ℕ) (m i n k : ℕ) → HasInstance shape m i → HasInstance shape n k → slot_of shape m i ≡ slot_of shape n k → (m ≡ n) × (i ≡ k)
slot-tells [] m i n k a b e = absurd (let none = a.monitor_below in omega arith)
slot-tells (count ∷ shape) zero i zero k a b e = (refl, (let same : 0 + i ≡ 0 + k = e in omega arith))
slot-tells (count ∷ shape) zero i (suc n) k a b e =
    let first : i < count = a.instance_below in
    let later = slot-later count shape n k in
    let same : 0 + i ≡ slot_of (count ∷ shape) (suc n) k = e in
    absurd (omega arith)
slot-tells (count ∷ shape) (suc m) i zero k a b e =
    let first : k < count = b.instance_below in
    let later = slot-later count shape m i in
    let same : slot_of (count ∷ shape) (suc m) i ≡ 0 + k = e in
    absurd (omega arith)
slot-tells (count ∷ shape) (suc m) i (suc n) k a b e =
    let left = slot-later count shape m i in
    let right = slot-later count shape n k in
    let same : slot_of shape m i ≡ slot_of shape n k = omega arith in
    let below = a.monitor_below in
    let below' = b.monitor_below in
    let rest = slot-tells shape m i n k (record { monitor_below = omega arith; instance_below = a.instance_below }) (record { monitor_below = omega arith; instance_below = b.instance_below }) same in
    (ap (λ (x : ℕ). suc x) rest.0, rest.1)

-- ---- works

-- a delivery of the work is for the slot
record IsFor (shape : List ℕ) (slot : ℕ) (w : Work) : Type 0 where
  delivery : Delivery
  has : Contains w.deliveries delivery
  at : slot_of shape delivery.monitor delivery.instance ≡ slot

-- where one is named, there is one
named-one : (shape : List ℕ) (slot : ℕ) (w : Work) → is_named shape slot w.deliveries ≡ true → IsFor shape slot w
named-one shape slot w named =
    let any = Any-from_list_any (λ d. slot_of shape d.monitor d.instance == slot) w.deliveries named in
    let at = any.4 in
    record { delivery = any.1; has = (any.0, any.2, any.3); at = grind arith }

module _ (shape : List ℕ) (works : List Work) (have : HaveInstances shape works) where
  -- the setup has the instance that a delivery is for
  has-instance : (w : Work) (d : Delivery) → Contains works w → Contains w.deliveries d → HasInstance shape d.monitor d.instance
  has-instance w d has one = All-contains (λ d. HasInstance shape d.monitor d.instance) w.deliveries d (All-contains (λ w. All (λ d. HasInstance shape d.monitor d.instance) w.deliveries) works w have has) one

  -- a delivery to a monitor by CPU is for its CPU's instance
  by-cpu : (monitor : ℕ) → IsByCpu works monitor → (w : Work) (d : Delivery) → Contains works w → Contains w.deliveries d → d.monitor ≡ monitor → d.instance ≡ w.cpu
  by-cpu monitor by w d has one = All-contains (λ d. d.monitor ≡ monitor → d.instance ≡ w.cpu) w.deliveries d (All-contains (λ w. All (λ d. d.monitor ≡ monitor → d.instance ≡ w.cpu) w.deliveries) works w by has) one

  -- deliveries for one slot are to one instance
  one-instance : (slot : ℕ) (w v : Work) → Contains works w → Contains works v → (a : IsFor shape slot w) (b : IsFor shape slot v) → (a.delivery.monitor ≡ b.delivery.monitor) × (a.delivery.instance ≡ b.delivery.instance)
  one-instance slot w v has has' a b = slot-tells shape a.delivery.monitor a.delivery.instance b.delivery.monitor b.delivery.instance (has-instance w a.delivery has a.has) (has-instance v b.delivery has' b.has) (a.at ∙ sym b.at)

-- the slots of a monitor by CPU are lone
pub cpu_slots_are_lone : CpuSlotsHaveOneWriter
cpu_slots_are_lone shape works monitor instance have by there w v has has' named named' =
    let slot : ℕ = slot_of shape monitor instance in
    let a = named-one shape slot w named in
    let b = named-one shape slot v named' in
    let same = one-instance shape works have slot w v has has' a b in
    let m = (slot-tells shape a.delivery.monitor a.delivery.instance monitor instance (has-instance shape works have w a.delivery has a.has) there a.at).0 in
    sym (by-cpu shape works have monitor by w a.delivery has a.has m) ∙ same.1 ∙ by-cpu shape works have monitor by v b.delivery has' b.has (sym same.0 ∙ m)

-- where all monitors are by CPU, all slots are lone
pub all_by_cpu_are_lone : AllByCpuHaveOneWriter
all_by_cpu_are_lone shape works have by slot w v has has' named named' =
    let a = named-one shape slot w named in
    let b = named-one shape slot v named' in
    let same = one-instance shape works have slot w v has has' a b in
    sym (by-cpu shape works have a.delivery.monitor (by a.delivery.monitor) w a.delivery has a.has refl) ∙ same.1 ∙ by-cpu shape works have a.delivery.monitor (by a.delivery.monitor) v b.delivery has' b.has (sym same.0)
