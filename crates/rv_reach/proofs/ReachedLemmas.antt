-- What the delivery of a record makes of what all monitors have reached.
use Rattle.std.proofs.Common.{◌≡◌, ◌≢◌, ℕ, ◌<◌, Bool, true, false, ◌&&◌, ◌==◌, List, length, get_or, refl, sym, ap, ◌∙◌, subst, arith, length-set}
use Rattle.std.specs.Bool.{if◌then◌else◌}
use Rattle.std.specs.Vec.{with_item}
use Rattle.std.proofs.lemmas.List.{get_or-set_other, get_or-set_same, get_or_read}
use Rattle.rv_model.specs.declared.entry.Act.TheVariants.{Deliver, End}
use Rattle.rv_model.specs.declared.entry.Entry.{Entry}
use Rattle.rv_model.specs.declared.formula.Spec.{Spec}
use Rattle.rv_model.specs.declared.hit.Hit.{Hit}
use Rattle.rv_model.specs.declared.record.Record.{Record}
use Rattle.rv_model.specs.Scripts.{is_end}
use Rattle.rv_model.specs.Setups.{monitor_of, slot_of}
use Rattle.rv_slots.proofs.ShapeLemmas.{monitor_of-slot_of}
use Rattle.rv_bind.specs.declared.bindings.Bindings.{Bindings}
use Rattle.rv_bind.specs.declared.bindings.Monitor.{Monitor}
use Rattle.rv_core.specs.declared.phase.RowPhase.{RowPhase}
use Rattle.rv_core.specs.Core.{CoreValue}
use Rattle.rv_replay.specs.Observing.{MakesRecord}
use Rattle.rv_reach.specs.declared.monitor.MonitorReach.{MonitorReach}
use Rattle.rv_reach.specs.declared.reached.Reached.{Reached}
use Rattle.rv_reach.specs.Reached.{delivers, ends, of_delivery}
use Rattle.rv_reach.specs.Watching.{AreReached, IsReach}
use Rattle.rv_reach.specs.inner.Counters.{ReachesRecord}
use Rattle.rv_reach.specs.Passing.{monitor-stays, with_entry}
use Rattle.rv_reach.proofs.ActLemmas.{apart, apart-number, end-apart, end-none, no-end, on-other, other-number, told-same}

-- ---- another monitor

module _ (core : CoreValue) (e : Entry) (slot k : ℕ) (of : Spec) (m : MonitorReach) (lt : k < length core.setup.shape) (other : monitor_of core.setup.shape slot ≢ k) (is : IsReach core k of m) where
  -- its slots are others
  slot-other : (i : ℕ) → i < length m.instances.items → slot ≢ slot_of core.setup.shape k i
  slot-other i within same =
      other (ap (monitor_of core.setup.shape) same ∙ monitor_of-slot_of core.setup.shape k i lt (let n = is.instances_many in omega arith))

  -- a delivery leaves it as it is
  other-delivered : (hit : Hit) → e.act ≡ Deliver slot hit → IsReach (with_entry core e) k of m
  other-delivered hit act =
      let none : (asked : ℕ → Hit → Bool) → delivers core.setup k asked e ≡ false = λ asked.
      ap (of_delivery (λ at h. monitor_of core.setup.shape at == k && asked at h)) act ∙ ap (λ (b : Bool). b && asked slot hit) (other-number (monitor_of core.setup.shape slot) k other) in
      monitor-stays core e k of m none (no-end core e slot hit act k)
      (λ i within. (on-other core e slot hit act (slot_of core.setup.shape k i) (slot-other i within), apart core e slot hit act (slot_of core.setup.shape k i) (slot-other i within))) is

  -- and so does an end
  other-ended : e.act ≡ End slot → IsReach (with_entry core e) k of m
  other-ended act =
      monitor-stays core e k of m (λ asked. end-none core e slot act _) (ap (ends core.setup k) act ∙ other-number (monitor_of core.setup.shape slot) k other)
      (λ i within. ((λ asked. end-none core e slot act _), end-apart core e slot act (slot_of core.setup.shape k i) (slot-other i within))) is

  -- so the act of a hit leaves it as it is
  pub other-stays : (hit : Hit) (b : Bool) → e.act ≡ (if b then End slot else Deliver slot hit) → IsReach (with_entry core e) k of m
  other-stays hit true act = other-ended act
  other-stays hit false act = other-delivered hit act

-- ---- all monitors

module _ (b : Bindings) (new : CoreValue) (slot : ℕ) (before : RowPhase) (r : Record) (o o' : Reached)
    (many : length o'.monitors.items ≡ length o.monitors.items)
    (others : (k : ℕ) (any : MonitorReach) → k < length o.monitors.items → k ≢ r.monitor → get_or o'.monitors.items k any ≡ get_or o.monitors.items k any)
    (here : (m : Monitor) (any : MonitorReach) → r.monitor < length o.monitors.items → r.monitor < length b.monitors.items → ReachesRecord (get_or b.monitors.items r.monitor m).spec new slot before r (get_or o.monitors.items r.monitor any) (get_or o'.monitors.items r.monitor any)) where
  module _ (old : CoreValue) (makes : MakesRecord old new slot before r) (are : AreReached b old o) where
    -- the monitor at a place
    at-place : (k : ℕ) (m : Monitor) (any : MonitorReach) → k < length old.setup.shape → (t : Bool) → (k == r.monitor) ≡ t → IsReach new k (get_or b.monitors.items k m).spec (get_or o'.monitors.items k any)
    at-place k m any lt true is =
        let same : r.monitor ≡ k = sym (told-same k r.monitor is) in
        let P : ℕ → Type 0 = λ (n : ℕ). n < length old.setup.shape → IsReach new n (get_or b.monitors.items n m).spec (get_or o'.monitors.items n any) in
        subst P same (λ within. here m any (let n = are.many in omega arith) (let n = are.bound in omega arith) old makes (are.each r.monitor m any within)) lt
    at-place k m any lt false is =
        let apart_from : k ≢ r.monitor = apart-number k r.monitor is in
        let stays : IsReach (with_entry old makes.entry) k (get_or b.monitors.items k m).spec (get_or o.monitors.items k any) =
        other-stays old makes.entry slot k (get_or b.monitors.items k m).spec (get_or o.monitors.items k any) lt (λ there. apart_from (sym there ∙ makes.monitor_is)) (are.each k m any lt)
        r.hit (is_end r.hit.mode) makes.act_is in
        subst (IsReach new k (get_or b.monitors.items k m).spec) (sym (others k any (let n = are.many in omega arith) apart_from))
        (subst (λ (core : CoreValue). IsReach core k (get_or b.monitors.items k m).spec (get_or o.monitors.items k any)) (sym makes.grows) stays)

    -- the shape is that of the machine before
    shape-is : new.setup.shape ≡ old.setup.shape
    shape-is = ap (λ (core : CoreValue). core.setup.shape) makes.grows

    -- each has reached what it has with the delivery
    pub are-observed : AreReached b new o'
    are-observed = record {
      bound = are.bound ∙ sym (ap length shape-is);
      many = many ∙ are.many ∙ sym (ap length shape-is);
      each = λ k m any lt. at-place k m any (let n : length new.setup.shape ≡ length old.setup.shape = ap length shape-is in omega arith) (k == r.monitor) refl;
    }

-- where the one monitor was told of the record
pub observed-set : (b : Bindings) (new : CoreValue) (slot : ℕ) (before : RowPhase) (r : Record) (o : Reached) (monitor : Monitor) (was now : MonitorReach) → r.monitor < length o.monitors.items → r.monitor < length b.monitors.items → monitor ≡ get_or b.monitors.items r.monitor monitor
    → was ≡ get_or o.monitors.items r.monitor was → ReachesRecord monitor.spec new slot before r was now → (old : CoreValue) → MakesRecord old new slot before r → AreReached b old o → AreReached b new (record { monitors = with_item o.monitors r.monitor now })
observed-set b new slot before r o monitor was now inside bound read got reaches =
    let ms : List MonitorReach = o.monitors.items in
    are-observed b new slot before r o (record { monitors = with_item o.monitors r.monitor now }) (length-set ms r.monitor now) (λ k any lt ne. get_or-set_other ms r.monitor k now any ne)
    (λ m any lt lt'.
    let P : Monitor → MonitorReach → MonitorReach → Type 0 = λ x y z. ReachesRecord x.spec new slot before r y z in
    subst (λ (z : MonitorReach). P (get_or b.monitors.items r.monitor m) (get_or ms r.monitor any) z) (sym (get_or-set_same ms r.monitor now any inside))
    (subst (λ (y : MonitorReach). P (get_or b.monitors.items r.monitor m) y now) (get_or_read ms r.monitor was inside got any)
    (subst (λ (x : Monitor). P x was now) (get_or_read b.monitors.items r.monitor monitor bound read m) reaches)))

-- there is no such monitor
pub observed-none : (b : Bindings) (new : CoreValue) (slot : ℕ) (before : RowPhase) (r : Record) (o : Reached) → (r.monitor < length o.monitors.items → r.monitor < length b.monitors.items → ⊥) → (old : CoreValue) → MakesRecord old new slot before r → AreReached b old o → AreReached b new o
observed-none b new slot before r o none = are-observed b new slot before r o o refl (λ k any lt ne. refl) (λ m any lt lt'. absurd (none lt lt'))
