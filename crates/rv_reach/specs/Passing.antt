-- What an entry leaves as it is that is no delivery and no end of a monitor.
use Rattle.std.proofs.Common.{◌≡◌, ◌≢◌, ℕ, ◌+◌, ◌<◌, Bool, false, not, ◌&&◌, ◌==◌, List, [], ◌∷◌, ◌++◌, length, reverse, get_or, refl, sym, ap, ◌∙◌, add-one, suc-ne-zero}
use Rattle.std.proofs.lemmas.List.{reverse-append}
use Rattle.rv_model.specs.declared.entry.Act.{Act}
use Rattle.rv_model.specs.declared.entry.Act.TheVariants.{Deliver, Stop, Look, Raise, Lower, Clear, End}
use Rattle.rv_model.specs.declared.entry.Answer.{Answer}
use Rattle.rv_model.specs.declared.entry.Entry.{Entry}
use Rattle.rv_model.specs.declared.formula.Spec.{Spec}
use Rattle.rv_model.specs.declared.hit.Hit.{Hit}
use Rattle.rv_model.specs.Judging.{Judge}
use Rattle.rv_model.specs.Phases.{level, phase_of}
use Rattle.rv_model.specs.Scripts.{fails}
use Rattle.rv_model.specs.Setups.{Setup, judge_of, slot_of, start_of}
use Rattle.rv_model.specs.SharedWords.{answer_at}
use Rattle.rv_bind.specs.declared.bindings.Bindings.{Bindings}
use Rattle.rv_core.specs.Core.{CoreValue}
use Rattle.rv_core.specs.RowPhases.{phase_at}
use Rattle.rv_core.specs.Setup.{judges_of, word_index}
use Rattle.rv_core.proofs.WordLemmas.{phase_after-other}
use Rattle.rv_reach.specs.declared.monitor.InstanceReach.{InstanceReach}
use Rattle.rv_reach.specs.declared.monitor.MonitorReach.{MonitorReach}
use Rattle.rv_reach.specs.declared.reached.Reached.{Reached}
use Rattle.rv_reach.specs.Counts.{edges_of}
use Rattle.rv_reach.specs.Reached.{answers_on, answers_so, delivers, ends, has_true, is_kept, is_passed, is_running, is_started, of_delivery, reaches_row, takes_edge}
use Rattle.rv_reach.specs.Watching.{AreReached, IsInstance, IsReach}
use Rattle.rv_reach.specs.CountingLaws.{any_at-none, count_at-none, count_by-none}

-- the machine with one entry more
abbrev pub with_entry : CoreValue → Entry → CoreValue
with_entry core e = record core { history = core.history ++ e ∷ [] }

-- the phase of a slot whose word the entry is not on
pub phase-stays : (core : CoreValue) (e : Entry) (slot : ℕ) → word_index e.act ≢ slot + 1 → phase_at (with_entry core e) slot ≡ phase_at core slot
phase-stays core e slot other =
    let s : Setup = core.setup in
    let j : Judge = judge_of s (judges_of s) slot in
    let past : List Entry = reverse core.history in
    ap (λ (z : List Entry). phase_of j (start_of s slot) z slot) (reverse-append core.history (e ∷ []))
    ∙ phase_after-other j (level (start_of s slot) (e ∷ past) slot) slot e.act (phase_of j (start_of s slot) past slot) other

-- an instance on whose slot the entry is not
pub instance-stays : (core : CoreValue) (e : Entry) (slot : ℕ) (i : InstanceReach) → ((asked : ℕ → Hit → Bool) → of_delivery (λ at hit. at == slot && asked at hit) e.act ≡ false) → word_index e.act ≢ slot + 1
    → IsInstance core slot i → IsInstance (with_entry core e) slot i
instance-stays core e slot i none other is =
    let s : Setup = core.setup in
    let js : List Judge = judges_of s in
    let past : List Entry = reverse core.history in
    record {
      started = is.started ∙ sym (any_at-none (answers_on s js (λ answer. not (is_passed answer)) slot) core.history e (none (λ at hit. not (is_passed (answer_at s js past e e.act)))));
      failed = is.failed ∙ sym (any_at-none (answers_on s js fails slot) core.history e (none (λ at hit. fails (answer_at s js past e e.act))));
      running = is.running ∙ ap is_running (sym (phase-stays core e slot other));
    }

-- a monitor of which the entry is no delivery and no end
module _ (core : CoreValue) (e : Entry) (monitor : ℕ) (of : Spec) (r : MonitorReach) (none : (asked : ℕ → Hit → Bool) → delivers core.setup monitor asked e ≡ false) (no_end : ends core.setup monitor e.act ≡ false)
    (apart : (k : ℕ) → k < length r.instances.items → ((asked : ℕ → Hit → Bool) → of_delivery (λ at hit. at == slot_of core.setup.shape monitor k && asked at hit) e.act ≡ false) × (word_index e.act ≢ slot_of core.setup.shape monitor k + 1)) where
  -- a count of answers
  answers-stay : (is : Answer → Bool) → answers_so core.setup (judges_of core.setup) is monitor (reverse core.history) e ≡ false
  answers-stay is = none (λ at hit. is (answer_at core.setup (judges_of core.setup) (reverse core.history) e e.act))

  pub monitor-stays : IsReach core monitor of r → IsReach (with_entry core e) monitor of r
  monitor-stays is =
      let s : Setup = core.setup in
      let js : List Judge = judges_of s in
      let h : List Entry = core.history in
      record {
        passed = is.passed ∙ sym (count_at-none (answers_so s js is_passed monitor) h e (answers-stay is_passed));
        started = is.started ∙ sym (count_at-none (answers_so s js is_started monitor) h e (answers-stay is_started));
        kept = is.kept ∙ sym (count_at-none (answers_so s js is_kept monitor) h e (answers-stay is_kept));
        failed = is.failed ∙ sym (count_at-none (answers_so s js fails monitor) h e (answers-stay fails));
        ended = is.ended ∙ sym (count_by-none (λ x. ends s monitor x.act) h e no_end);
        letters = is.letters ∙ sym (count_at-none (answers_so s js (λ answer. not (is_passed answer)) monitor) h e (answers-stay (λ answer. not (is_passed answer))));
        instances_many = is.instances_many;
        instances = λ k i lt. instance-stays core e (slot_of s.shape monitor k) (get_or r.instances.items k i) (apart k lt).0 (apart k lt).1 (is.instances k i lt);
        rows_many = is.rows_many;
        rows = λ k lt. is.rows k lt ∙ sym (count_at-none (reaches_row s js monitor (k + 1)) h e (none _));
        edges_many = is.edges_many;
        edges = λ k any lt. is.edges k any lt ∙ sym (count_at-none (takes_edge s js monitor (get_or (edges_of of) k any)) h e (none _));
        atoms_many = is.atoms_many;
        atoms = λ k lt. is.atoms k lt ∙ sym (count_at-none (has_true s js monitor k) h e (none _));
      }

-- the word of a slot is not that of the switches
slot-index : (slot : ℕ) → slot + 1 ≢ 0
slot-index slot is = suc-ne-zero slot (sym (add-one slot) ∙ is)

-- an entry on the switches delivers nothing
none-delivered : (asked : ℕ → Hit → Bool) (act : Act) → word_index act ≡ 0 → of_delivery asked act ≡ false
none-delivered asked (Deliver slot hit) on = absurd (slot-index slot on)
none-delivered asked (Stop slot) on = refl
none-delivered asked Look on = refl
none-delivered asked (Raise bits) on = refl
none-delivered asked (Lower bits) on = refl
none-delivered asked (Clear slot) on = refl
none-delivered asked (End slot) on = refl

-- and ends nothing
none-ended : (s : Setup) (monitor : ℕ) (act : Act) → word_index act ≡ 0 → ends s monitor act ≡ false
none-ended s monitor (Deliver slot hit) on = refl
none-ended s monitor (Stop slot) on = refl
none-ended s monitor Look on = refl
none-ended s monitor (Raise bits) on = refl
none-ended s monitor (Lower bits) on = refl
none-ended s monitor (Clear slot) on = refl
none-ended s monitor (End slot) on = absurd (slot-index slot on)

-- what is done to the switches does not count
pub reached-passes : (b : Bindings) (core : CoreValue) (e : Entry) (r : Reached) → word_index e.act ≡ 0 → AreReached b core r → AreReached b (with_entry core e) r
reached-passes b core e r on is = record {
  bound = is.bound;
  many = is.many;
  each = λ k m any lt. monitor-stays core e k (get_or b.monitors.items k m).spec (get_or r.monitors.items k any) (λ asked. none-delivered _ e.act on) (none-ended core.setup k e.act on)
      (λ i within. ((λ asked. none-delivered _ e.act on), (λ there. slot-index (slot_of core.setup.shape k i) (sym there ∙ on)))) (is.each k m any lt);
}
