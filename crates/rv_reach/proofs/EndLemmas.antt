-- What the end of an instance adds to the counts of its monitor.
use Rattle.std.proofs.Common.{◌≡◌, ◌≢◌, ℕ, Bool, true, false, not, ◌==◌, List, length, get_or, refl, sym, ap, ◌∙◌, subst, arith}
use Rattle.std.specs.Bool.{if◌then◌else◌}
use Rattle.rv_model.specs.declared.entry.Act.TheVariants.{End}
use Rattle.rv_model.specs.declared.entry.Entry.{Entry}
use Rattle.rv_model.specs.declared.formula.Spec.{Spec}
use Rattle.rv_model.specs.Judging.{Judge}
use Rattle.rv_model.specs.Scripts.{fails}
use Rattle.rv_model.specs.Setups.{Setup, monitor_of, slot_of}
use Rattle.rv_core.specs.Core.{CoreValue}
use Rattle.rv_core.specs.Setup.{judges_of}
use Rattle.rv_reach.specs.declared.monitor.InstanceReach.{InstanceReach}
use Rattle.rv_reach.specs.declared.monitor.MonitorReach.{MonitorReach}
use Rattle.rv_reach.specs.Reached.{answers_on, is_passed, is_running}
use Rattle.rv_reach.specs.Watching.{IsInstance}
use Rattle.rv_reach.specs.inner.Counters.{EndsInstance, waits}
use Rattle.rv_reach.specs.CountingLaws.{any_at-none}
use Rattle.rv_reach.specs.Passing.{instance-stays, with_entry}
use Rattle.rv_reach.proofs.ActLemmas.{apart-number, end-apart, end-behind, end-here, end-none, phase-behind, told-same}
use Rattle.rv_reach.proofs.GrowLemmas.{Grows, none-more, one-more}

module _ (core : CoreValue) (e : Entry) (monitor slot instance : ℕ) (is_act : e.act ≡ End slot) (here : monitor_of core.setup.shape slot ≡ monitor) (slot_is : slot ≡ slot_of core.setup.shape monitor instance) where
  abbrev s : Setup
  s = core.setup

  abbrev js : List Judge
  js = judges_of s

  -- the instance no longer runs
  ended-instance : (i : InstanceReach) → IsInstance core slot i → IsInstance (with_entry core e) slot (waits i)
  ended-instance i is = record {
    started = is.started ∙ sym (any_at-none (answers_on s js (λ answer. not (is_passed answer)) slot) core.history e (end-none core e slot is_act _));
    failed = is.failed ∙ sym (any_at-none (answers_on s js fails slot) core.history e (end-none core e slot is_act _));
    running = sym (ap is_running (phase-behind core e slot ∙ end-behind core e slot is_act));
  }

  -- and the others stay
  each-instance : (k : ℕ) (i : InstanceReach) (b : Bool) → (instance == k) ≡ b → IsInstance core (slot_of s.shape monitor k) i → IsInstance (with_entry core e) (slot_of s.shape monitor k) (if b then waits i else i)
  each-instance k i true is was =
      let same : slot ≡ slot_of s.shape monitor k = slot_is ∙ ap (slot_of s.shape monitor) (told-same instance k is) in
      subst (λ (at : ℕ). IsInstance (with_entry core e) at (waits i)) same (ended-instance i (subst (λ (at : ℕ). IsInstance core at i) (sym same) was))
  each-instance k i false is was =
      let other : slot ≢ slot_of s.shape monitor k = λ same. apart-number instance k is (let at : slot_of s.shape monitor instance ≡ slot_of s.shape monitor k = sym slot_is ∙ same in omega arith) in
      instance-stays core e (slot_of s.shape monitor k) i (λ asked. end-none core e slot is_act _) (end-apart core e slot is_act (slot_of s.shape monitor k) other) was

  -- one more has ended, and nothing else counts
  pub grows-ended : (of : Spec) (r r' : MonitorReach) → EndsInstance instance r r' → Grows core e monitor of r r'
  grows-ended of r r' is = record {
    passed = ap (λ (m : MonitorReach). m.passed) is.rest ∙ none-more r.passed _ (end-none core e slot is_act _);
    started = ap (λ (m : MonitorReach). m.started) is.rest ∙ none-more r.started _ (end-none core e slot is_act _);
    kept = ap (λ (m : MonitorReach). m.kept) is.rest ∙ none-more r.kept _ (end-none core e slot is_act _);
    failed = ap (λ (m : MonitorReach). m.failed) is.rest ∙ none-more r.failed _ (end-none core e slot is_act _);
    ended = ap (λ (m : MonitorReach). m.ended) is.rest ∙ one-more r.ended _ (end-here core e slot is_act monitor here);
    letters = ap (λ (m : MonitorReach). m.letters) is.rest ∙ none-more r.letters _ (end-none core e slot is_act _);
    instances_many = is.becomes.many;
    instances = λ k i lt was. subst (IsInstance (with_entry core e) (slot_of s.shape monitor k)) (sym (is.becomes.each k i lt)) (each-instance k (get_or r.instances.items k i) (instance == k) refl was);
    rows_many = ap (λ (m : MonitorReach). length m.rows.items) is.rest;
    rows = λ k lt. ap (λ (m : MonitorReach). get_or m.rows.items k 0) is.rest ∙ none-more (get_or r.rows.items k 0) _ (end-none core e slot is_act _);
    edges_many = λ many. ap (λ (m : MonitorReach). length m.edges.items) is.rest;
    edges = λ k none many lt. ap (λ (m : MonitorReach). get_or m.edges.items k 0) is.rest ∙ none-more (get_or r.edges.items k 0) _ (end-none core e slot is_act _);
    atoms_many = ap (λ (m : MonitorReach). length m.atoms.items) is.rest;
    atoms = λ k lt. ap (λ (m : MonitorReach). get_or m.atoms.items k 0) is.rest ∙ none-more (get_or r.atoms.items k 0) _ (end-none core e slot is_act _);
  }
