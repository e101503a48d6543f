-- What a delivery adds to the counts of its monitor.
use Rattle.std.proofs.Common.{◌≡◌, ◌≢◌, ℕ, ◌+◌, Bool, true, false, not, ◌&&◌, ◌||◌, ◌==◌, List, ◌∷◌, reverse, get_or, refl, sym, ap, ◌∙◌, subst, arith}
use Rattle.std.specs.Bool.{if◌then◌else◌}
use Rattle.rv_model.specs.declared.automaton.Edge.{Edge}
use Rattle.rv_model.specs.declared.entry.Act.TheVariants.{Deliver}
use Rattle.rv_model.specs.declared.entry.Answer.{Answer}
use Rattle.rv_model.specs.declared.entry.Answer.TheVariants.{Passed}
use Rattle.rv_model.specs.declared.entry.Entry.{Entry}
use Rattle.rv_model.specs.declared.formula.Spec.{Spec}
use Rattle.rv_model.specs.declared.hit.Hit.{Hit}
use Rattle.rv_model.specs.declared.hit.Letter.{Letter}
use Rattle.rv_model.specs.declared.hit.Mode.{Mode}
use Rattle.rv_model.specs.Judging.{Judge}
use Rattle.rv_model.specs.Letters.{atoms_in}
use Rattle.rv_model.specs.Numbers.{has_bit, one_if}
use Rattle.rv_model.specs.Scripts.{fails}
use Rattle.rv_model.specs.Setups.{Setup, judge_of, monitor_of, slot_of}
use Rattle.rv_model.proofs.SetLemmas.{has_none}
use Rattle.rv_core.specs.Core.{CoreValue}
use Rattle.rv_core.specs.RowPhases.{phase_at, row_phase}
use Rattle.rv_core.specs.Setup.{judges_of}
use Rattle.rv_reach.specs.declared.judged.Judged.{Judged}
use Rattle.rv_reach.specs.declared.monitor.InstanceReach.{InstanceReach}
use Rattle.rv_reach.specs.declared.monitor.MonitorReach.{MonitorReach}
use Rattle.rv_reach.specs.Counts.{edges_of}
use Rattle.rv_reach.specs.Reached.{answers_on, delivers, is_event, is_kept, is_passed, is_running, is_started, letter_of, phase_past, rows_from, rows_run, takes}
use Rattle.rv_reach.specs.Watching.{IsInstance}
use Rattle.rv_reach.specs.inner.RowSets.{rows_behind, runs_behind}
use Rattle.rv_reach.specs.inner.Counters.{JudgesLetter, marked}
use Rattle.rv_reach.specs.CountingLaws.{any_at-none, any_at-snoc}
use Rattle.rv_reach.specs.Passing.{instance-stays, phase-stays, with_entry}
use Rattle.rv_reach.proofs.ActLemmas.{answer-here, answer_here, apart, apart-number, delivers-here, letter_here, no-end, on-here, on-none, on-other, or-true, phase-behind, phase_behind, told-same, turn-behind}
use Rattle.rv_reach.proofs.GrowLemmas.{Grows, none-more, one-more}
use Rattle.rv_reach.proofs.TurnLemmas.{behind-by, no-rows, not-passed, passed-before, passed-behind, passed-runs, runs-by}

-- what is passed takes no edge
no-take : (edge : Edge) (m : Mode) (x : Letter) (from to : ℕ) → takes edge m Passed x from to ≡ false
no-take edge m x from to = ap (λ (b : Bool). b && is_event edge.event x && has_bit from (edge.from + 1) && has_bit to (edge.to + 1)) (passed-runs m)

-- the first atom has the first bit
no-offset : (k : ℕ) → k + 0 ≡ k
no-offset k = omega arith

module _ (core : CoreValue) (e : Entry) (monitor slot : ℕ) (hit : Hit) (is_act : e.act ≡ Deliver slot hit) (here : monitor_of core.setup.shape slot ≡ monitor) where
  abbrev s : Setup
  s = core.setup

  abbrev js : List Judge
  js = judges_of s

  abbrev past : List Entry
  past = reverse core.history

  abbrev j : Judge
  j = judge_of s js slot

  abbrev x : Letter
  x = letter_here core e slot hit is_act

  abbrev a : Answer
  a = answer_here core e slot hit is_act

  -- what is asked of the monitor's deliveries
  asks : (asked : ℕ → Hit → Bool) → delivers s monitor asked e ≡ asked slot hit
  asks = delivers-here core e slot hit is_act monitor here

  -- ---- it is passed over
  module _ (passed : a ≡ Passed) where
    -- no rows run behind it
    no-behind : rows_run j (phase_behind core e slot) ≡ 0
    no-behind =
        no-rows j (phase_behind core e slot)
        (ap is_running (turn-behind core e slot hit is_act) ∙ passed-behind j (phase_at core slot) hit.mode x (sym (answer-here core e slot hit is_act) ∙ passed))

    -- whether an instance runs stays
    running-stays : (place : ℕ) (b : Bool) → (slot == place) ≡ b → is_running (phase_at core place) ≡ is_running (phase_at (with_entry core e) place)
    running-stays place true is =
        let same : slot ≡ place = told-same slot place is in
        let was : is_running (phase_at core slot) ≡ false = passed-before j (phase_at core slot) hit.mode x (sym (answer-here core e slot hit is_act) ∙ passed) in
        let now : is_running (phase_at (with_entry core e) slot) ≡ false =
        ap is_running (phase-behind core e slot ∙ turn-behind core e slot hit is_act) ∙ passed-behind j (phase_at core slot) hit.mode x (sym (answer-here core e slot hit is_act) ∙ passed) in
        subst (λ (at : ℕ). is_running (phase_at core at) ≡ is_running (phase_at (with_entry core e) at)) same (was ∙ sym now)
    running-stays place false is = ap is_running (sym (phase-stays core e place (apart core e slot hit is_act place (apart-number slot place is))))

    -- and so does all of it
    passed-instance : (place : ℕ) (i : InstanceReach) → IsInstance core place i → IsInstance (with_entry core e) place i
    passed-instance place i is = record {
      started = is.started ∙ sym (any_at-none (answers_on s js (λ answer. not (is_passed answer)) place) core.history e (on-none core e slot hit is_act place (λ at h. not (is_passed a)) (ap (λ (b : Answer). not (is_passed b)) passed)));
      failed = is.failed ∙ sym (any_at-none (answers_on s js fails place) core.history e (on-none core e slot hit is_act place (λ at h. fails a) (ap fails passed)));
      running = is.running ∙ running-stays place (slot == place) refl;
    }

    -- one more is passed, and nothing else counts
    pub grows-passed : (of : Spec) (r : MonitorReach) → Grows core e monitor of r (record r { passed = r.passed + 1 })
    grows-passed of r = record {
      passed = one-more r.passed _ (asks (λ at h. is_passed a) ∙ ap is_passed passed);
      started = none-more r.started _ (asks (λ at h. is_started a) ∙ ap is_started passed);
      kept = none-more r.kept _ (asks (λ at h. is_kept a) ∙ ap is_kept passed);
      failed = none-more r.failed _ (asks (λ at h. fails a) ∙ ap fails passed);
      ended = none-more r.ended _ (no-end core e slot hit is_act monitor);
      letters = none-more r.letters _ (asks (λ at h. not (is_passed a)) ∙ ap (λ (b : Answer). not (is_passed b)) passed);
      instances_many = refl;
      instances = λ k i lt is. passed-instance (slot_of s.shape monitor k) (get_or r.instances.items k i) is;
      rows_many = refl;
      rows = λ k lt. none-more (get_or r.rows.items k 0) _ (asks (λ at h. has_bit (rows_run (judge_of s js at) (phase_past s js (e ∷ past) at)) (k + 1)) ∙ ap (λ (n : ℕ). has_bit n (k + 1)) no-behind ∙ has_none (k + 1));
      edges_many = λ many. refl;
      edges = λ k none many lt. none-more (get_or r.edges.items k 0) _
          (asks (λ at h. takes (get_or (edges_of of) k none) h.mode a (letter_of s past e at h) (rows_from (judge_of s js at) (phase_past s js past at)) (rows_run (judge_of s js at) (phase_past s js (e ∷ past) at)))
          ∙ ap (λ (b : Answer). takes (get_or (edges_of of) k none) hit.mode b x (rows_from j (phase_at core slot)) (rows_run j (phase_behind core e slot))) passed
          ∙ no-take (get_or (edges_of of) k none) hit.mode x (rows_from j (phase_at core slot)) (rows_run j (phase_behind core e slot)));
      atoms_many = refl;
      atoms = λ k lt. none-more (get_or r.atoms.items k 0) _
          (asks (λ at h. not (is_passed a) && has_bit (atoms_in (letter_of s past e at h)) k) ∙ ap (λ (b : Answer). not (is_passed b) && has_bit (atoms_in x) k) passed);
    }

  -- ---- its letter is judged
  module _ (judged : Judged) (answer_is : judged.answer ≡ a) (some : a ≢ Passed) (mode_is : judged.mode ≡ hit.mode) (letter_is : judged.letter ≡ x) (from_is : judged.from ≡ rows_from j (phase_at core slot))
      (after_is : judged.after ≡ row_phase j (phase_behind core e slot)) (slot_is : slot ≡ slot_of s.shape monitor judged.instance) where
    -- the rows behind it
    behind : rows_behind judged.after ≡ rows_run j (phase_behind core e slot)
    behind = ap rows_behind after_is ∙ behind-by j (phase_behind core e slot)

    -- the instance is marked
    marked-instance : (i : InstanceReach) → IsInstance core slot i → IsInstance (with_entry core e) slot (marked judged i)
    marked-instance i is = record {
      started = sym (any_at-snoc (answers_on s js (λ answer. not (is_passed answer)) slot) core.history e true (on-here core e slot hit is_act (λ at h. not (is_passed a)) ∙ ap not (not-passed a some)) ∙ or-true _);
      failed = (λ k. is.failed k || fails (answer_is k)) ∙ sym (any_at-snoc (answers_on s js fails slot) core.history e (fails a) (on-here core e slot hit is_act (λ at h. fails a)));
      running = ap runs_behind after_is ∙ runs-by j (phase_behind core e slot) ∙ ap is_running (sym (phase-behind core e slot));
    }

    -- and the others stay
    each-instance : (k : ℕ) (i : InstanceReach) (b : Bool) → (judged.instance == k) ≡ b → IsInstance core (slot_of s.shape monitor k) i → IsInstance (with_entry core e) (slot_of s.shape monitor k) (if b then marked judged i else i)
    each-instance k i true is was =
        let same : slot ≡ slot_of s.shape monitor k = slot_is ∙ ap (slot_of s.shape monitor) (told-same judged.instance k is) in
        subst (λ (at : ℕ). IsInstance (with_entry core e) at (marked judged i)) same (marked-instance i (subst (λ (at : ℕ). IsInstance core at i) (sym same) was))
    each-instance k i false is was =
        let other : slot ≢ slot_of s.shape monitor k = λ same. apart-number judged.instance k is (let at : slot_of s.shape monitor judged.instance ≡ slot_of s.shape monitor k = sym slot_is ∙ same in omega arith) in
        instance-stays core e (slot_of s.shape monitor k) i (on-other core e slot hit is_act (slot_of s.shape monitor k) other) (apart core e slot hit is_act (slot_of s.shape monitor k) other) was

    -- each count goes up where the letter counts for it
    pub grows-judged : (of : Spec) (r r' : MonitorReach) → JudgesLetter (edges_of of) judged r r' → Grows core e monitor of r r'
    grows-judged of r r' is =
        let no_edge : Edge = record { from = 0; event = 0; to = 0 } in
        record {
          passed = is.passed ∙ none-more r.passed _ (asks (λ at h. is_passed a) ∙ not-passed a some);
          started = is.started ∙ ap (λ (b : Bool). r.started + one_if b) (ap is_started answer_is ∙ sym (asks (λ at h. is_started a)));
          kept = is.kept ∙ ap (λ (b : Bool). r.kept + one_if b) (ap is_kept answer_is ∙ sym (asks (λ at h. is_kept a)));
          failed = is.failed ∙ ap (λ (b : Bool). r.failed + one_if b) (ap fails answer_is ∙ sym (asks (λ at h. fails a)));
          ended = is.ended ∙ none-more r.ended _ (no-end core e slot hit is_act monitor);
          letters = is.letters ∙ one-more r.letters _ (asks (λ at h. not (is_passed a)) ∙ ap not (not-passed a some));
          instances_many = is.instances.many;
          instances = λ k i lt was. subst (IsInstance (with_entry core e) (slot_of s.shape monitor k)) (sym (is.instances.each k i lt)) (each-instance k (get_or r.instances.items k i) (judged.instance == k) refl was);
          rows_many = is.rows.many;
          rows = λ k lt. is.rows.each k lt
              ∙ ap (λ (b : Bool). get_or r.rows.items k 0 + one_if b) (ap (λ (n : ℕ). has_bit n (k + 1)) behind ∙ sym (asks (λ at h. has_bit (rows_run (judge_of s js at) (phase_past s js (e ∷ past) at)) (k + 1))));
          edges_many = λ many. (is.edges no_edge many).many;
          edges = λ k none many lt. (is.edges none many).each k lt
              ∙ ap (λ (b : Bool). get_or r.edges.items k 0 + one_if b)
              ((λ i. takes (get_or (edges_of of) k none) (mode_is i) (answer_is i) (letter_is i) (from_is i) (behind i))
              ∙ sym (asks (λ at h. takes (get_or (edges_of of) k none) h.mode a (letter_of s past e at h) (rows_from (judge_of s js at) (phase_past s js past at)) (rows_run (judge_of s js at) (phase_past s js (e ∷ past) at)))));
          atoms_many = is.atoms.many;
          atoms = λ k lt. is.atoms.each k lt
              ∙ ap (λ (b : Bool). get_or r.atoms.items k 0 + one_if b)
              ((λ i. has_bit (atoms_in (letter_is i)) (no-offset k i)) ∙ ap (λ (b : Bool). not b && has_bit (atoms_in x) k) (sym (not-passed a some))
              ∙ sym (asks (λ at h. not (is_passed a) && has_bit (atoms_in (letter_of s past e at h)) k)));
        }
