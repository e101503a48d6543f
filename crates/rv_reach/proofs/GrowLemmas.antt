-- What one entry more adds to the counts of a monitor.
use Rattle.std.proofs.Common.{◌≡◌, ℕ, ◌+◌, ◌<◌, Bool, true, false, not, List, [], ◌∷◌, ◌++◌, length, reverse, get_or, refl, sym, ap, ◌∙◌, true≢false, arith}
use Rattle.rv_model.specs.declared.automaton.Edge.{Edge}
use Rattle.rv_model.specs.declared.entry.Entry.{Entry}
use Rattle.rv_model.specs.declared.formula.Spec.{Spec}
use Rattle.rv_model.specs.Numbers.{one_if}
use Rattle.rv_model.specs.Scripts.{fails}
use Rattle.rv_model.specs.Setups.{slot_of}
use Rattle.rv_core.specs.Core.{CoreValue}
use Rattle.rv_core.specs.Setup.{judges_of}
use Rattle.rv_reach.specs.declared.monitor.InstanceReach.{InstanceReach}
use Rattle.rv_reach.specs.declared.monitor.MonitorReach.{MonitorReach}
use Rattle.rv_reach.specs.Counting.{count_at}
use Rattle.rv_reach.specs.Counts.{edges_of}
use Rattle.rv_reach.specs.Reached.{answers_so, ends, has_true, is_kept, is_passed, is_started, reaches_row, takes_edge}
use Rattle.rv_reach.specs.Watching.{IsInstance, IsReach}
use Rattle.rv_reach.specs.CountingLaws.{count_at-snoc, count_by-snoc}
use Rattle.rv_reach.specs.Passing.{with_entry}

-- of an entry that does not count, no more
pub none-more : (n : ℕ) (b : Bool) → b ≡ false → n ≡ n + one_if b
none-more n true is = absurd (true≢false is)
none-more n false is = omega arith

-- of one that does, one more
pub one-more : (n : ℕ) (b : Bool) → b ≡ true → n + 1 ≡ n + one_if b
one-more n true is = refl
one-more n false is = absurd (true≢false (sym is))

-- each count goes up where the entry counts for it
pub record Grows (core : CoreValue) (e : Entry) (monitor : ℕ) (of : Spec) (r r' : MonitorReach) : Type 0 where
  pub passed : r'.passed ≡ r.passed + one_if (answers_so core.setup (judges_of core.setup) is_passed monitor (reverse core.history) e)
  pub started : r'.started ≡ r.started + one_if (answers_so core.setup (judges_of core.setup) is_started monitor (reverse core.history) e)
  pub kept : r'.kept ≡ r.kept + one_if (answers_so core.setup (judges_of core.setup) is_kept monitor (reverse core.history) e)
  pub failed : r'.failed ≡ r.failed + one_if (answers_so core.setup (judges_of core.setup) fails monitor (reverse core.history) e)
  pub ended : r'.ended ≡ r.ended + one_if (ends core.setup monitor e.act)
  pub letters : r'.letters ≡ r.letters + one_if (answers_so core.setup (judges_of core.setup) (λ answer. not (is_passed answer)) monitor (reverse core.history) e)
  pub instances_many : length r'.instances.items ≡ length r.instances.items
  pub instances : (k : ℕ) (i : InstanceReach) → k < length r.instances.items → IsInstance core (slot_of core.setup.shape monitor k) (get_or r.instances.items k i)
      → IsInstance (with_entry core e) (slot_of core.setup.shape monitor k) (get_or r'.instances.items k i)
  pub rows_many : length r'.rows.items ≡ length r.rows.items
  pub rows : (k : ℕ) → k < length r.rows.items → get_or r'.rows.items k 0 ≡ get_or r.rows.items k 0 + one_if (reaches_row core.setup (judges_of core.setup) monitor (k + 1) (reverse core.history) e)
  pub edges_many : length (edges_of of) ≡ length r.edges.items → length r'.edges.items ≡ length r.edges.items
  pub edges : (k : ℕ) (none : Edge) → length (edges_of of) ≡ length r.edges.items → k < length r.edges.items
      → get_or r'.edges.items k 0 ≡ get_or r.edges.items k 0 + one_if (takes_edge core.setup (judges_of core.setup) monitor (get_or (edges_of of) k none) (reverse core.history) e)
  pub atoms_many : length r'.atoms.items ≡ length r.atoms.items
  pub atoms : (k : ℕ) → k < length r.atoms.items → get_or r'.atoms.items k 0 ≡ get_or r.atoms.items k 0 + one_if (has_true core.setup (judges_of core.setup) monitor k (reverse core.history) e)

-- a count with one entry more
counted : (holds : List Entry → Entry → Bool) (h : List Entry) (e : Entry) (was now : ℕ) → now ≡ was + one_if (holds (reverse h) e) → was ≡ count_at holds h → now ≡ count_at holds (h ++ e ∷ [])
counted holds h e was now more is = more ∙ ap (λ (n : ℕ). n + one_if (holds (reverse h) e)) is ∙ sym (count_at-snoc holds h e (holds (reverse h) e) refl)

-- so each of them is that of the history with it
pub grown : (core : CoreValue) (e : Entry) (monitor : ℕ) (of : Spec) (r r' : MonitorReach) → Grows core e monitor of r r' → IsReach core monitor of r → IsReach (with_entry core e) monitor of r'
grown core e monitor of r r' g is =
    let s = core.setup in
    let js = judges_of s in
    let h : List Entry = core.history in
    record {
      passed = counted (answers_so s js is_passed monitor) h e r.passed r'.passed g.passed is.passed;
      started = counted (answers_so s js is_started monitor) h e r.started r'.started g.started is.started;
      kept = counted (answers_so s js is_kept monitor) h e r.kept r'.kept g.kept is.kept;
      failed = counted (answers_so s js fails monitor) h e r.failed r'.failed g.failed is.failed;
      ended = g.ended ∙ ap (λ (n : ℕ). n + one_if (ends s monitor e.act)) is.ended ∙ sym (count_by-snoc (λ x. ends s monitor x.act) h e (ends s monitor e.act) refl);
      letters = counted (answers_so s js (λ answer. not (is_passed answer)) monitor) h e r.letters r'.letters g.letters is.letters;
      instances_many = g.instances_many ∙ is.instances_many;
      instances = λ k i lt. let within : k < length r.instances.items = let m = g.instances_many in omega arith in g.instances k i within (is.instances k i within);
      rows_many = ap (λ (n : ℕ). n + 1) g.rows_many ∙ is.rows_many;
      rows = λ k lt. let within : k < length r.rows.items = let m = g.rows_many in omega arith in
          counted (reaches_row s js monitor (k + 1)) h e (get_or r.rows.items k 0) (get_or r'.rows.items k 0) (g.rows k within) (is.rows k within);
      edges_many = is.edges_many ∙ sym (g.edges_many is.edges_many);
      edges = λ k none lt. let within : k < length r.edges.items = let m = g.edges_many is.edges_many in omega arith in
          counted (takes_edge s js monitor (get_or (edges_of of) k none)) h e (get_or r.edges.items k 0) (get_or r'.edges.items k 0) (g.edges k none is.edges_many within) (is.edges k none within);
      atoms_many = g.atoms_many ∙ is.atoms_many;
      atoms = λ k lt. let within : k < length r.atoms.items = let m = g.atoms_many in omega arith in
          counted (has_true s js monitor k) h e (get_or r.atoms.items k 0) (get_or r'.atoms.items k 0) (g.atoms k within) (is.atoms k within);
    }
