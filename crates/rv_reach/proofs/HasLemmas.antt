-- The numbers of all monitors, from those at each place.
use Rattle.std.proofs.Common.{◌≡◌, ℕ, ◌+◌, ◌<◌, Bool, false, not, List, length, map, get_or, sum, sym, ap, ◌∙◌, arith}
use Rattle.std.specs.Prelude.{count_by, slice_index}
use Rattle.std.specs.Bool.{if◌then◌else◌}
use Rattle.std.proofs.lemmas.List.{ext_get_or, get_or-map, length-map}
use Rattle.std.proofs.lemmas.List.Sums.{sum-map}
use Rattle.rv_model.specs.declared.automaton.Edge.{Edge}
use Rattle.rv_model.specs.declared.entry.Entry.{Entry}
use Rattle.rv_model.specs.declared.formula.Spec.{Spec}
use Rattle.rv_model.specs.Scripts.{fails}
use Rattle.rv_model.specs.Setups.{Setup, slot_of}
use Rattle.rv_model.proofs.FoundLemmas.{get_or-list_of, length-list_of}
use Rattle.rv_bind.specs.declared.bindings.Bindings.{Bindings}
use Rattle.rv_core.specs.Core.{CoreValue}
use Rattle.rv_core.specs.RowPhases.{phase_at}
use Rattle.rv_core.specs.Setup.{judges_of}
use Rattle.rv_reach.specs.declared.monitor.InstanceReach.{InstanceReach}
use Rattle.rv_reach.specs.declared.monitor.MonitorReach.{MonitorReach}
use Rattle.rv_reach.specs.declared.reached.Reached.{Reached}
use Rattle.rv_reach.specs.Counting.{any_at}
use Rattle.rv_reach.specs.Counts.{atom_count, edges_of, places, rows_from_one}
use Rattle.rv_reach.specs.Reached.{answers_on, atom_true, edge_taken, is_passed, is_running, row_reached}
use Rattle.rv_reach.specs.Reaching.{HasReached, HaveReached}
use Rattle.rv_reach.specs.Watching.{AreReached, IsReach}

-- ---- lists

-- as many places
length-places : (n : ℕ) → length (places n) ≡ n
length-places n = length-list_of (λ (k : ℕ). k) n

-- what is so at each place is so of the list
at-places : (f : ℕ → ℕ) (xs : List ℕ) (n : ℕ) → length xs ≡ n → ((k : ℕ) → k < n → get_or xs k 0 ≡ f k) → xs ≡ map f (places n)
at-places f xs n many each =
    ext_get_or 0 xs (map f (places n)) (many ∙ sym (length-places n) ∙ sym (length-map (places n) f)) (λ k lt.
    let within : k < n = omega arith in
    let there : k < length (places n) = let l = length-places n in omega arith in
    each k within ∙ ap f (sym (get_or-list_of (λ (i : ℕ). i) n k 0 within)) ∙ sym (get_or-map f (places n) k 0 0 there))

-- and of the things at each place
at-things : {X : Type 0} (f : X → ℕ) (ys : List X) (none : X) (xs : List ℕ) → length ys ≡ length xs → ((k : ℕ) → k < length xs → get_or xs k 0 ≡ f (get_or ys k none)) → xs ≡ map f ys
at-things f ys none xs many each =
    ext_get_or 0 xs (map f ys) (sym many ∙ sym (length-map ys f)) (λ k lt.
    let there : k < length ys = omega arith in
    each k lt ∙ sym (get_or-map f ys k none 0 there))

-- as many things are so as places
count-places : {X : Type 0} (p : X → Bool) (q : ℕ → Bool) (none : X) (xs : List X) (n : ℕ) → length xs ≡ n → ((k : ℕ) → k < n → p (get_or xs k none) ≡ q k) → count_by p xs ≡ count_by q (places n)
count-places {X} p q none xs n many each =
    let f : X → ℕ = λ x. if p x then 1 else 0 in
    let g : ℕ → ℕ = λ k. if q k then 1 else 0 in
    let same : map f xs ≡ map g (places n) =
    at-places g (map f xs) n (length-map xs f ∙ many) (λ k lt.
    let there : k < length xs = omega arith in
    get_or-map f xs k none 0 there ∙ ap (λ (b : Bool). if b then 1 else 0) (each k lt)) in
    sym (sum-map f xs) ∙ ap sum same ∙ sum-map g (places n)

-- ---- a monitor

module _ (s : Setup) (h : List Entry) where
  -- the machine after the history
  abbrev core : CoreValue
  core = record { setup = s; history = h }

  -- its numbers
  has-reached : (monitor : ℕ) (of : Spec) (r : MonitorReach) → IsReach core monitor of r → HasReached s (judges_of s) h monitor of r
  has-reached monitor of r is =
      let js = judges_of s in
      let unseen : InstanceReach = record { started = false; failed = false; running = false } in
      let no_edge : Edge = record { from = 0; event = 0; to = 0 } in
      let n : ℕ = slice_index s.shape monitor in
      record {
        passed = is.passed;
        started = is.started;
        kept = is.kept;
        failed = is.failed;
        ended = is.ended;
        letters = is.letters;
        instances_started = count-places (λ (i : InstanceReach). i.started) (λ k. any_at (answers_on s js (λ answer. not (is_passed answer)) (slot_of s.shape monitor k)) h) unseen r.instances.items n is.instances_many (λ k lt. (is.instances k unseen (let m = is.instances_many in omega arith)).started);
        instances_failed = count-places (λ (i : InstanceReach). i.failed) (λ k. any_at (answers_on s js fails (slot_of s.shape monitor k)) h) unseen r.instances.items n is.instances_many (λ k lt. (is.instances k unseen (let m = is.instances_many in omega arith)).failed);
        instances_running = count-places (λ (i : InstanceReach). i.running) (λ k. is_running (phase_at core (slot_of s.shape monitor k))) unseen r.instances.items n is.instances_many (λ k lt. (is.instances k unseen (let m = is.instances_many in omega arith)).running);
        rows = at-places (λ k. row_reached s js h monitor (k + 1)) r.rows.items (rows_from_one s monitor) (let m = is.rows_many in omega arith) (λ k lt. is.rows k (let m = is.rows_many in omega arith));
        edges = at-things (edge_taken s js h monitor) (edges_of of) no_edge r.edges.items is.edges_many (λ k lt. is.edges k no_edge lt);
        atoms = at-places (atom_true s js h monitor) r.atoms.items (atom_count of) is.atoms_many (λ k lt. is.atoms k (let m = is.atoms_many in omega arith));
      }

  -- those of all monitors
  pub have-reached : (b : Bindings) (r : Reached) → AreReached b core r → HaveReached b s (judges_of s) h r
  have-reached b r is = record {
    many = is.many ∙ sym is.bound;
    each = λ k m any lt. has-reached k (get_or b.monitors.items k m).spec (get_or r.monitors.items k any) (is.each k m any (let n = is.bound in omega arith));
  }
