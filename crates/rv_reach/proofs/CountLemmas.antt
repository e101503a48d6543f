-- Counts and instances, place by place.
use Rattle.std.proofs.Common.{◌≡◌, ◌≢◌, inl, inr, ℕ, ◌+◌, ◌*◌, ◌/◌, ◌%◌, ◌^◌, ◌<◌, ◌≤◌, Bool, false, ◌==◌, ◌&&◌, List, [], ◌∷◌, ◌++◌, length, get_or, set, refl, sym, ap, ◌∙◌, subst, arith, add-zero, length-set, bit_and, w32}
use Rattle.std.specs.Bool.{if◌then◌else◌}
use Rattle.std.proofs.lemmas.List.{get_or-replicate, get_or-set_same, get_or-set_other, get_or_append_left, get_or_default, get_or_push, length-replicate}
use Rattle.std.specs.Int.{bit_at, bit_not}
use Rattle.std.proofs.Math.Bool.{and-true}
use Rattle.std.proofs.lemmas.Nat.{and_le_l, shr-shr, shr_le}
use Rattle.std.proofs.lemmas.Nat.Bits.{bit_at_above, bit_at_clear_other, bit_at_clear_same}
use mir.Val.{bits}
use Rattle.rv_model.specs.declared.formula.Spec.{Spec}
use Rattle.rv_model.specs.Numbers.{has_bit, one_if}
use Rattle.rv_model.specs.Setups.{Setup}
use Rattle.rv_model.specs.Table.{of_labels}
use Rattle.rv_table.specs.Rows.{row_count}
use Rattle.rv_reach.specs.declared.monitor.InstanceReach.{InstanceReach}
use Rattle.rv_reach.specs.declared.monitor.MonitorReach.{MonitorReach}
use Rattle.rv_reach.specs.Counts.{atom_count, edges_of}
use Rattle.rv_reach.specs.Watching.{IsReach}
use Rattle.rv_reach.specs.inner.Counters.{Becomes, CountedBut, CountedTo, CountsMore, IsUnreached}
use Rattle.rv_reach.proofs.ActLemmas.{and-false, below_or_not, other-number, same-number, same_or_not}

-- ---- counts, place by place

-- where the same places count
pub more-same : (counts others : ℕ → Bool) (old new : List ℕ) → ((k : ℕ) → counts k ≡ others k) → CountsMore counts old new → CountsMore others old new
more-same counts others old new same more = record { many = more.many; each = λ k lt. more.each k lt ∙ ap (λ (b : Bool). get_or old k 0 + one_if b) (same k) }

module _ (counts : ℕ → Bool) (old : List ℕ) where
  -- before the first place
  pub counted-none : CountedTo counts 0 old old
  counted-none = record { many = refl; done = λ k within lt. absurd (omega arith); rest = λ k within le. refl }

  -- one place more
  pub counted-one : (cur next : List ℕ) (place : ℕ) (is : Bool) → CountedTo counts place old cur → is ≡ counts place → CountsMore (λ k. is && (place == k)) cur next → CountedTo counts (place + 1) old next
  counted-one cur next place is so says more =
      let here : one_if (is && (place == place)) ≡ one_if (counts place) = ap (λ (b : Bool). one_if (is && b)) (same-number place place refl) ∙ ap one_if (and-true is ∙ says) in
      let other : (k : ℕ) → k < length old → k ≢ place → get_or next k 0 ≡ get_or cur k 0 = λ k lt ne.
      more.each k (let m = so.many in omega arith) ∙ ap (λ (b : Bool). get_or cur k 0 + one_if b) (and-false is (place == k) (other-number place k (λ e. ne (sym e)))) ∙ add-zero (get_or cur k 0) in
      record {
        many = more.many ∙ so.many;
        done = λ k within below. elim (same_or_not k place) [
          | inl e ↦
              subst (λ (n : ℕ). n < length old → get_or next n 0 ≡ get_or old n 0 + one_if (counts n)) (sym e)
              (λ inside. more.each place (let m = so.many in omega arith) ∙ ap (λ (n : ℕ). get_or cur place 0 + n) here ∙ ap (λ (n : ℕ). n + one_if (counts place)) (so.rest place inside (omega arith))) within
          | inr ne ↦ other k within ne ∙ so.done k within (omega arith)
        ];
        rest = λ k within le. let past : place + 1 ≤ k = le in other k within (λ e. omega arith) ∙ so.rest k within (omega arith);
      }

  -- behind the last one
  pub counted-all : (cur : List ℕ) (place : ℕ) → CountedTo counts place old cur → length old ≤ place → CountsMore counts old cur
  counted-all cur place is all = record { many = is.many; each = λ k lt. is.done k lt (omega arith) }

-- ---- counts by the bits that are left

-- the number without this bit
abbrev pub without : ℕ → ℕ → ℕ
without n place = bit_and n (bit_not w32 (1 * 2 ^ place % 2 ^ bits w32))

-- which is smaller, where it had the bit
pub without-less : (n place : ℕ) → place < 32 → bit_at n place ≡ 1 → without n place < n
without-less n place within set =
    let le : without n place ≤ n = and_le_l n (bit_not w32 (1 * 2 ^ place % 2 ^ bits w32)) in
    let clear : bit_at (without n place) place ≡ 0 = bit_at_clear_same w32 n place within in
    let differ : without n place ≢ n = λ e. let both : bit_at (without n place) place ≡ bit_at n place = ap (λ (m : ℕ). bit_at m place) e in omega arith in
    omega arith

-- and has the others
without-other : (n place k : ℕ) → place < 32 → n < 2 ^ 32 → k ≢ place → has_bit (without n place) k ≡ has_bit n k
without-other n place k within fits other = elim (below_or_not k 32) [
  | inl lt ↦ ap (λ (b : ℕ). b == 1) (bit_at_clear_other w32 n place within k lt other)
  | inr ge ↦ ap (λ (b : ℕ). b == 1) (bit_at_above (without n place) 32 k (let le = and_le_l n (bit_not w32 (1 * 2 ^ place % 2 ^ bits w32)) in omega arith) ge ∙ sym (bit_at_above n 32 k fits ge))
]

module _ (counts : ℕ → Bool) (old : List ℕ) where
  -- all are left
  pub but-all : (set first : ℕ) → set < 2 ^ 32 → ((k : ℕ) → counts k ≡ has_bit set (k + first)) → CountedBut (set / 2 ^ first) counts old old
  but-all set first fits are = record {
    fits = let le = shr_le set first in omega arith;
    many = refl;
    each = λ k lt.
        let shifted : set / 2 ^ first / 2 ^ k ≡ set / 2 ^ (k + first) = shr-shr set first k ∙ ap (λ (n : ℕ). set / 2 ^ n) (let e : first + k ≡ k + first = omega arith in e) in
        ap (λ (n : ℕ). get_or old k 0 + one_if (n % 2 == 1)) shifted ∙ ap (λ (b : Bool). get_or old k 0 + one_if b) (sym (are k));
  }

  -- one less
  pub but-one : (cur : List ℕ) (left place x : ℕ) → CountedBut left counts old cur → place < 32 → bit_at left place ≡ 1 → place < length cur → x ≡ get_or cur place 0 + 1 → CountedBut (without left place) counts old (set cur place x)
  but-one cur left place x is within has inside one = record {
    fits = let le = without-less left place within has in let f = is.fits in omega arith;
    many = length-set cur place x ∙ is.many;
    each = λ k lt. elim (same_or_not k place) [
      | inl e ↦
          subst (λ (n : ℕ). n < length old → get_or (set cur place x) n 0 + one_if (has_bit (without left place) n) ≡ get_or old n 0 + one_if (counts n)) (sym e)
          (λ at.
          let gone : one_if (has_bit (without left place) place) ≡ 0 = ap (λ (b : ℕ). one_if (b == 1)) (bit_at_clear_same w32 left place within) in
          let was : one_if (has_bit left place) ≡ 1 = ap (λ (b : ℕ). one_if (b == 1)) has in
          let put : get_or (set cur place x) place 0 ≡ x = get_or-set_same cur place x 0 inside in
          let so = is.each place at in
          omega arith) lt
      | inr ne ↦ ap (λ (b : Bool). get_or (set cur place x) k 0 + one_if b) (without-other left place k within is.fits ne) ∙ ap (λ (n : ℕ). n + one_if (has_bit left k)) (get_or-set_other cur place k x 0 ne) ∙ is.each k lt
    ];
  }

  -- none is left that counts
  pub but-none : (cur : List ℕ) (left : ℕ) → CountedBut left counts old cur → ((k : ℕ) → k < length old → bit_at left k ≡ 0) → CountsMore counts old cur
  but-none cur left is none = record {
    many = is.many;
    each = λ k lt. sym (ap (λ (b : ℕ). get_or cur k 0 + one_if (b == 1)) (none k lt) ∙ add-zero (get_or cur k 0)) ∙ is.each k lt;
  }

-- ---- instances

module _ (instance : ℕ) (next : InstanceReach → InstanceReach) (old : List InstanceReach) where
  -- the instance is now another
  pub becomes-set : (was x : InstanceReach) → instance < length old → was ≡ get_or old instance was → x ≡ next was → Becomes instance next old (set old instance x)
  becomes-set was x inside read is = record {
    many = length-set old instance x;
    each = λ k any lt. elim (same_or_not k instance) [
      | inl e ↦ subst (λ (n : ℕ). get_or (set old instance x) n any ≡ (if instance == n then next (get_or old n any) else get_or old n any)) (sym e)
          (get_or-set_same old instance x any inside ∙ is ∙ ap next (read ∙ get_or_default old instance was any inside)
          ∙ sym (ap (λ (b : Bool). if b then next (get_or old instance any) else get_or old instance any) (same-number instance instance refl)))
      | inr ne ↦ get_or-set_other old instance k x any ne ∙ sym (ap (λ (b : Bool). if b then next (get_or old k any) else get_or old k any) (other-number instance k (λ e. ne (sym e))))
    ];
  }

  -- there is no such instance
  pub becomes-none : length old ≤ instance → Becomes instance next old old
  becomes-none past = record {
    many = refl;
    each = λ k any lt. sym (ap (λ (b : Bool). if b then next (get_or old k any) else get_or old k any) (other-number instance k (λ e. omega arith)));
  }

-- ---- monitors

-- what holds of each so far, and of the next
pub each-more : (P : ℕ → MonitorReach → Type 0) (n : ℕ) (ms : List MonitorReach) (next : MonitorReach) → length ms ≡ n → ((k : ℕ) (m : MonitorReach) → k < n → P k (get_or ms k m)) → P n next
    → (k : ℕ) (m : MonitorReach) → k < n + 1 → P k (get_or (ms ++ next ∷ []) k m)
each-more P n ms next many each here k m lt = elim (same_or_not k n) [
  | inl e ↦
      let last : get_or (ms ++ next ∷ []) k m ≡ next = get_or_push ms next m k (many ∙ sym e) in
      subst (P k) (sym last) (subst (λ (j : ℕ). P j next) (sym e) here)
  | inr ne ↦ subst (P k) (sym (get_or_append_left ms (next ∷ []) m k (omega arith))) (each k m (omega arith))
]

-- ---- no deliveries

-- what no delivery reaches is what no history reaches
pub unreached-is : (s : Setup) (monitor instances rows : ℕ) (of : Spec) (r : MonitorReach) → instances ≡ get_or s.shape monitor 0 → rows + 1 ≡ row_count (get_or s.tables monitor (of_labels [])) → IsUnreached instances rows of r
    → IsReach (record { setup = s; history = [] }) monitor of r
unreached-is s monitor instances rows of r many_instances many_rows is =
    let unseen : InstanceReach = record { started = false; failed = false; running = false } in
    let inst : length r.instances.items ≡ instances = ap length is.instances ∙ length-replicate instances unseen in
    let row : length r.rows.items ≡ rows = ap length is.rows ∙ length-replicate rows 0 in
    let edge : length r.edges.items ≡ length (edges_of of) = ap length is.edges ∙ length-replicate (length (edges_of of)) 0 in
    let atom : length r.atoms.items ≡ atom_count of = ap length is.atoms ∙ length-replicate (atom_count of) 0 in
    record {
      passed = is.passed;
      started = is.started;
      kept = is.kept;
      failed = is.failed;
      ended = is.ended;
      letters = is.letters;
      instances_many = inst ∙ many_instances;
      instances = λ k i lt.
          let at : get_or r.instances.items k i ≡ unseen = ap (λ (xs : List InstanceReach). get_or xs k i) is.instances ∙ get_or-replicate instances k unseen i (omega arith) in
          record { started = ap (λ (x : InstanceReach). x.started) at; failed = ap (λ (x : InstanceReach). x.failed) at; running = ap (λ (x : InstanceReach). x.running) at };
      rows_many = ap (λ (n : ℕ). n + 1) row ∙ many_rows;
      rows = λ k lt. ap (λ (xs : List ℕ). get_or xs k 0) is.rows ∙ get_or-replicate rows k 0 0 (omega arith);
      edges_many = sym edge;
      edges = λ k none lt. ap (λ (xs : List ℕ). get_or xs k 0) is.edges ∙ get_or-replicate (length (edges_of of)) k 0 0 (omega arith);
      atoms_many = atom;
      atoms = λ k lt. ap (λ (xs : List ℕ). get_or xs k 0) is.atoms ∙ get_or-replicate (atom_count of) k 0 0 (omega arith);
    }
