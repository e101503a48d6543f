-- The tallies of one record more, and of records in another order.
use Rattle.std.proofs.Common.{◌≡◌, ◌≢◌, ℕ, zero, suc, ◌+◌, ◌<◌, ◌≤◌, ◌&&◌, ◌||◌, ◌==◌, Bool, true, false, List, [], ◌∷◌, ◌++◌, ◌⊎◌, inl, inr, length, take, get_or, set, count_by, length-set, get_or-set_same, get_or-set_other, arith, refl, sym, ap, ◌∙◌, subst}
use Rattle.std.specs.Prelude.{if◌then◌else◌}
use Rattle.std.specs.List.{list_any}
use Rattle.std.proofs.lemmas.List.{take_more, take_all, get_or_append_left}
use Rattle.std.proofs.Math.Seq.{get_or-append_seam}
use Rattle.std.proofs.lemmas.List.Folds.{list_any-append}
use Rattle.std.proofs.lemmas.List.Sums.{sum_by-append}
use Rattle.rv_model.specs.declared.record.Record.{Record}
use Rattle.rv_model.specs.declared.record.Task.{Task}
use Rattle.rv_model.specs.Numbers.{list_of}
use Rattle.rv_model.specs.Records.{is_failure, is_stopped, is_ended, sort_records}
use Rattle.rv_model.specs.Reports.{Reported, instances_in, is_of_monitor, is_at, count_text, summary_text}
use Rattle.rv_report.specs.declared.summary.Summary.{Summary}
use Rattle.rv_report.specs.declared.tally.Tally.{Tally}
use Rattle.rv_report.specs.Summary.{IsSummary}
use Rattle.rv_report.specs.Tallies.{IsTally, AreTallies}
use Rattle.rv_report.specs.inner.Tallies.{count_line}
use Rattle.rv_report.proofs.CountLemmas.{count-none, count-yes, count-no}
use Rattle.rv_model.proofs.SortedLemmas.{count-sort, any-sort}

-- ---- one record more

-- a count
pub count-snoc : (p : Record → Bool) (rs : List Record) (r : Record) (b : Bool) → p r ≡ b → count_by p (rs ++ r ∷ []) ≡ count_by p rs + (if b then 1 else 0)
count-snoc p rs r b is =
    let more : count_by p (rs ++ r ∷ []) ≡ count_by p rs + (0 + (if p r then 1 else 0)) = sum_by-append (λ x. if p x then 1 else 0) rs (r ∷ []) in
    more ∙ ap (λ (t : Bool). count_by p rs + (0 + (if t then 1 else 0))) is ∙ (let e : count_by p rs + (0 + (if b then 1 else 0)) ≡ count_by p rs + (if b then 1 else 0) = omega arith in e)

-- whether some record passes
pub any-snoc : (p : Record → Bool) (rs : List Record) (r : Record) (b : Bool) → p r ≡ b → list_any p (rs ++ r ∷ []) ≡ (list_any p rs || b)
any-snoc p rs r b is = list_any-append p rs (r ∷ []) ∙ ap (λ (t : Bool). list_any p rs || t) (or-false (p r) ∙ is)
  where
    or-false : (t : Bool) → (t || false) ≡ t
    or-false true = refl
    or-false false = refl

-- a number is itself
same : (n : ℕ) → (n == n) ≡ true
same n = grind arith

-- and no other
pub apart : (m n : ℕ) → m ≢ n → (m == n) ≡ false
apart m n ne = grind arith

-- of the monitor
pub tally-mine : (instances : ℕ) (rs : List Record) (r : Record) (t t' : Tally) → is_ended r ≡ false → length t'.seen.items ≡ length t.seen.items
    → ((k : ℕ) → k < length t.seen.items → get_or t'.seen.items k false ≡ (get_or t.seen.items k false || (r.instance == k)))
    → t'.deliveries ≡ t.deliveries + 1 → t'.failures ≡ t.failures + (if is_failure r then 1 else 0) → t'.stopped ≡ t.stopped + (if is_stopped r then 1 else 0)
    → IsTally r.monitor instances rs t → IsTally r.monitor instances (rs ++ r ∷ []) t'
tally-mine instances rs r t t' goes long marked deliveries failures stopped was = record {
  many = long ∙ was.many;
  seen = λ k lt.
      marked k (let l = was.many in omega arith) ∙ ap (λ (b : Bool). b || (r.instance == k)) (was.seen k lt)
      ∙ sym (any-snoc (is_at r.monitor k) rs r (r.instance == k) (ap (λ (b : Bool). b && (r.instance == k)) mine));
  deliveries = deliveries ∙ ap (λ (n : ℕ). n + 1) was.deliveries ∙ sym (count-snoc (is_of_monitor r.monitor) rs r true mine);
  failures = failures ∙ ap (λ (n : ℕ). n + (if is_failure r then 1 else 0)) was.failures
      ∙ sym (count-snoc (λ x. is_of_monitor r.monitor x && is_failure x) rs r (is_failure r) (ap (λ (b : Bool). b && is_failure r) mine));
  stopped = stopped ∙ ap (λ (n : ℕ). n + (if is_stopped r then 1 else 0)) was.stopped
      ∙ sym (count-snoc (λ x. is_of_monitor r.monitor x && is_stopped x) rs r (is_stopped r) (ap (λ (b : Bool). b && is_stopped r) mine));
}
  where
    mine : is_of_monitor r.monitor r ≡ true
    mine = rw (same r.monitor, goes) refl

-- not counted for the monitor
tally-left : (monitor instances : ℕ) (rs : List Record) (r : Record) (t : Tally) → is_of_monitor monitor r ≡ false → IsTally monitor instances rs t → IsTally monitor instances (rs ++ r ∷ []) t
tally-left monitor instances rs r t left was =
    let none : (n : ℕ) → n ≡ n + 0 = λ n. omega arith in
    record {
      many = was.many;
      seen = λ k lt. was.seen k lt ∙ or-false (list_any (is_at monitor k) rs) ∙ sym (any-snoc (is_at monitor k) rs r false (ap (λ (b : Bool). b && (r.instance == k)) left));
      deliveries = was.deliveries ∙ none (count_by (is_of_monitor monitor) rs) ∙ sym (count-snoc (is_of_monitor monitor) rs r false left);
      failures = was.failures ∙ none (count_by (λ x. is_of_monitor monitor x && is_failure x) rs) ∙ sym (count-snoc (λ x. is_of_monitor monitor x && is_failure x) rs r false (ap (λ (b : Bool). b && is_failure r) left));
      stopped = was.stopped ∙ none (count_by (λ x. is_of_monitor monitor x && is_stopped x) rs) ∙ sym (count-snoc (λ x. is_of_monitor monitor x && is_stopped x) rs r false (ap (λ (b : Bool). b && is_stopped r) left));
    }
  where
    or-false : (b : Bool) → b ≡ (b || false)
    or-false true = refl
    or-false false = refl

-- of another monitor
tally-other : (monitor instances : ℕ) (rs : List Record) (r : Record) (t : Tally) → r.monitor ≢ monitor → IsTally monitor instances rs t → IsTally monitor instances (rs ++ r ∷ []) t
tally-other monitor instances rs r t other = tally-left monitor instances rs r t (rw (apart r.monitor monitor other) refl)

-- an end
pub tally-ended : (instances : ℕ) (rs : List Record) (r : Record) (t : Tally) → is_ended r ≡ true → IsTally r.monitor instances rs t → IsTally r.monitor instances (rs ++ r ∷ []) t
tally-ended instances rs r t ends = tally-left r.monitor instances rs r t (rw (same r.monitor, ends) refl)

-- the same number or another
pub same_or_not : (m n : ℕ) → (m ≡ n) ⊎ (m ≢ n)
same_or_not m n = grind arith

-- of one of the monitors
pub tallies-mine : (monitors : List Reported) (tasks : List Task) (rs : List Record) (r : Record) (ts : List Tally) (t' : Tally) → r.monitor < length ts
    → ((instances : ℕ) (t : Tally) → IsTally r.monitor instances rs (get_or ts r.monitor t) → IsTally r.monitor instances (rs ++ r ∷ []) t')
    → AreTallies monitors tasks rs ts → AreTallies monitors tasks (rs ++ r ∷ []) (set ts r.monitor t')
tallies-mine monitors tasks rs r ts t' inside mine was = record {
  many = length-set ts r.monitor t' ∙ was.many;
  each = λ k m t lt. elim (same_or_not k r.monitor) [
    | inl e ↦
        let here : IsTally r.monitor (instances_in tasks (get_or monitors r.monitor m).scope) rs (get_or ts r.monitor t) = was.each r.monitor m t (let l = was.many in omega arith) in
        let at : get_or (set ts r.monitor t') r.monitor t ≡ t' = get_or-set_same ts r.monitor t' t inside in
        let now : IsTally r.monitor (instances_in tasks (get_or monitors r.monitor m).scope) (rs ++ r ∷ []) (get_or (set ts r.monitor t') r.monitor t) =
        subst (IsTally r.monitor (instances_in tasks (get_or monitors r.monitor m).scope) (rs ++ r ∷ [])) (sym at) (mine (instances_in tasks (get_or monitors r.monitor m).scope) t here) in
        subst (λ (j : ℕ). IsTally j (instances_in tasks (get_or monitors j m).scope) (rs ++ r ∷ []) (get_or (set ts r.monitor t') j t)) (sym e) now
    | inr ne ↦
        subst (IsTally k (instances_in tasks (get_or monitors k m).scope) (rs ++ r ∷ [])) (sym (get_or-set_other ts r.monitor k t' t ne))
        (tally-other k (instances_in tasks (get_or monitors k m).scope) rs r (get_or ts k t) (λ f. ne (sym f)) (was.each k m t lt))
  ];
}

-- of none of them
pub tallies-none : (monitors : List Reported) (tasks : List Task) (rs : List Record) (r : Record) (ts : List Tally) → length ts ≤ r.monitor → AreTallies monitors tasks rs ts → AreTallies monitors tasks (rs ++ r ∷ []) ts
tallies-none monitors tasks rs r ts outside was = record {
  many = was.many;
  each = λ k m t lt. tally-other k (instances_in tasks (get_or monitors k m).scope) rs r (get_or ts k t) (λ e. absurd (let l = was.many in omega arith)) (was.each k m t lt);
}

-- ---- one tally more

-- what holds of each tally so far, and of the next
pub each-more : (P : ℕ → Tally → Type 0) (n : ℕ) (ts : List Tally) (t' : Tally) → length ts ≡ n → ((k : ℕ) (t : Tally) → k < n → P k (get_or ts k t)) → P n t' → (k : ℕ) (t : Tally) → k < n + 1 → P k (get_or (ts ++ t' ∷ []) k t)
each-more P n ts t' many each next k t lt = elim (same_or_not k n) [
  | inl e ↦
      let last : get_or (ts ++ t' ∷ []) k t ≡ t' = ap (λ (j : ℕ). get_or (ts ++ t' ∷ []) j t) (e ∙ sym many) ∙ get_or-append_seam ts t' [] t in
      subst (P k) (sym last) (subst (λ (j : ℕ). P j t') (sym e) next)
  | inr ne ↦ subst (P k) (sym (get_or_append_left ts (t' ∷ []) t k (omega arith))) (each k t (omega arith))
]

-- ---- another order

-- a tally
tally-sort : (monitor instances : ℕ) (rs : List Record) (t : Tally) → IsTally monitor instances rs t → IsTally monitor instances (sort_records rs) t
tally-sort monitor instances rs t was = record {
  many = was.many;
  seen = λ k lt. was.seen k lt ∙ sym (any-sort (is_at monitor k) rs);
  deliveries = was.deliveries ∙ sym (count-sort (is_of_monitor monitor) rs);
  failures = was.failures ∙ sym (count-sort (λ r. is_of_monitor monitor r && is_failure r) rs);
  stopped = was.stopped ∙ sym (count-sort (λ r. is_of_monitor monitor r && is_stopped r) rs);
}

-- all tallies
pub tallies-sort : (monitors : List Reported) (tasks : List Task) (rs : List Record) (ts : List Tally) → AreTallies monitors tasks rs ts → AreTallies monitors tasks (sort_records rs) ts
tallies-sort monitors tasks rs ts was = record {
  many = was.many;
  each = λ k m t lt. tally-sort k (instances_in tasks (get_or monitors k m).scope) rs (get_or ts k t) (was.each k m t lt);
}

-- ---- a line

-- the marks up to a place
count-marks : (p : ℕ → Bool) (bs : List Bool) → ((k : ℕ) → k < length bs → get_or bs k false ≡ p k) → (n : ℕ) → n ≤ length bs → count_by (λ b. b) (take n bs) ≡ count_by p (list_of (λ k. k) n)
count-marks p bs are zero le = sym (count-none p)
count-marks p bs are (suc n) le =
    let so_far = count-marks p bs are n (omega arith) in
    let next : take (n + 1) bs ≡ take n bs ++ get_or bs n false ∷ [] = take_more bs n false (omega arith) in
    let is : get_or bs n false ≡ p n = are n (omega arith) in
    let e : suc n ≡ n + 1 = omega arith in
    ap (λ (m : ℕ). count_by (λ b. b) (take m bs)) e ∙ ap (count_by (λ b. b)) (next ∙ ap (λ (b : Bool). take n bs ++ b ∷ []) is) ∙ go (p n) refl so_far ∙ ap (λ (m : ℕ). count_by p (list_of (λ k. k) m)) (sym e)
  where
    last : (b : Bool) → count_by (λ b. b) (take n bs ++ b ∷ []) ≡ count_by (λ b. b) (take n bs) + (0 + (if b then 1 else 0))
    last b = sum_by-append (λ x. if x then 1 else 0) (take n bs) (b ∷ [])

    go : (b : Bool) → p n ≡ b → count_by (λ b. b) (take n bs) ≡ count_by p (list_of (λ k. k) n) → count_by (λ b. b) (take n bs ++ b ∷ []) ≡ count_by p (list_of (λ k. k) (n + 1))
    go true is so_far = last true ∙ (let e : count_by (λ b. b) (take n bs) + (0 + 1) ≡ count_by (λ b. b) (take n bs) + 1 = omega arith in e) ∙ count-yes p n (count_by (λ b. b) (take n bs)) is so_far
    go false is so_far = last false ∙ (let e : count_by (λ b. b) (take n bs) + (0 + 0) ≡ count_by (λ b. b) (take n bs) = omega arith in e) ∙ count-no p n (count_by (λ b. b) (take n bs)) is so_far

-- the numbers of a tally are the monitor's
pub summary-is : (tasks : List Task) (rs : List Record) (monitor : ℕ) (m : Reported) (t : Tally) (s : Summary) → s.instances ≡ count_by (λ b. b) t.seen.items → s.deliveries ≡ t.deliveries → s.failures ≡ t.failures → s.stopped ≡ t.stopped
    → IsTally monitor (instances_in tasks m.scope) rs t → IsSummary tasks rs monitor m s
summary-is tasks rs monitor m t s instances deliveries failures stopped is =
    let n = instances_in tasks m.scope in
    record {
      instances = instances ∙ ap (count_by (λ b. b)) (sym (take_all n t.seen.items (let l = is.many in omega arith)))
          ∙ count-marks (λ k. list_any (is_at monitor k) rs) t.seen.items (λ k lt. is.seen k (let l = is.many in omega arith)) n (let l = is.many in omega arith);
      deliveries = deliveries ∙ is.deliveries;
      failures = failures ∙ is.failures;
      stopped = stopped ∙ is.stopped;
    }

-- the line of these numbers is the monitor's
pub line-is : (tasks : List Task) (rs : List Record) (monitor : ℕ) (m : Reported) (s : Summary) → IsSummary tasks rs monitor m s → count_line m.display_name s ≡ summary_text tasks rs monitor m
line-is tasks rs monitor m s is = λ i. count_text m.display_name (is.instances i) (is.deliveries i) (is.failures i) (is.stopped i)
