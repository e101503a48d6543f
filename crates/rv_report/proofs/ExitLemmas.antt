-- What the status of records says of them.
use Rattle.std.proofs.Common.{◌≡◌, ◌≢◌, ℕ, ◌||◌, Bool, true, false, List, ◌++◌, ◌⊎◌, inl, inr, refl, sym, ◌∙◌, subst, arith}
use Rattle.std.specs.Prelude.{Any, ◌↔◌, if◌then◌else◌}
use Rattle.std.specs.List.{list_any}
use Rattle.std.proofs.lemmas.List.Folds.{Any-from_list_any, list_any-append, list_any-from_Any}
use Rattle.rv_model.specs.declared.entry.Answer.TheVariants.{Passed, Started, Kept, Failed, Stopped, Cleared, Ended, Looked, Switched}
use Rattle.rv_model.specs.declared.record.Delivered.{Delivered}
use Rattle.rv_model.specs.declared.record.Delivered.TheVariants.{Done, Racing}
use Rattle.rv_model.specs.declared.record.Record.{Record}
use Rattle.rv_model.specs.Records.{failed_outcome, racing_outcome, is_failure, is_stopped, status_of}
use Rattle.rv_report.specs.Exit.{HasFailed, WasStopped, IsStatus}

-- ---- one record
-- a failure's outcome
failed-from : (o : Delivered) → failed_outcome o ≡ true → (set : ℕ) × (o ≡ Done (Failed set))
failed-from (Done (Failed set)) is = (set, refl)
failed-from (Done Passed) is = absurd (let no : false ≡ true = is in cc)
failed-from (Done Started) is = absurd (let no : false ≡ true = is in cc)
failed-from (Done Kept) is = absurd (let no : false ≡ true = is in cc)
failed-from (Done Stopped) is = absurd (let no : false ≡ true = is in cc)
failed-from (Done Cleared) is = absurd (let no : false ≡ true = is in cc)
failed-from (Done Ended) is = absurd (let no : false ≡ true = is in cc)
failed-from (Done (Looked word)) is = absurd (let no : false ≡ true = is in cc)
failed-from (Done Switched) is = absurd (let no : false ≡ true = is in cc)
failed-from Racing is = absurd (let no : false ≡ true = is in cc)

-- a stop's outcome
stopped-from : (o : Delivered) → racing_outcome o ≡ true → o ≡ Racing
stopped-from (Done a) is = absurd (let no : false ≡ true = is in cc)
stopped-from Racing is = refl

-- ---- some record
-- what each record has that has another thing
any-map : (P Q : Record → Type 0) → ((r : Record) → P r → Q r) → (rs : List Record) → Any P rs → Any Q rs
any-map P Q f rs (k, r, lt, is, p) = (k, r, lt, is, f r p)

-- the test for a failure
some-failed : (rs : List Record) → (list_any is_failure rs ≡ true) ↔ Any HasFailed rs
some-failed rs = (
  λ yes. any-map (λ r. is_failure r ≡ true) HasFailed (λ r p. failed-from r.outcome p) rs (Any-from_list_any is_failure rs yes),
  λ any. list_any-from_Any is_failure rs (any-map HasFailed (λ r. is_failure r ≡ true) (λ r p. rw p.1 refl) rs any),
)

-- the test for a stop
some-stopped : (rs : List Record) → (list_any is_stopped rs ≡ true) ↔ Any WasStopped rs
some-stopped rs = (
  λ yes. any-map (λ r. is_stopped r ≡ true) WasStopped (λ r p. stopped-from r.outcome p) rs (Any-from_list_any is_stopped rs yes),
  λ any. list_any-from_Any is_stopped rs (any-map WasStopped (λ r. is_stopped r ≡ true) (λ r p. rw p refl) rs any),
)

-- ---- the status
-- the status by the two tests
abbrev code : Bool → Bool → ℕ
code failed stopped = if failed then 1 else if stopped then 6 else 0

module _ (P Q : Type 0) where
  -- it is 0 without either
  clean : (f s : Bool) → ((f ≡ true) ↔ P) → ((s ≡ true) ↔ Q) → (code f s ≡ 0) ↔ ((¬ P) × (¬ Q))
  clean true s p q = (λ e. absurd (let no : 1 ≡ 0 = e in omega arith), λ n. absurd (n.0 (p.0 refl)))
  clean false true p q = (λ e. absurd (let no : 6 ≡ 0 = e in omega arith), λ n. absurd (n.1 (q.0 refl)))
  clean false false p q = (λ e. (λ x. let no : false ≡ true = p.1 x in cc, λ x. let no : false ≡ true = q.1 x in cc), λ n. refl)

  -- it is 1 by the first
  failure : (f s : Bool) → ((f ≡ true) ↔ P) → ((s ≡ true) ↔ Q) → (code f s ≡ 1) ↔ P
  failure true s p q = (λ e. p.0 refl, λ x. refl)
  failure false true p q = (λ e. absurd (let no : 6 ≡ 1 = e in omega arith), λ x. absurd (let no : false ≡ true = p.1 x in cc))
  failure false false p q = (λ e. absurd (let no : 0 ≡ 1 = e in omega arith), λ x. absurd (let no : false ≡ true = p.1 x in cc))

  -- it is 6 by the second alone
  stop : (f s : Bool) → ((f ≡ true) ↔ P) → ((s ≡ true) ↔ Q) → (code f s ≡ 6) ↔ ((¬ P) × Q)
  stop true s p q = (λ e. absurd (let no : 1 ≡ 6 = e in omega arith), λ n. absurd (n.0 (p.0 refl)))
  stop false true p q = (λ e. (λ x. let no : false ≡ true = p.1 x in cc, q.0 refl), λ n. refl)
  stop false false p q = (λ e. absurd (let no : 0 ≡ 6 = e in omega arith), λ n. absurd (let no : false ≡ true = q.1 n.1 in cc))

-- neither a failure nor a stop
status-clean : (rs : List Record) → (status_of rs ≡ 0) ↔ ((¬ Any HasFailed rs) × (¬ Any WasStopped rs))
status-clean rs = clean (Any HasFailed rs) (Any WasStopped rs) (list_any is_failure rs) (list_any is_stopped rs) (some-failed rs) (some-stopped rs)

-- a failure
status-failure : (rs : List Record) → (status_of rs ≡ 1) ↔ Any HasFailed rs
status-failure rs = failure (Any HasFailed rs) (Any WasStopped rs) (list_any is_failure rs) (list_any is_stopped rs) (some-failed rs) (some-stopped rs)

-- no failure and a stop
status-stopped : (rs : List Record) → (status_of rs ≡ 6) ↔ ((¬ Any HasFailed rs) × Any WasStopped rs)
status-stopped rs = stop (Any HasFailed rs) (Any WasStopped rs) (list_any is_failure rs) (list_any is_stopped rs) (some-failed rs) (some-stopped rs)

-- the status is each of the three exactly where it should be
pub status-is : (rs : List Record) (n : ℕ) → n ≡ status_of rs → IsStatus rs n
status-is rs n is = record {
  value = is;
  clean = subst (λ (m : ℕ). (m ≡ 0) ↔ ((¬ Any HasFailed rs) × (¬ Any WasStopped rs))) (sym is) (status-clean rs);
  failure = subst (λ (m : ℕ). (m ≡ 1) ↔ Any HasFailed rs) (sym is) (status-failure rs);
  stopped = subst (λ (m : ℕ). (m ≡ 6) ↔ ((¬ Any HasFailed rs) × Any WasStopped rs)) (sym is) (status-stopped rs);
}

-- ---- the status of records and others

-- of both, by the tests of each
both : (rs us : List Record) → status_of (rs ++ us) ≡ code (list_any is_failure rs || list_any is_failure us) (list_any is_stopped rs || list_any is_stopped us)
both rs us = λ i. code (list_any-append is_failure rs us i) (list_any-append is_stopped rs us i)

-- a failure, or nothing more
first : (f s f' s' : Bool) → (code f s ≡ 1) ⊎ (code f' s' ≡ 0) → code f s ≡ code (f || f') (s || s')
first true s f' s' e = refl
first false true true s' (inl e) = absurd (let not_one : 6 ≡ 1 = e in omega arith)
first false false true s' (inl e) = absurd (let not_one : 0 ≡ 1 = e in omega arith)
first false s true s' (inr e) = absurd (let not_one : 1 ≡ 0 = e in omega arith)
first false true false s' e = refl
first false false false true (inl e) = absurd (let not_one : 0 ≡ 1 = e in omega arith)
first false false false true (inr e) = absurd (let not_one : 6 ≡ 0 = e in omega arith)
first false false false false e = refl

-- no failure, and something more
second : (f s f' s' : Bool) → code f s ≢ 1 → code f' s' ≢ 0 → code f' s' ≡ code (f || f') (s || s')
second true s f' s' not_one not_zero = absurd (not_one refl)
second false s true s' not_one not_zero = refl
second false true false true not_one not_zero = refl
second false false false true not_one not_zero = refl
second false s false false not_one not_zero = absurd (not_zero refl)

-- it is that of the first
pub status-first : (rs us : List Record) → (status_of rs ≡ 1) ⊎ (status_of us ≡ 0) → status_of rs ≡ status_of (rs ++ us)
status-first rs us e = first (list_any is_failure rs) (list_any is_stopped rs) (list_any is_failure us) (list_any is_stopped us) e ∙ sym (both rs us)

-- it is that of the second
pub status-second : (rs us : List Record) → status_of rs ≢ 1 → status_of us ≢ 0 → status_of us ≡ status_of (rs ++ us)
status-second rs us not_one not_zero = second (list_any is_failure rs) (list_any is_stopped rs) (list_any is_failure us) (list_any is_stopped us) not_one not_zero ∙ sym (both rs us)
