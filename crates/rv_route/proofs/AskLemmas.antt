-- What a rule asks for, and how tasks grow by it.
use Rattle.std.proofs.Common.{◌≡◌, ℕ, zero, suc, ◌<◌, ◌≤◌, Bool, true, false, List, [], ◌∷◌, ◌++◌, length, refl, sym, ap, ◌∙◌, arith, length-append}
use Rattle.std.specs.Prelude.{Option, Some, None, nat_lt, slice_get, if◌then◌else◌}
use Rattle.std.specs.List.{list_all, list_any, position_or_len}
use Rattle.rv_text.specs.Decimal.{decimal_of}
use Rattle.rv_trace.specs.declared.line.TraceLine.{TraceLine}
use Rattle.rv_model.specs.declared.record.Task.{Task}
use Rattle.rv_model.specs.declared.work.Scope.{Scope}
use Rattle.rv_model.specs.declared.work.Scope.TheVariants as scopes
use Rattle.rv_slots.specs.Shapes.{count_of}
use Rattle.rv_slots.specs.Tasks.{same_task, is_held, with_task, task_number}
use Rattle.rv_bind.specs.declared.bindings.Monitor.{Monitor}
use Rattle.rv_bind.specs.RuleValues.{OnValue}
use Rattle.rv_bind.specs.WellFormed.{MonitorKind, kind_of, kinds_of}
use Rattle.rv_route.specs.declared.asking.Ask.TheVariants as asks
use Rattle.rv_route.specs.inner.Asking.{ask_on}
use Rattle.rv_route.specs.Asking.{text_at, field_value, holds, fires, pid_from, pid_at, pid_of, by_scope, asked_of, ask_of}

-- ---- what a rule asks for

-- the pid of a line or of its field never asks for an instance by its number
no_instance : (fields : List ℕ) (line : TraceLine) (by : Option (List ℕ)) (i : ℕ) → pid_of fields line by ≡ asks.Instance i → ⊥
no_instance fields line None i e = cc
no_instance fields line (Some name) i e = value (field_value fields name) e
  where
    small : (b : Bool) (n : ℕ) → (if b then asks.NoPid else asks.Pid n) ≡ asks.Instance i → ⊥
    small true n e = cc
    small false n e = cc

    number : (n : Option ℕ) → pid_from n ≡ asks.Instance i → ⊥
    number None e = cc
    number (Some n) e = small (nat_lt 4294967295 n) n e

    value : (v : Option (List ℕ)) → pid_at v ≡ asks.Instance i → ⊥
    value None e = cc
    value (Some text) e = number (decimal_of text) e

-- an instance that is asked for by scope is one of the instances that the scope has
pub instance-fits : (fields : List ℕ) (line : TraceLine) (by : Option (List ℕ)) (scope : Scope) (i tasks : ℕ) → line.cpu < 64 → by_scope fields line by scope ≡ asks.Instance i → i < count_of tasks scope
instance-fits fields line by scopes.Global i tasks cpu e = let same : 0 ≡ i = cc in omega arith
instance-fits fields line by scopes.Cpu i tasks cpu e = let same : line.cpu ≡ i = cc in omega arith
instance-fits fields line by scopes.Task i tasks cpu e = absurd (no_instance fields line by i e)

-- and its number is below 64
instance-small : (fields : List ℕ) (line : TraceLine) (by : Option (List ℕ)) (scope : Scope) (i : ℕ) → line.cpu < 64 → by_scope fields line by scope ≡ asks.Instance i → i < 64
instance-small fields line by scopes.Global i cpu e = let same : 0 ≡ i = cc in omega arith
instance-small fields line by scopes.Cpu i cpu e = let same : line.cpu ≡ i = cc in omega arith
instance-small fields line by scopes.Task i cpu e = absurd (no_instance fields line by i e)

-- so it is where a rule asks for one on a line of its event
pub asked-small : (fields : List ℕ) (line : TraceLine) (monitors : List Monitor) (rule : OnValue) (i : ℕ) → line.cpu < 64 → ask_on fields line monitors rule ≡ asks.Instance i → i < 64
asked-small fields line monitors rule i cpu e = go (list_all (holds fields) rule.tests) e
  where
    at : (m : Option Monitor) → asked_of fields line rule.by m ≡ asks.Instance i → i < 64
    at None e = cc
    at (Some m) e = instance-small fields line rule.by m.scope i cpu e

    go : (b : Bool) → (if b then asked_of fields line rule.by (slice_get monitors rule.monitor) else asks.Quiet) ≡ asks.Instance i → i < 64
    go true e = at (slice_get monitors rule.monitor) e
    go false e = cc

-- where a pid is asked for, the number of each task is that of an instance
pub pid-scope : (fields : List ℕ) (line : TraceLine) (by : Option (List ℕ)) (scope : Scope) (pid n tasks : ℕ) → by_scope fields line by scope ≡ asks.Pid pid → n < tasks → n < count_of tasks scope
pid-scope fields line by scopes.Global pid n tasks e lt = cc
pid-scope fields line by scopes.Cpu pid n tasks e lt = cc
pid-scope fields line by scopes.Task pid n tasks e lt = lt

-- the instance of a monitor by CPU is the line's CPU
pub instance-cpu : (fields : List ℕ) (line : TraceLine) (by : Option (List ℕ)) (scope : Scope) (i : ℕ) → by_scope fields line by scope ≡ asks.Instance i → scope ≡ scopes.Cpu → i ≡ line.cpu
instance-cpu fields line by scopes.Global i e is = cc
instance-cpu fields line by scopes.Cpu i e is = cc
instance-cpu fields line by scopes.Task i e is = cc

-- no pid asks for an instance of a monitor by CPU
pub pid-cpu : (fields : List ℕ) (line : TraceLine) (by : Option (List ℕ)) (scope : Scope) (pid : ℕ) → by_scope fields line by scope ≡ asks.Pid pid → scope ≡ scopes.Cpu → ⊥
pid-cpu fields line by scopes.Global pid e is = cc
pid-cpu fields line by scopes.Cpu pid e is = cc
pid-cpu fields line by scopes.Task pid e is = cc

-- the monitor of a kind
pub record HasKind (monitors : List Monitor) (place : ℕ) (kind : MonitorKind) : Type 0 where
  pub monitor : Monitor
  pub there : slice_get monitors place ≡ Some monitor
  pub is : kind_of monitor ≡ kind

-- the kind at a place is that of the monitor at the same place
pub has_kind : (monitors : List Monitor) (place : ℕ) (kind : MonitorKind) → slice_get (kinds_of monitors) place ≡ Some kind → HasKind monitors place kind
has_kind [] place kind e = cc
has_kind (m ∷ monitors) zero kind e = record { monitor = m; there = refl; is = cc }
has_kind (m ∷ monitors) (suc place) kind e = let h = has_kind monitors place kind e in record { monitor = h.monitor; there = h.there; is = h.is }

module _ (text : List ℕ) (line : TraceLine) (monitors : List Monitor) (rule : OnValue) (m : Monitor) (there : slice_get monitors rule.monitor ≡ Some m) where
  -- an instance that the rule asks for is asked for by its monitor's scope
  pub asked-instance : (i : ℕ) → ask_of text line monitors rule ≡ asks.Instance i → by_scope (text_at text line.fields) line rule.by m.scope ≡ asks.Instance i
  unfolding ask_of
  asked-instance i e = go (fires (text_at text line.name) (text_at text line.fields) rule) e
    where
      go : (b : Bool) → (if b then asked_of (text_at text line.fields) line rule.by (slice_get monitors rule.monitor) else asks.Quiet) ≡ asks.Instance i → by_scope (text_at text line.fields) line rule.by m.scope ≡ asks.Instance i
      go true e = sym (ap (asked_of (text_at text line.fields) line rule.by) there) ∙ e
      go false e = cc

  -- a pid that the rule asks for is asked for by its monitor's scope
  pub asked-pid : (pid : ℕ) → ask_of text line monitors rule ≡ asks.Pid pid → by_scope (text_at text line.fields) line rule.by m.scope ≡ asks.Pid pid
  unfolding ask_of
  asked-pid pid e = go (fires (text_at text line.name) (text_at text line.fields) rule) e
    where
      go : (b : Bool) → (if b then asked_of (text_at text line.fields) line rule.by (slice_get monitors rule.monitor) else asks.Quiet) ≡ asks.Pid pid → by_scope (text_at text line.fields) line rule.by m.scope ≡ asks.Pid pid
      go true e = sym (ap (asked_of (text_at text line.fields) line rule.by) there) ∙ e
      go false e = cc

-- ---- tasks

-- where one element passes, the first that passes stands in the list
any-below : {X : Type 0} (p : X → Bool) (xs : List X) → list_any p xs ≡ true → position_or_len p xs < length xs
any-below p [] e = cc
any-below p (x ∷ xs) e = go (p x) refl (any-below p xs)
  where
    go : (b : Bool) → p x ≡ b → (list_any p xs ≡ true → position_or_len p xs < length xs) → position_or_len p (x ∷ xs) < length (x ∷ xs)
    go true is rest = rw is (omega arith)
    go false is rest = let later : list_any p xs ≡ true = sym (rw is refl) ∙ e in let lt = rest later in rw is (omega arith)

-- the place of the first element that passes is never behind the end
most : {X : Type 0} (p : X → Bool) (xs : List X) → position_or_len p xs ≤ length xs
most p [] = omega arith
most p (x ∷ xs) = go (p x) refl (most p xs)
  where
    go : (b : Bool) → p x ≡ b → position_or_len p xs ≤ length xs → position_or_len p (x ∷ xs) ≤ length (x ∷ xs)
    go true is le = rw is (omega arith)
    go false is le = rw is (omega arith)

-- the number of a task is that of one of the tasks once this one is used
pub number-below : (tasks : List Task) (task : Task) → task_number tasks task < length (with_task tasks task)
number-below tasks task = go (is_held tasks task) refl
  where
    go : (b : Bool) → is_held tasks task ≡ b → task_number tasks task < length (if b then tasks else tasks ++ task ∷ [])
    go true is = any-below (same_task task) tasks is
    go false is = let le = most (same_task task) tasks in rw length-append (omega arith)

-- the tasks are no fewer once one is used
pub tasks-more : (tasks : List Task) (task : Task) → length tasks ≤ length (with_task tasks task)
tasks-more tasks task = go (is_held tasks task)
  where
    go : (b : Bool) → length tasks ≤ length (if b then tasks else tasks ++ task ∷ [])
    go true = omega arith
    go false = rw length-append (omega arith)
