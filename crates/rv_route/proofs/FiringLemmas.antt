-- One more firing makes one more delivery, and leaves those before it as they were.
use Rattle.std.proofs.Common.{◌≡◌, ℕ, ◌+◌, ◌==◌, ◌&&◌, ◌||◌, Bool, true, false, not, cond, List, [], ◌∷◌, ◌++◌, length, refl, sym, ap, ap₂, ◌∙◌, arith}
use Rattle.std.specs.Prelude.{All, Some, filter_map, fold, if◌then◌else◌}
use Rattle.std.specs.List.{list_any, position_or_len, cons_option}
use Rattle.std.proofs.lemmas.Bool.{eq-eqb}
use Rattle.std.proofs.lemmas.List.Elements.{filter-append, filter_map-append, All-head, All-tail, All-cons, All-nil}
use Rattle.std.proofs.lemmas.List.Folds.{list_any-append}
use Rattle.std.proofs.lemmas.List.Sums.{fold-append}
use Rattle.rv_trace.specs.declared.line.TraceLine.{TraceLine}
use Rattle.rv_model.specs.declared.record.Task.{Task}
use Rattle.rv_slots.specs.Tasks.{task_of, same_task, is_held, with_task, task_number}
use Rattle.rv_route.specs.declared.asking.Ask.{Ask}
use Rattle.rv_route.specs.declared.asking.Ask.TheVariants as asks
use Rattle.rv_route.specs.Routing.{Firing, LineDelivery, asked_task, tasks_of, asked_instance, delivery_by, deliveries_by, deliveries_on}

-- ---- places of tasks

module _ {X : Type 0} (p : X → Bool) where
  -- what is found is found at the same place when more follow
  place-append : (xs ys : List X) → list_any p xs ≡ true → position_or_len p (xs ++ ys) ≡ position_or_len p xs
  place-append [] ys e = cc
  place-append (x ∷ xs) ys e = go (p x) refl (place-append xs ys)
    where
      go : (b : Bool) → p x ≡ b → (list_any p xs ≡ true → position_or_len p (xs ++ ys) ≡ position_or_len p xs) → position_or_len p ((x ∷ xs) ++ ys) ≡ position_or_len p (x ∷ xs)
      go true is rest = rw is refl
      go false is rest = let later : list_any p xs ≡ true = sym (rw is refl) ∙ e in ap (λ n. cond (not (p x)) (1 + n) 0) (rest later)

  -- what comes last is found where it would have stood, or stands already
  place-push : (xs : List X) (y : X) → p y ≡ true → position_or_len p (xs ++ y ∷ []) ≡ position_or_len p xs
  place-push [] y passes = ap (λ b. cond (not b) (1 + 0) 0) passes
  place-push (x ∷ xs) y passes = ap (λ n. cond (not (p x)) (1 + n) 0) (place-push xs y passes)

-- a task is the same as itself
same-itself : (task : Task) → same_task task task ≡ true
same-itself task = ap₂ (λ (a b : Bool). a && b) (eq-eqb task.pid task.pid refl) (eq-eqb task.cpu task.cpu refl)

-- a task that is used is held
pub held-used : (tasks : List Task) (task : Task) → is_held (with_task tasks task) task ≡ true
held-used tasks task = go (is_held tasks task) refl
  where
    or_true : (b : Bool) → (b || true) ≡ true
    or_true true = refl
    or_true false = refl

    go : (b : Bool) → is_held tasks task ≡ b → is_held (if b then tasks else tasks ++ task ∷ []) task ≡ true
    go true is = is
    go false is = list_any-append (same_task task) tasks (task ∷ []) ∙ ap (λ (b : Bool). is_held tasks task || (b || false)) (same-itself task) ∙ or_true (is_held tasks task)

-- a task that is held is held still when another is used
pub held-still : (tasks : List Task) (used task : Task) → is_held tasks task ≡ true → is_held (with_task tasks used) task ≡ true
held-still tasks used task held = go (is_held tasks used)
  where
    go : (b : Bool) → is_held (if b then tasks else tasks ++ used ∷ []) task ≡ true
    go true = held
    go false = list_any-append (same_task task) tasks (used ∷ []) ∙ ap (λ (b : Bool). b || (same_task task used || false)) held

-- and keeps its number
number-still : (tasks : List Task) (used task : Task) → is_held tasks task ≡ true → task_number (with_task tasks used) task ≡ task_number tasks task
number-still tasks used task held = go (is_held tasks used)
  where
    go : (b : Bool) → task_number (if b then tasks else tasks ++ used ∷ []) task ≡ task_number tasks task
    go true = refl
    go false = place-append (same_task task) tasks (used ∷ []) held

-- the number that a task gets is its number from then on
pub number-used : (tasks : List Task) (task : Task) → task_number (with_task tasks task) task ≡ task_number tasks task
number-used tasks task = go (is_held tasks task)
  where
    go : (b : Bool) → task_number (if b then tasks else tasks ++ task ∷ []) task ≡ task_number tasks task
    go true = refl
    go false = place-push (same_task task) tasks task (same-itself task)

-- ---- deliveries

-- the task that the firing asks for, if any, is held
abbrev pub IsHeldOf : List Task → Firing → Type 0
IsHeldOf tasks firing = (task : Task) → asked_task firing.line.cpu firing.ask ≡ Some task → is_held tasks task ≡ true

-- the instance that was asked for stays when another task is used
instance-still : (tasks : List Task) (used : Task) (cpu : ℕ) (ask : Ask) → ((task : Task) → asked_task cpu ask ≡ Some task → is_held tasks task ≡ true) → asked_instance (with_task tasks used) cpu ask ≡ asked_instance tasks cpu ask
instance-still tasks used cpu asks.Quiet held = refl
instance-still tasks used cpu (asks.Instance instance) held = refl
instance-still tasks used cpu asks.NoPid held = refl
instance-still tasks used cpu (asks.Pid pid) held = number-still tasks used (task_of pid cpu) (held (task_of pid cpu) refl)

-- so do all deliveries
pub deliveries-still : (tasks : List Task) (used : Task) (order : ℕ) (firings : List Firing) → All (IsHeldOf tasks) firings → deliveries_by (with_task tasks used) order firings ≡ deliveries_by tasks order firings
deliveries-still tasks used order [] held = refl
deliveries-still tasks used order (f ∷ firings) held =
    ap₂ (λ (d : LineDelivery) (ds : List LineDelivery). d ∷ ds)
    (ap (λ (instance : ℕ). record { line = f.line; delivery = record { order = order; monitor = f.rule.monitor; instance = instance; hit = f.rule.hit } })
    (instance-still tasks used f.line.cpu f.ask (All-head (IsHeldOf tasks) f firings held)))
    (deliveries-still tasks used (order + 1) firings (All-tail (IsHeldOf tasks) f firings held))

-- one more firing makes one more delivery, with the next number
pub deliveries-more : (tasks : List Task) (order next : ℕ) (firings : List Firing) (f : Firing) → order + length firings ≡ next → deliveries_by tasks order (firings ++ f ∷ []) ≡ deliveries_by tasks order firings ++ delivery_by tasks next f ∷ []
deliveries-more tasks order next [] f is = ap (λ (n : ℕ). delivery_by tasks n f ∷ []) (omega arith)
deliveries-more tasks order next (g ∷ firings) f is = ap (λ (ds : List LineDelivery). delivery_by tasks order g ∷ ds) (deliveries-more tasks (order + 1) next firings f (omega arith))

-- what holds of the lines of firings holds of the lines of their deliveries
pub deliveries-lines : (P : TraceLine → Type 0) (tasks : List Task) (order : ℕ) (firings : List Firing) → All (λ (f : Firing). P f.line) firings → All (λ (x : LineDelivery). P x.line) (deliveries_by tasks order firings)
deliveries-lines P tasks order [] all = All-nil (λ (x : LineDelivery). P x.line)
deliveries-lines P tasks order (f ∷ firings) all =
    All-cons (λ (x : LineDelivery). P x.line) (delivery_by tasks order f) (deliveries_by tasks (order + 1) firings) (All-head (λ (f : Firing). P f.line) f firings all)
    (deliveries-lines P tasks (order + 1) firings (All-tail (λ (f : Firing). P f.line) f firings all))

-- one more delivery goes to its CPU
pub own-more : (cpu : ℕ) (xs : List LineDelivery) (x : LineDelivery) → deliveries_on cpu (xs ++ x ∷ []) ≡ deliveries_on cpu xs ++ cond (x.line.cpu == cpu) (x ∷ []) []
own-more cpu xs x = filter-append (λ (y : LineDelivery). y.line.cpu == cpu) xs (x ∷ [])

-- one more firing uses its task, if it asks for one
pub tasks-used : (firings : List Firing) (f : Firing) → tasks_of (firings ++ f ∷ []) ≡ fold with_task (tasks_of firings) (cons_option (asked_task f.line.cpu f.ask) [])
tasks-used firings f =
    ap (fold with_task []) (filter_map-append (λ (g : Firing). asked_task g.line.cpu g.ask) firings (f ∷ []))
    ∙ fold-append with_task [] (filter_map (λ (g : Firing). asked_task g.line.cpu g.ask) firings) (cons_option (asked_task f.line.cpu f.ask) [])
