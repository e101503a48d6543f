-- What is routed of the generated trace: few tasks and deliveries, and each CPU has those of its own instances alone.
use Rattle.std.proofs.Common.{◌≡◌, ◌≢◌, ℕ, suc, ◌+◌, ◌<◌, ◌≤◌, ◌⊎◌, inl, inr, false, not, cond, eqb, List, [], ◌∷◌, ◌++◌, length, get_or, Some, Ok, refl, sym, ◌∙◌, ap, subst, arith}
use Rattle.std.specs.Prelude.{All, slice_get}
use Rattle.std.proofs.lemmas.Bool.{and_right, lt-ltb, ne_eqb, cases_order}
use Rattle.std.proofs.lemmas.List.{get_or-set_same, get_or-set_other, length-set}
use Rattle.std.proofs.lemmas.List.Elements.{All-push, All-weaker}
use Rattle.rv_text.specs.declared.numbers.TheConstants.{TOO_MANY_TASKS, TOO_MANY_DELIVERIES}
use Rattle.rv_text.specs.Readings.{and_then, refused_at}
use Rattle.rv_model.specs.declared.record.Task.{Task}
use Rattle.rv_model.specs.declared.work.Delivery.{Delivery}
use Rattle.rv_trace.specs.declared.line.TraceLine.{TraceLine}
use Rattle.rv_slots.specs.Tasks.{task_of, is_held, with_task, task_number}
use Rattle.rv_slots.specs.declared.tasks.TheConstants.{MAX_TASKS}
use Rattle.rv_gen.specs.Generated.{first_pid, second_pid}
use Rattle.rv_bind.specs.declared.bindings.Monitor.{Monitor}
use Rattle.rv_bind.specs.RuleValues.{OnValue}
use Rattle.rv_route.specs.declared.deliveries.TheConstants.{MAX_DELIVERIES}
use Rattle.rv_route.specs.declared.asking.Ask.{Ask}
use Rattle.rv_route.specs.declared.asking.Ask.TheVariants as asks
use Rattle.rv_route.specs.Asking.{ask_of}
use Rattle.rv_route.specs.LineByLine.{Routes, no_lane, delivered, deliver, answer, line_routes}
use Rattle.rv_generated.proofs.TaskLemmas.{IsLow, AreLow, low-few, low-more, task-there, task-stays}
use Rattle.rv_generated.proofs.AskLemmas.{IsOwnAsk, AskOwn}

-- the instance belongs to the CPU: its own one of the first monitor, or one of its two tasks of the second
abbrev pub IsOwnInstance : List Task → ℕ → ℕ → ℕ → Type 0
IsOwnInstance tasks cpu monitor instance = ((monitor ≡ 0) × (instance ≡ cpu)) ⊎ ((monitor ≡ 1) × ((task : Task) × (slice_get tasks instance ≡ Some task) × (first_pid cpu ≤ task.pid) × (task.pid ≤ second_pid cpu)))

-- so does a delivery's
abbrev pub IsOwn : List Task → ℕ → Delivery → Type 0
IsOwn tasks cpu d = IsOwnInstance tasks cpu d.monitor d.instance

-- at most so many deliveries, each on the CPU that it belongs to, and few tasks
pub record KeepsOwn (most : ℕ) (routes : Routes) : Type 0 where
  pub count : routes.count ≤ most
  pub tasks : AreLow routes.tasks
  pub many : length routes.lanes ≡ 64
  pub lanes : (cpu : ℕ) → All (IsOwn routes.tasks cpu) (get_or routes.lanes cpu no_lane).deliveries

-- more may have come
pub wider : (most more : ℕ) (routes : Routes) → most ≤ more → KeepsOwn most routes → KeepsOwn more routes
wider most more routes le keeps = record { count = (let c = keeps.count in omega arith); tasks = keeps.tasks; many = keeps.many; lanes = keeps.lanes }

-- an instance belongs to its CPU still when one more task is used
own-stays : (task : Task) (tasks : List Task) (cpu monitor instance : ℕ) → IsOwnInstance tasks cpu monitor instance → IsOwnInstance (with_task tasks task) cpu monitor instance
own-stays task tasks cpu monitor instance own =
    elim own [
      | inl first ↦ inl first
      | inr second ↦ inr (second.0, (second.1.0, task-stays task second.1.0 tasks instance second.1.1, second.1.2, second.1.3))
    ]

-- one more task is used
task-used : (most : ℕ) (routes : Routes) (task : Task) → IsLow task → KeepsOwn most routes → KeepsOwn most (record routes { tasks = with_task routes.tasks task })
task-used most routes task low keeps = record {
  count = keeps.count;
  tasks = low-more task routes.tasks low keeps.tasks;
  many = keeps.many;
  lanes = λ cpu. All-weaker (IsOwn routes.tasks cpu) (IsOwn (with_task routes.tasks task) cpu) (λ d own. own-stays task routes.tasks cpu d.monitor d.instance own) (get_or routes.lanes cpu no_lane).deliveries (keeps.lanes cpu);
}

module _ (line : TraceLine) (rule : OnValue) (most : ℕ) (room : most < MAX_DELIVERIES) (few : line.cpu < 8) where
  -- one more delivery comes
  delivers : (routes : Routes) (instance : ℕ) → KeepsOwn most routes → IsOwnInstance routes.tasks line.cpu rule.monitor instance → (after : Routes) × (deliver routes line rule instance ≡ Ok after) × KeepsOwn (suc most) after
  delivers routes instance keeps own =
      let small : routes.count < MAX_DELIVERIES = (let c = keeps.count in omega arith) in (
        delivered routes line rule instance,
        ap (λ b. cond b (Ok (delivered routes line rule instance)) (refused_at TOO_MANY_DELIVERIES line.number)) (lt-ltb _ _ small),
        record {
          count = (let c = keeps.count in omega arith);
          tasks = keeps.tasks;
          many = length-set routes.lanes line.cpu _ ∙ keeps.many;
          lanes = λ cpu. grown cpu (cases_order cpu line.cpu);
        },
      )
    where
      new : Delivery
      new = record { order = routes.count; monitor = rule.monitor; instance = instance; hit = rule.hit }

      pushed : All (IsOwn routes.tasks line.cpu) ((get_or routes.lanes line.cpu no_lane).deliveries ++ new ∷ [])
      pushed = All-push (IsOwn routes.tasks line.cpu) (get_or routes.lanes line.cpu no_lane).deliveries new (keeps.lanes line.cpu) own

      grown : (cpu : ℕ) → (cpu ≡ line.cpu) ⊎ ((cpu < line.cpu) ⊎ (line.cpu < cpu)) → All (IsOwn routes.tasks cpu) (get_or (delivered routes line rule instance).lanes cpu no_lane).deliveries
      grown cpu (inl same) =
          let inside : line.cpu < length routes.lanes = (let m = keeps.many in omega arith) in
          subst (λ (c : ℕ). All (IsOwn routes.tasks c) (get_or (delivered routes line rule instance).lanes c no_lane).deliveries) (sym same)
          (rw (get_or-set_same routes.lanes line.cpu _ no_lane inside) pushed)
      grown cpu (inr sides) =
          let other : cpu ≢ line.cpu = (λ same. elim sides [ inl less ↦ absurd (omega arith) | inr more ↦ absurd (omega arith) ]) in
          rw (get_or-set_other routes.lanes line.cpu cpu _ no_lane other) (keeps.lanes cpu)

  -- what a rule asks for is done
  answers : (routes : Routes) (ask : Ask) → KeepsOwn most routes → IsOwnAsk line.cpu rule.monitor ask → (after : Routes) × (answer routes line rule ask ≡ Ok after) × KeepsOwn (suc most) after
  answers routes asks.Quiet keeps own = (routes, refl, wider most (suc most) routes (omega arith) keeps)
  answers routes (asks.Instance instance) keeps own = delivers routes instance keeps (inl own)
  answers routes asks.NoPid keeps own = absurd own
  answers routes (asks.Pid pid) keeps own =
      let task : Task = task_of pid line.cpu in
      let idle : eqb pid 0 ≡ false = ne_eqb pid 0 (λ none. let low = own.1 in omega arith) in
      let low : IsLow (task_of pid line.cpu) = record { pid = (let high = own.2 in omega arith); cpu = ap (λ b. cond b line.cpu 0) idle } in
      let used = task-used most routes (task_of pid line.cpu) low keeps in
      let full : eqb (length routes.tasks) MAX_TASKS ≡ false = ne_eqb (length routes.tasks) MAX_TASKS (λ is. let many = low-few routes.tasks keeps.tasks in omega arith) in
      let done = delivers (record routes { tasks = with_task routes.tasks (task_of pid line.cpu) }) (task_number routes.tasks (task_of pid line.cpu)) used (inr (own.0, (task_of pid line.cpu, task-there (task_of pid line.cpu) routes.tasks, own.1, own.2))) in (
        done.0,
        ap (λ b. cond b (refused_at TOO_MANY_TASKS line.number) (deliver (record routes { tasks = with_task routes.tasks (task_of pid line.cpu) }) line rule (task_number routes.tasks (task_of pid line.cpu)))) (and_right (not (is_held routes.tasks (task_of pid line.cpu))) _ full) ∙ done.1,
        done.2,
      )

module _ (text : List ℕ) (line : TraceLine) (monitors : List Monitor) (few : line.cpu < 8) (ask : OnValue → Ask) (are : (rule : OnValue) → ask_of text line monitors rule ≡ ask rule) where
  -- so the rules do what they ask for
  pub rules-own : (rules : List OnValue) (more most : ℕ) (routes : Routes) → most + more ≤ MAX_DELIVERIES → AskOwn line.cpu ask more rules → KeepsOwn most routes
      → (after : Routes) × (line_routes text line monitors rules routes ≡ Ok after) × KeepsOwn (most + more) after
  unfolding line_routes
  rules-own [] more most routes room own keeps = (routes, refl, wider most (most + more) routes (omega arith) keeps)
  rules-own (rule ∷ rules) more most routes room own keeps =
      elim own [
        | inl quiet ↦ (let rest = rules-own rules more most routes room quiet.1 keeps in
            (rest.0, ap (λ a. and_then (answer routes line rule a) (line_routes text line monitors rules)) (are rule ∙ quiet.0) ∙ rest.1, rest.2))
        | inr asked ↦ (let count : more ≡ suc asked.0 = asked.1 in
            let first = answers line rule most (omega arith) few routes (ask rule) keeps asked.2 in
            let rest = rules-own rules asked.0 (suc most) first.0 (omega arith) asked.3 first.2 in (
              rest.0,
              ap (λ a. and_then (answer routes line rule a) (line_routes text line monitors rules)) (are rule) ∙ ap (λ r. and_then r (line_routes text line monitors rules)) first.1 ∙ rest.1,
              wider (suc most + asked.0) (most + more) rest.0 (omega arith) rest.2,
            ))
      ]
