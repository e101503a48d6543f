-- Routed lanes fit their lines and their monitors.
use Rattle.std.proofs.Common.{◌≡◌, ◌≢◌, ℕ, ◌<◌, ◌≤◌, ◌==◌, ◌&&◌, ◌⊎◌, inl, inr, Bool, true, false, not, List, [], ◌∷◌, length, get_or, set, refl, sym, ap, ◌∙◌, subst, arith, length-set}
use Rattle.std.specs.Prelude.{All, Contains, Result, Ok, Err, nat_lt, if◌then◌else◌}
use Rattle.std.proofs.lemmas.List.{get_or-set_same, get_or-set_other}
use Rattle.std.proofs.lemmas.List.Elements.{All-head, All-tail, All-push, All-weaker}
use Rattle.rv_text.specs.declared.refusals.Refusal.{Refusal}
use Rattle.rv_text.specs.Readings.{and_then}
use Rattle.rv_trace.specs.declared.line.TraceLine.{TraceLine}
use Rattle.rv_model.specs.declared.record.Task.{Task}
use Rattle.rv_model.specs.declared.work.Scope.{Scope}
use Rattle.rv_model.specs.declared.work.Scope.TheVariants as scopes
use Rattle.rv_model.specs.declared.work.Delivery.{Delivery}
use Rattle.rv_slots.specs.Shapes.{count_of}
use Rattle.rv_slots.specs.Tasks.{task_of, is_held, with_task, task_number}
use Rattle.rv_slots.specs.declared.tasks.TheConstants.{MAX_TASKS}
use Rattle.rv_bind.specs.declared.bindings.Monitor.{Monitor}
use Rattle.rv_bind.specs.RuleValues.{OnValue}
use Rattle.rv_bind.specs.WellFormed.{MonitorKind, kinds_of, FitsKind}
use Rattle.rv_route.specs.declared.deliveries.TheConstants.{MAX_DELIVERIES}
use Rattle.rv_route.specs.declared.asking.Ask.{Ask}
use Rattle.rv_route.specs.declared.asking.Ask.TheVariants as asks
use Rattle.rv_route.specs.Asking.{text_at, ask_of}
use Rattle.rv_route.specs.Lanes.{LaneValue, with_delivery}
use Rattle.rv_route.specs.LineByLine.{Routes, no_lane, delivered, deliver, answer, line_routes}
use Rattle.rv_route.specs.Fitting.{FitsKindOf, LaneFits, RoutesFit}
use Rattle.rv_route.proofs.TurnLemmas.{ascends-wider, ascends-more, of-more}
use Rattle.rv_route.proofs.AskLemmas.{asked-instance, asked-pid, has_kind, instance-cpu, instance-fits, number-below, pid-cpu, pid-scope, tasks-more}

-- ---- lanes

-- with more tasks a scope has no fewer instances
count-wider : (n m : ℕ) (scope : Scope) → n ≤ m → count_of n scope ≤ count_of m scope
count-wider n m scopes.Global le = omega arith
count-wider n m scopes.Cpu le = omega arith
count-wider n m scopes.Task le = le

module _ (text : List ℕ) (lines : List TraceLine) (monitors : List Monitor) where
  -- a delivery that fits still fits when there are more tasks
  fits-wider : (n m cpu : ℕ) → n ≤ m → (d : Delivery) → FitsKindOf (kinds_of monitors) n cpu d → FitsKindOf (kinds_of monitors) m cpu d
  fits-wider n m cpu le d f = record { kind = f.kind; there = f.there; hit = f.hit; instance_fits = let w = count-wider n m f.kind.scope le in let i = f.instance_fits in omega arith; by_cpu = f.by_cpu }

  -- a lane that fits up to a line fits up to a later one, and when there are more tasks
  lane-wider : (n m k l cpu : ℕ) (lane : LaneValue) → n ≤ m → k ≤ l → LaneFits lines (kinds_of monitors) k n cpu lane → LaneFits lines (kinds_of monitors) l m cpu lane
  lane-wider n m k l cpu lane le more f = record {
    ascends = ascends-wider n m lane.turns le f.ascends;
    of = f.of;
    fit = All-weaker (FitsKindOf (kinds_of monitors) k cpu) (FitsKindOf (kinds_of monitors) l cpu) (fits-wider k l cpu more) lane.deliveries f.fit;
  }

  -- where all lanes fit up to a line, they fit up to a later one
  pub routes-wider : (n m : ℕ) (routes : Routes) → n ≤ m → RoutesFit lines (kinds_of monitors) n routes → RoutesFit lines (kinds_of monitors) m routes
  routes-wider n m routes le f = record {
    many = f.many;
    lanes = λ cpu. lane-wider n m (length routes.tasks) (length routes.tasks) cpu (get_or routes.lanes cpu no_lane) le (omega arith) (f.lanes cpu);
  }

  module _ (line : TraceLine) (there : Contains lines line) (cpu_fits : line.cpu < 64) where
    -- a delivery that fits goes to its lane
    delivered_fits : (routes : Routes) (rule : OnValue) (place : ℕ) → FitsKindOf (kinds_of monitors) (length routes.tasks) line.cpu (record { order = routes.count; monitor = rule.monitor; instance = place; hit = rule.hit })
        → RoutesFit lines (kinds_of monitors) line.number routes → RoutesFit lines (kinds_of monitors) line.number (delivered routes line rule place)
    delivered_fits routes rule place fits f = record { many = length-set routes.lanes line.cpu _ ∙ f.many; lanes = λ cpu. go cpu (same_or_not cpu line.cpu) }
      where
        same_or_not : (a b : ℕ) → (a ≡ b) ⊎ (a ≢ b)
        same_or_not a b = grind arith

        d : Delivery
        d = record { order = routes.count; monitor = rule.monitor; instance = place; hit = rule.hit }

        grown : LaneValue
        grown = with_delivery (get_or routes.lanes line.cpu no_lane) line.number d

        here : LaneFits lines (kinds_of monitors) (length routes.tasks) line.number line.cpu grown
        here =
            let was = f.lanes line.cpu in
            let lane = get_or routes.lanes line.cpu no_lane in
            record {
              ascends = ascends-more line.number (length lane.deliveries) lane.turns was.ascends;
              of = of-more lines line.cpu line (length lane.deliveries) lane.turns there refl was.of;
              fit = All-push (FitsKindOf (kinds_of monitors) (length routes.tasks) line.cpu) lane.deliveries d was.fit fits;
            }

        go : (cpu : ℕ) → (cpu ≡ line.cpu) ⊎ (cpu ≢ line.cpu) → LaneFits lines (kinds_of monitors) (length routes.tasks) line.number cpu (get_or (set routes.lanes line.cpu grown) cpu no_lane)
        go cpu (inl same) =
            subst (λ (n : ℕ). LaneFits lines (kinds_of monitors) (length routes.tasks) line.number n (get_or (set routes.lanes line.cpu grown) n no_lane)) (sym same)
            (subst (λ (l : LaneValue). LaneFits lines (kinds_of monitors) (length routes.tasks) line.number line.cpu l) (sym (get_or-set_same routes.lanes line.cpu grown no_lane (let m = f.many in omega arith))) here)
        go cpu (inr other) =
            subst (λ (l : LaneValue). LaneFits lines (kinds_of monitors) (length routes.tasks) line.number cpu l) (sym (get_or-set_other routes.lanes line.cpu cpu grown no_lane other)) (f.lanes cpu)

    tasks_fit : (routes : Routes) (task : Task) → RoutesFit lines (kinds_of monitors) line.number routes → RoutesFit lines (kinds_of monitors) line.number (record routes { tasks = with_task routes.tasks task })
    tasks_fit routes task f = record {
      many = f.many;
      lanes = λ cpu. lane-wider line.number line.number (length routes.tasks) (length (with_task routes.tasks task)) cpu (get_or routes.lanes cpu no_lane) (omega arith) (tasks-more routes.tasks task) (f.lanes cpu);
    }

    deliver_fits : (routes after : Routes) (rule : OnValue) (place : ℕ) → FitsKindOf (kinds_of monitors) (length routes.tasks) line.cpu (record { order = routes.count; monitor = rule.monitor; instance = place; hit = rule.hit })
        → RoutesFit lines (kinds_of monitors) line.number routes → deliver routes line rule place ≡ Ok after → RoutesFit lines (kinds_of monitors) line.number after
    deliver_fits routes after rule place fits f is = go (nat_lt routes.count MAX_DELIVERIES) is
      where
        go : (b : Bool) → (if b then Ok (delivered routes line rule place) else Rattle.rv_text.specs.Readings.refused_at Rattle.rv_text.specs.declared.numbers.TheConstants.TOO_MANY_DELIVERIES line.number) ≡ Ok after → RoutesFit lines (kinds_of monitors) line.number after
        go true is = let same : delivered routes line rule place ≡ after = cc in subst (RoutesFit lines (kinds_of monitors) line.number) same (delivered_fits routes rule place fits f)
        go false is = cc

    answer_fits : (routes after : Routes) (rule : OnValue) (ask : Ask) → FitsKind (kinds_of monitors) rule → ask_of text line monitors rule ≡ ask
        → RoutesFit lines (kinds_of monitors) line.number routes → answer routes line rule ask ≡ Ok after → RoutesFit lines (kinds_of monitors) line.number after
    answer_fits routes after rule asks.Quiet k e f is = let same : routes ≡ after = cc in subst (RoutesFit lines (kinds_of monitors) line.number) same f
    answer_fits routes after rule asks.NoPid k e f is = cc
    answer_fits routes after rule (asks.Instance i) k e f is =
        let h = has_kind monitors rule.monitor k.kind k.there in
        let by = asked-instance text line monitors rule h.monitor h.there i e in
        let fits = instance-fits (text_at text line.fields) line rule.by h.monitor.scope i (length routes.tasks) cpu_fits by in
        deliver_fits routes after rule i (record {
          kind = k.kind;
          there = k.there;
          hit = k.hit;
          instance_fits = subst (λ (kind : MonitorKind). i < count_of (length routes.tasks) kind.scope) h.is fits;
          by_cpu = λ is_cpu. instance-cpu (text_at text line.fields) line rule.by h.monitor.scope i by (ap (λ (kind : MonitorKind). kind.scope) h.is ∙ is_cpu);
        }) f is
    answer_fits routes after rule (asks.Pid pid) k e f is = go (not (is_held routes.tasks (task_of pid line.cpu)) && length routes.tasks == MAX_TASKS) is
      where
        task : Task
        task = task_of pid line.cpu

        next : Routes
        next = record routes { tasks = with_task routes.tasks (task_of pid line.cpu) }

        fits : FitsKindOf (kinds_of monitors) (length (with_task routes.tasks (task_of pid line.cpu))) line.cpu (record { order = routes.count; monitor = rule.monitor; instance = task_number routes.tasks (task_of pid line.cpu); hit = rule.hit })
        fits =
            let h = has_kind monitors rule.monitor k.kind k.there in
            let by = asked-pid text line monitors rule h.monitor h.there pid e in
            let below = pid-scope (text_at text line.fields) line rule.by h.monitor.scope pid (task_number routes.tasks (task_of pid line.cpu)) (length (with_task routes.tasks (task_of pid line.cpu))) by (number-below routes.tasks (task_of pid line.cpu)) in
            record {
              kind = k.kind;
              there = k.there;
              hit = k.hit;
              instance_fits = subst (λ (kind : MonitorKind). task_number routes.tasks (task_of pid line.cpu) < count_of (length (with_task routes.tasks (task_of pid line.cpu))) kind.scope) h.is below;
              by_cpu = λ is_cpu. absurd (pid-cpu (text_at text line.fields) line rule.by h.monitor.scope pid by (ap (λ (kind : MonitorKind). kind.scope) h.is ∙ is_cpu));
            }

        go : (b : Bool)
            → (if b then Rattle.rv_text.specs.Readings.refused_at Rattle.rv_text.specs.declared.numbers.TheConstants.TOO_MANY_TASKS line.number
            else deliver (record routes { tasks = with_task routes.tasks (task_of pid line.cpu) }) line rule (task_number routes.tasks (task_of pid line.cpu))) ≡ Ok after → RoutesFit lines (kinds_of monitors) line.number after
        go true is = cc
        go false is = deliver_fits (record routes { tasks = with_task routes.tasks (task_of pid line.cpu) }) after rule (task_number routes.tasks (task_of pid line.cpu)) fits (tasks_fit routes (task_of pid line.cpu) f) is

    pub line_fits : (rules : List OnValue) (routes after : Routes) → All (FitsKind (kinds_of monitors)) rules → RoutesFit lines (kinds_of monitors) line.number routes
        → line_routes text line monitors rules routes ≡ Ok after → RoutesFit lines (kinds_of monitors) line.number after
    unfolding line_routes
    line_fits [] routes after all f is = let same : routes ≡ after = cc in subst (RoutesFit lines (kinds_of monitors) line.number) same f
    line_fits (rule ∷ rules) routes after all f is =
        go (answer routes line rule (ask_of text line monitors rule)) refl (λ next g. line_fits rules next after (All-tail (FitsKind (kinds_of monitors)) rule rules all) g) is
      where
        go : (r : Result Routes Refusal) → answer routes line rule (ask_of text line monitors rule) ≡ r
            → ((next : Routes) → RoutesFit lines (kinds_of monitors) line.number next → line_routes text line monitors rules next ≡ Ok after → RoutesFit lines (kinds_of monitors) line.number after)
            → and_then r (line_routes text line monitors rules) ≡ Ok after → RoutesFit lines (kinds_of monitors) line.number after
        go (Ok next) first later is = later next (answer_fits routes next rule (ask_of text line monitors rule) (All-head (FitsKind (kinds_of monitors)) rule rules all) refl f first) is
        go (Err refusal) first later is = cc
