-- Routing line after line comes to what the whole trace is routed to.
use Rattle.std.proofs.Common.{◌≡◌, ℕ, suc, ◌+◌, ◌<◌, ◌≤◌, ◌==◌, ◌&&◌, Bool, true, false, not, cond, List, [], ◌∷◌, ◌++◌, length, map, get_or, set, Result, Ok, Err, refl, sym, ap, ap₂, ◌∙◌, subst, arith, length-set, length-append, append_assoc, get_or-set_same, get_or-set_other}
use Rattle.std.specs.Prelude.{All, Option, Some, None, option_map, filter, nat_lt, if◌then◌else◌}
use Rattle.std.specs.Option.{option_or}
use Rattle.std.specs.List.{range_with_len}
use Rattle.std.proofs.lemmas.Bool.{lt-ltb, le-ltb, ltb-true, ltb-false, eqb-true, eqb-false, eq-eqb}
use Rattle.std.proofs.lemmas.List.{append-nil, map-append, length-map, get_or-replicate}
use Rattle.std.proofs.lemmas.List.Elements.{All-nil, All-head, All-push, All-filter, All-weaker}
use Rattle.rv_text.specs.declared.refusals.Refusal.{Refusal}
use Rattle.rv_text.specs.declared.numbers.TheConstants.{TOO_MANY_TASKS, TOO_MANY_DELIVERIES}
use Rattle.rv_text.specs.Readings.{and_then, refused_at}
use Rattle.rv_trace.specs.declared.line.TraceLine.{TraceLine}
use Rattle.rv_model.specs.declared.record.Task.{Task}
use Rattle.rv_model.specs.declared.work.Delivery.{Delivery}
use Rattle.rv_model.specs.declared.work.Turn.{Turn}
use Rattle.rv_model.specs.Works.{Work}
use Rattle.rv_slots.specs.Tasks.{task_of, is_held, with_task, task_number}
use Rattle.rv_slots.specs.declared.tasks.TheConstants.{MAX_TASKS}
use Rattle.rv_bind.specs.declared.bindings.Monitor.{Monitor}
use Rattle.rv_bind.specs.RuleValues.{OnValue}
use Rattle.rv_route.specs.declared.deliveries.TheConstants.{MAX_DELIVERIES}
use Rattle.rv_route.specs.declared.asking.Ask.{Ask}
use Rattle.rv_route.specs.declared.asking.Ask.TheVariants as asks
use Rattle.rv_route.specs.Asking.{ask_of}
use Rattle.rv_route.specs.Lanes.{LaneValue, with_turn, with_delivery}
use Rattle.rv_route.specs.Fitting.{NumbersAscend}
use Rattle.rv_route.specs.Routing.{Firing, LineDelivery, is_asked, firings_on, firings_of, tasks_of, asked_instance, deliveries_by, deliveries_on, line_turns, cpu_work, cpu_works, fault_of, first_fault, routed_by, unless_refused, route_of}
use Rattle.rv_route.specs.Laws.{RoutedLineByLine}
use Rattle.rv_route.specs.LineByLine.{Routes, no_lane, delivered, deliver, answer, line_routes, routes_of, no_routes, work_in, works_from, works_of, routed_of}
use Rattle.rv_route.proofs.LineTurnLemmas.{turns-new, turns-more}
use Rattle.rv_route.proofs.FiringLemmas.{IsHeldOf, held-used, held-still, number-used, deliveries-still, deliveries-more, deliveries-lines, own-more, tasks-used}

-- ---- lanes

-- the lane of these deliveries
abbrev lane_of : List TraceLine → List LineDelivery → LaneValue
lane_of lines own = record { turns = line_turns lines own; deliveries = map (λ (x : LineDelivery). x.delivery) own }

-- one more delivery of the last line
lane-more : (lines : List TraceLine) (line : TraceLine) (d : Delivery) (own : List LineDelivery) → All (λ (l : TraceLine). l.number < line.number) lines → All (λ (x : LineDelivery). x.line.number ≤ line.number) own
    → lane_of (lines ++ line ∷ []) (own ++ record { line = line; delivery = d } ∷ []) ≡ with_delivery (lane_of (lines ++ line ∷ []) own) line.number d
lane-more lines line d own below low =
    ap₂ (λ (turns : List Turn) (deliveries : List Delivery). record { turns = turns; deliveries = deliveries })
    (turns-more line d own lines below low ∙ ap (with_turn (line_turns (lines ++ line ∷ []) own) line.number) (sym (length-map own (λ (x : LineDelivery). x.delivery))))
    (map-append (λ (x : LineDelivery). x.delivery) own (record { line = line; delivery = d } ∷ []))

-- ---- what is routed is what fires

-- the lanes have the deliveries that these firings make, by the tasks that were routed
record AreOf (lines : List TraceLine) (firings : List Firing) (routes : Routes) : Type 0 where
  held : All (IsHeldOf routes.tasks) firings
  count : routes.count ≡ length firings
  many : length routes.lanes ≡ 64
  lanes : (cpu : ℕ) → cpu < 64 → get_or routes.lanes cpu no_lane ≡ lane_of lines (deliveries_on cpu (deliveries_by routes.tasks 0 firings))

-- the tasks are theirs too, and no more than may be; and they are of lines below this number
record IsReached (lines : List TraceLine) (next : ℕ) (firings : List Firing) (routes : Routes) : Type 0 where
  are : AreOf lines firings routes
  tasks : routes.tasks ≡ tasks_of firings
  few : length routes.tasks ≤ MAX_TASKS
  low : All (λ (f : Firing). f.line.number < next) firings

-- nothing is routed where nothing fires
none_fired : IsReached [] 0 [] no_routes
unfolding no_routes
none_fired = record {
  are = record { held = All-nil (IsHeldOf []); count = refl; many = refl; lanes = λ cpu lt. get_or-replicate 64 cpu no_lane no_lane lt };
  tasks = refl;
  few = omega arith;
  low = All-nil (λ (f : Firing). f.line.number < 0);
}

-- one line more, on which nothing has fired yet
line_begins : (lines : List TraceLine) (line : TraceLine) (firings : List Firing) (routes : Routes) → All (λ (f : Firing). f.line.number < line.number) firings → AreOf lines firings routes → AreOf (lines ++ line ∷ []) firings routes
line_begins lines line firings routes low are = record {
  held = are.held;
  count = are.count;
  many = are.many;
  lanes = λ cpu lt.
      let all = deliveries_by routes.tasks 0 firings in
      let own_low = All-filter (λ (x : LineDelivery). x.line.cpu == cpu) (λ (x : LineDelivery). x.line.number < line.number) all (deliveries-lines (λ (l : TraceLine). l.number < line.number) routes.tasks 0 firings low) in
      are.lanes cpu lt ∙ ap (λ (turns : List Turn). record { turns = turns; deliveries = map (λ (x : LineDelivery). x.delivery) (deliveries_on cpu all) }) (sym (turns-new line (deliveries_on cpu all) lines own_low));
}

-- one task more
task_used : (lines : List TraceLine) (firings : List Firing) (routes : Routes) (task : Task) → AreOf lines firings routes → AreOf lines firings (record routes { tasks = with_task routes.tasks task })
task_used lines firings routes task are = record {
  held = All-weaker (IsHeldOf routes.tasks) (IsHeldOf (with_task routes.tasks task)) (λ f h t e. held-still routes.tasks task t (h t e)) firings are.held;
  count = are.count;
  many = are.many;
  lanes = λ cpu lt. are.lanes cpu lt ∙ ap (λ (all : List LineDelivery). lane_of lines (deliveries_on cpu all)) (sym (deliveries-still routes.tasks task 0 firings are.held));
}

-- the refusal of a reading, if it is refused
abbrev error_in : Result Routes Refusal → Option Refusal
error_in (Ok routes) = None
error_in (Err refusal) = Some refusal

-- the refusal of a reading, or else the later one
abbrev fault_or : Result Routes Refusal → Option Refusal → Option Refusal
fault_or (Ok routes) later = later
fault_or (Err refusal) later = Some refusal

-- the two say the same
fault_or-is : (read : Result Routes Refusal) (later : Option Refusal) → option_or (error_in read) later ≡ fault_or read later
fault_or-is (Ok routes) later = refl
fault_or-is (Err refusal) later = refl

-- with one task more there are too many just where it is new and there are as many as may be
one_too_many : (most : ℕ) (tasks : List Task) (task : Task) → length tasks ≤ most → nat_lt most (length (with_task tasks task)) ≡ (not (is_held tasks task) && length tasks == most)
one_too_many most tasks task few = go (is_held tasks task)
  where
    full : (b : Bool) → (length tasks == most) ≡ b → nat_lt most (length (tasks ++ task ∷ [])) ≡ b
    full true is = let e = eqb-true (length tasks) most is in lt-ltb most (length (tasks ++ task ∷ [])) (rw length-append (omega arith))
    full false is = let ne = eqb-false (length tasks) most is in le-ltb most (length (tasks ++ task ∷ [])) (rw length-append (omega arith))

    go : (b : Bool) → nat_lt most (length (if b then tasks else tasks ++ task ∷ [])) ≡ (not b && length tasks == most)
    go true = le-ltb most (length tasks) few
    go false = full (length tasks == most) refl

-- with one delivery more there are too many just where there is no room for it
one_more : (most count : ℕ) (firings : List Firing) (f : Firing) → count ≡ length firings → nat_lt most (length (firings ++ f ∷ [])) ≡ not (nat_lt count most)
one_more most count firings f counted = go (nat_lt count most) refl
  where
    go : (b : Bool) → nat_lt count most ≡ b → nat_lt most (length (firings ++ f ∷ [])) ≡ not b
    go true is = let lt = ltb-true count most is in le-ltb most (length (firings ++ f ∷ [])) (rw length-append (omega arith))
    go false is = let le = ltb-false count most is in lt-ltb most (length (firings ++ f ∷ [])) (rw length-append (omega arith))

module _ (lines : List TraceLine) (line : TraceLine) (below : All (λ (l : TraceLine). l.number < line.number) lines) where
  -- what fires on the line
  abbrev fired : OnValue → Ask → Firing
  fired rule ask = record { line = line; rule = rule; ask = ask }

  -- one delivery more
  one_delivered : (firings : List Firing) (routes : Routes) (rule : OnValue) (ask : Ask) (instance : ℕ) → All (λ (f : Firing). f.line.number ≤ line.number) firings → IsHeldOf routes.tasks (fired rule ask) → asked_instance routes.tasks line.cpu ask ≡ instance
      → AreOf (lines ++ line ∷ []) firings routes → AreOf (lines ++ line ∷ []) (firings ++ fired rule ask ∷ []) (delivered routes line rule instance)
  one_delivered firings routes rule ask instance low held is are = record {
    held = All-push (IsHeldOf routes.tasks) firings (fired rule ask) are.held held;
    count = let c = are.count in rw length-append (omega arith);
    many = length-set routes.lanes line.cpu _ ∙ are.many;
    lanes = λ cpu lt. go cpu lt (line.cpu == cpu) refl;
  }
    where
      all : List LineDelivery
      all = deliveries_by routes.tasks 0 firings

      d : Delivery
      d = record { order = routes.count; monitor = rule.monitor; instance = instance; hit = rule.hit }

      grown : LaneValue
      grown = with_delivery (get_or routes.lanes line.cpu no_lane) line.number d

      more : deliveries_by routes.tasks 0 (firings ++ fired rule ask ∷ []) ≡ all ++ record { line = line; delivery = d } ∷ []
      more =
          deliveries-more routes.tasks 0 routes.count firings (fired rule ask) (let c = are.count in omega arith)
          ∙ ap (λ (i : ℕ). all ++ record { line = line; delivery = record { order = routes.count; monitor = rule.monitor; instance = i; hit = rule.hit } } ∷ []) is

      own_low : (cpu : ℕ) → All (λ (x : LineDelivery). x.line.number ≤ line.number) (deliveries_on cpu all)
      own_low cpu = All-filter (λ (x : LineDelivery). x.line.cpu == cpu) (λ (x : LineDelivery). x.line.number ≤ line.number) all (deliveries-lines (λ (l : TraceLine). l.number ≤ line.number) routes.tasks 0 firings low)

      here : line.cpu < 64 → grown ≡ lane_of (lines ++ line ∷ []) (deliveries_on line.cpu (deliveries_by routes.tasks 0 (firings ++ fired rule ask ∷ [])))
      here lt =
          ap (λ (lane : LaneValue). with_delivery lane line.number d) (are.lanes line.cpu lt)
          ∙ sym (lane-more lines line d (deliveries_on line.cpu all) below (own_low line.cpu))
          ∙ sym (ap (λ (xs : List LineDelivery). lane_of (lines ++ line ∷ []) (deliveries_on line.cpu xs)) more
          ∙ ap (lane_of (lines ++ line ∷ [])) (own-more line.cpu all (record { line = line; delivery = d }) ∙ ap (λ (b : Bool). deliveries_on line.cpu all ++ cond b (record { line = line; delivery = d } ∷ []) []) (eq-eqb line.cpu line.cpu refl)))

      go : (cpu : ℕ) → cpu < 64 → (b : Bool) → (line.cpu == cpu) ≡ b
          → get_or (set routes.lanes line.cpu grown) cpu no_lane ≡ lane_of (lines ++ line ∷ []) (deliveries_on cpu (deliveries_by routes.tasks 0 (firings ++ fired rule ask ∷ [])))
      go cpu lt true same =
          let e : line.cpu ≡ cpu = eqb-true line.cpu cpu same in
          subst (λ (n : ℕ). get_or (set routes.lanes line.cpu grown) n no_lane ≡ lane_of (lines ++ line ∷ []) (deliveries_on n (deliveries_by routes.tasks 0 (firings ++ fired rule ask ∷ [])))) e
          (get_or-set_same routes.lanes line.cpu grown no_lane (let m = are.many in omega arith) ∙ here (omega arith))
      go cpu lt false other =
          get_or-set_other routes.lanes line.cpu cpu grown no_lane (λ e. eqb-false line.cpu cpu other (sym e))
          ∙ are.lanes cpu lt
          ∙ sym (ap (λ (xs : List LineDelivery). lane_of (lines ++ line ∷ []) (deliveries_on cpu xs)) more
          ∙ ap (lane_of (lines ++ line ∷ [])) (own-more cpu all (record { line = line; delivery = d }) ∙ ap (λ (b : Bool). deliveries_on cpu all ++ cond b (record { line = line; delivery = d } ∷ []) []) other ∙ append-nil (deliveries_on cpu all)))

  -- unless it is one too many
  delivers : (firings : List Firing) (routes after : Routes) (rule : OnValue) (ask : Ask) (instance : ℕ) → All (λ (f : Firing). f.line.number ≤ line.number) firings → IsHeldOf routes.tasks (fired rule ask) → asked_instance routes.tasks line.cpu ask ≡ instance
      → AreOf (lines ++ line ∷ []) firings routes → deliver routes line rule instance ≡ Ok after → AreOf (lines ++ line ∷ []) (firings ++ fired rule ask ∷ []) after × (after.tasks ≡ routes.tasks)
  delivers firings routes after rule ask instance low held is are reached = go (nat_lt routes.count MAX_DELIVERIES) reached
    where
      go : (b : Bool) → (if b then Ok (delivered routes line rule instance) else refused_at TOO_MANY_DELIVERIES line.number) ≡ Ok after → AreOf (lines ++ line ∷ []) (firings ++ fired rule ask ∷ []) after × (after.tasks ≡ routes.tasks)
      go true e =
          let same : delivered routes line rule instance ≡ after = cc in
          subst (λ (r : Routes). AreOf (lines ++ line ∷ []) (firings ++ fired rule ask ∷ []) r × (r.tasks ≡ routes.tasks)) same (one_delivered firings routes rule ask instance low held is are, refl)
      go false e = cc

  -- the firings, and one of the rule if it fires
  abbrev and_fired : List Firing → OnValue → Ask → List Firing
  and_fired firings rule ask = firings ++ cond (is_asked ask) (fired rule ask ∷ []) []

  -- one firing more
  low_more : (firings : List Firing) (rule : OnValue) (ask : Ask) → All (λ (f : Firing). f.line.number < line.number + 1) firings → All (λ (f : Firing). f.line.number < line.number + 1) (firings ++ fired rule ask ∷ [])
  low_more firings rule ask low = All-push (λ (f : Firing). f.line.number < line.number + 1) firings (fired rule ask) low (omega arith)

  -- what a rule does is what it fires
  answered : (firings : List Firing) (routes after : Routes) (rule : OnValue) (ask : Ask) → IsReached (lines ++ line ∷ []) (line.number + 1) firings routes → answer routes line rule ask ≡ Ok after → IsReached (lines ++ line ∷ []) (line.number + 1) (and_fired firings rule ask) after
  answered firings routes after rule asks.Quiet r reached =
      let same : routes ≡ after = cc in
      subst (λ (fs : List Firing). IsReached (lines ++ line ∷ []) (line.number + 1) fs after) (sym (append-nil firings)) (subst (IsReached (lines ++ line ∷ []) (line.number + 1) firings) same r)
  answered firings routes after rule asks.NoPid r reached = cc
  answered firings routes after rule (asks.Instance instance) r reached =
      let low = All-weaker (λ (f : Firing). f.line.number < line.number + 1) (λ (f : Firing). f.line.number ≤ line.number) (λ f lt. omega arith) firings r.low in
      let made = delivers firings routes after rule (asks.Instance instance) instance low (λ task e. cc) refl r.are reached in
      record {
        are = made.0;
        tasks = made.1 ∙ r.tasks ∙ sym (tasks-used firings (fired rule (asks.Instance instance)));
        few = subst (λ (tasks : List Task). length tasks ≤ MAX_TASKS) (sym made.1) r.few;
        low = low_more firings rule (asks.Instance instance) r.low;
      }
  answered firings routes after rule (asks.Pid pid) r reached = go (not (is_held routes.tasks (task_of pid line.cpu)) && length routes.tasks == MAX_TASKS) refl reached
    where
      task : Task
      task = task_of pid line.cpu

      next : Routes
      next = record routes { tasks = with_task routes.tasks task }

      go : (b : Bool) → (not (is_held routes.tasks (task_of pid line.cpu)) && length routes.tasks == MAX_TASKS) ≡ b → (if b then refused_at TOO_MANY_TASKS line.number else deliver next line rule (task_number routes.tasks task)) ≡ Ok after
          → IsReached (lines ++ line ∷ []) (line.number + 1) (firings ++ fired rule (asks.Pid pid) ∷ []) after
      go true full e = cc
      go false full e =
          let low = All-weaker (λ (f : Firing). f.line.number < line.number + 1) (λ (f : Firing). f.line.number ≤ line.number) (λ f lt. omega arith) firings r.low in
          let held : IsHeldOf next.tasks (fired rule (asks.Pid pid)) = λ t is. let same : task ≡ t = cc in subst (λ (u : Task). is_held (with_task routes.tasks task) u ≡ true) same (held-used routes.tasks task) in
          let made = delivers firings next after rule (asks.Pid pid) (task_number routes.tasks task) low held (number-used routes.tasks task) (task_used (lines ++ line ∷ []) firings routes task r.are) e in
          let few : length (with_task routes.tasks task) ≤ MAX_TASKS = ltb-false MAX_TASKS (length (with_task routes.tasks task)) (one_too_many MAX_TASKS routes.tasks task r.few ∙ full) in
          record {
            are = made.0;
            tasks = made.1 ∙ ap (λ (tasks : List Task). with_task tasks task) r.tasks ∙ sym (tasks-used firings (fired rule (asks.Pid pid)));
            few = subst (λ (tasks : List Task). length tasks ≤ MAX_TASKS) (sym made.1) few;
            low = low_more firings rule (asks.Pid pid) r.low;
          }

  -- ---- refusals

  -- the refusal by whether a task, or a delivery, is one too many
  abbrev by_tests : Bool → Bool → Option Refusal
  by_tests tasks deliveries = option_map (λ (number : ℕ). record { number = number; line = line.number }) (if tasks then Some TOO_MANY_TASKS else if deliveries then Some TOO_MANY_DELIVERIES else None)

  -- a firing's refusal is that of its rule
  fault_answered : (firings : List Firing) (routes : Routes) (rule : OnValue) (ask : Ask) → is_asked ask ≡ true → IsReached (lines ++ line ∷ []) (line.number + 1) firings routes → fault_of firings (fired rule ask) ≡ error_in (answer routes line rule ask)
  fault_answered firings routes rule asks.Quiet asked r = cc
  fault_answered firings routes rule asks.NoPid asked r = refl
  fault_answered firings routes rule (asks.Instance instance) asked r =
      ap₂ by_tests
      (ap (λ (tasks : List Task). nat_lt MAX_TASKS (length tasks)) (tasks-used firings (fired rule (asks.Instance instance)) ∙ sym r.tasks) ∙ le-ltb MAX_TASKS (length routes.tasks) r.few)
      (one_more MAX_DELIVERIES routes.count firings (fired rule (asks.Instance instance)) r.are.count)
      ∙ go (nat_lt routes.count MAX_DELIVERIES)
    where
      go : (b : Bool) → by_tests false (not b) ≡ error_in (if b then Ok (delivered routes line rule instance) else refused_at TOO_MANY_DELIVERIES line.number)
      go true = refl
      go false = refl
  fault_answered firings routes rule (asks.Pid pid) asked r =
      ap₂ by_tests
      (ap (λ (tasks : List Task). nat_lt MAX_TASKS (length tasks)) (tasks-used firings (fired rule (asks.Pid pid)) ∙ ap (λ (tasks : List Task). with_task tasks (task_of pid line.cpu)) (sym r.tasks)) ∙ one_too_many MAX_TASKS routes.tasks (task_of pid line.cpu) r.few)
      (one_more MAX_DELIVERIES routes.count firings (fired rule (asks.Pid pid)) r.are.count)
      ∙ go (not (is_held routes.tasks (task_of pid line.cpu)) && length routes.tasks == MAX_TASKS) (nat_lt routes.count MAX_DELIVERIES)
    where
      go : (a b : Bool)
          → by_tests a (not b)
          ≡ error_in
          (if a then refused_at TOO_MANY_TASKS line.number
          else if b then Ok (delivered (record routes { tasks = with_task routes.tasks (task_of pid line.cpu) }) line rule (task_number routes.tasks (task_of pid line.cpu)))
          else refused_at TOO_MANY_DELIVERIES line.number)
      go true b = refl
      go false true = refl
      go false false = refl

  -- so the first fault is the rule's, or comes behind it
  fault_first : (firings more : List Firing) (routes : Routes) (rule : OnValue) (ask : Ask) → IsReached (lines ++ line ∷ []) (line.number + 1) firings routes
      → first_fault firings (cond (is_asked ask) (fired rule ask ∷ []) [] ++ more) ≡ fault_or (answer routes line rule ask) (first_fault (and_fired firings rule ask) more)
  fault_first firings more routes rule asks.Quiet r = ap (λ (fs : List Firing). first_fault fs more) (sym (append-nil firings))
  fault_first firings more routes rule asks.NoPid r = refl
  fault_first firings more routes rule (asks.Instance instance) r =
      ap (λ (o : Option Refusal). option_or o (first_fault (firings ++ fired rule (asks.Instance instance) ∷ []) more)) (fault_answered firings routes rule (asks.Instance instance) refl r)
      ∙ fault_or-is (answer routes line rule (asks.Instance instance)) (first_fault (firings ++ fired rule (asks.Instance instance) ∷ []) more)
  fault_first firings more routes rule (asks.Pid pid) r =
      ap (λ (o : Option Refusal). option_or o (first_fault (firings ++ fired rule (asks.Pid pid) ∷ []) more)) (fault_answered firings routes rule (asks.Pid pid) refl r)
      ∙ fault_or-is (answer routes line rule (asks.Pid pid)) (first_fault (firings ++ fired rule (asks.Pid pid) ∷ []) more)

  -- ---- the rules on the line

  module _ (text : List ℕ) (monitors : List Monitor) where
    -- the first rule fires, or not, and then the others
    firings-first : (rule : OnValue) (rules : List OnValue) → firings_on monitors (rule ∷ rules) text line ≡ cond (is_asked (ask_of text line monitors rule)) (fired rule (ask_of text line monitors rule) ∷ []) [] ++ firings_on monitors rules text line
    firings-first rule rules = go (is_asked (ask_of text line monitors rule))
      where
        go : (b : Bool) → cond b (fired rule (ask_of text line monitors rule) ∷ firings_on monitors rules text line) (firings_on monitors rules text line) ≡ cond b (fired rule (ask_of text line monitors rule) ∷ []) [] ++ firings_on monitors rules text line
        go true = refl
        go false = refl

    -- so what has fired before and on the line joins
    firings-joined : (firings : List Firing) (rule : OnValue) (rules : List OnValue) → and_fired firings rule (ask_of text line monitors rule) ++ firings_on monitors rules text line ≡ firings ++ firings_on monitors (rule ∷ rules) text line
    firings-joined firings rule rules =
        append_assoc firings (cond (is_asked (ask_of text line monitors rule)) (fired rule (ask_of text line monitors rule) ∷ []) []) (firings_on monitors rules text line)
        ∙ ap (λ (fs : List Firing). firings ++ fs) (sym (firings-first rule rules))

    -- what the rules do on the line is what fires on it
    rules_fired : (rules : List OnValue) (firings : List Firing) (routes after : Routes) → IsReached (lines ++ line ∷ []) (line.number + 1) firings routes → line_routes text line monitors rules routes ≡ Ok after
        → IsReached (lines ++ line ∷ []) (line.number + 1) (firings ++ firings_on monitors rules text line) after
    unfolding line_routes
    rules_fired [] firings routes after r reached =
        let same : routes ≡ after = cc in
        subst (λ (fs : List Firing). IsReached (lines ++ line ∷ []) (line.number + 1) fs after) (sym (append-nil firings)) (subst (IsReached (lines ++ line ∷ []) (line.number + 1) firings) same r)
    rules_fired (rule ∷ rules) firings routes after r reached =
        go (answer routes line rule (ask_of text line monitors rule)) refl (λ next q. rules_fired rules (and_fired firings rule (ask_of text line monitors rule)) next after q) reached
      where
        go : (read : Result Routes Refusal) → answer routes line rule (ask_of text line monitors rule) ≡ read
            → ((next : Routes) → IsReached (lines ++ line ∷ []) (line.number + 1) (and_fired firings rule (ask_of text line monitors rule)) next → line_routes text line monitors rules next ≡ Ok after
            → IsReached (lines ++ line ∷ []) (line.number + 1) (and_fired firings rule (ask_of text line monitors rule) ++ firings_on monitors rules text line) after)
            → and_then read (line_routes text line monitors rules) ≡ Ok after → IsReached (lines ++ line ∷ []) (line.number + 1) (firings ++ firings_on monitors (rule ∷ rules) text line) after
        go (Ok next) first later e =
            subst (λ (fs : List Firing). IsReached (lines ++ line ∷ []) (line.number + 1) fs after) (firings-joined firings rule rules)
            (later next (answered firings routes next rule (ask_of text line monitors rule) r first) e)
        go (Err refusal) first later e = cc

    -- the first fault on the line is that of its rules, or comes behind them
    rules_fault : (rules : List OnValue) (firings more : List Firing) (routes : Routes) → IsReached (lines ++ line ∷ []) (line.number + 1) firings routes
        → first_fault firings (firings_on monitors rules text line ++ more) ≡ fault_or (line_routes text line monitors rules routes) (first_fault (firings ++ firings_on monitors rules text line) more)
    unfolding line_routes
    rules_fault [] firings more routes r = ap (λ (fs : List Firing). first_fault fs more) (sym (append-nil firings))
    rules_fault (rule ∷ rules) firings more routes r =
        ap (λ (fs : List Firing). first_fault firings (fs ++ more)) (firings-first rule rules)
        ∙ ap (first_fault firings) (append_assoc (cond (is_asked (ask_of text line monitors rule)) (fired rule (ask_of text line monitors rule) ∷ []) []) (firings_on monitors rules text line) more)
        ∙ fault_first firings (firings_on monitors rules text line ++ more) routes rule (ask_of text line monitors rule) r
        ∙ go (answer routes line rule (ask_of text line monitors rule)) refl (λ next q. rules_fault rules (and_fired firings rule (ask_of text line monitors rule)) more next q)
      where
        go : (read : Result Routes Refusal) → answer routes line rule (ask_of text line monitors rule) ≡ read
            → ((next : Routes) → IsReached (lines ++ line ∷ []) (line.number + 1) (and_fired firings rule (ask_of text line monitors rule)) next
            → first_fault (and_fired firings rule (ask_of text line monitors rule)) (firings_on monitors rules text line ++ more)
            ≡ fault_or (line_routes text line monitors rules next) (first_fault (and_fired firings rule (ask_of text line monitors rule) ++ firings_on monitors rules text line) more))
            → fault_or read (first_fault (and_fired firings rule (ask_of text line monitors rule)) (firings_on monitors rules text line ++ more))
            ≡ fault_or (and_then read (line_routes text line monitors rules)) (first_fault (firings ++ firings_on monitors (rule ∷ rules) text line) more)
        go (Ok next) first later =
            later next (answered firings routes next rule (ask_of text line monitors rule) r first)
            ∙ ap (λ (fs : List Firing). fault_or (line_routes text line monitors rules next) (first_fault fs more)) (firings-joined firings rule rules)
        go (Err refusal) first later = refl

-- ---- all lines

-- the lines behind the first have higher numbers
first_below : (line : TraceLine) (lines : List TraceLine) → NumbersAscend (line ∷ lines) → All (λ (l : TraceLine). line.number + 1 ≤ l.number) lines
first_below line lines ascend = λ k d within. let lt : line.number < (get_or lines k d).number = ascend 0 (suc k) d (omega arith) (omega arith) in omega arith

-- and ascend too
rest_ascends : (line : TraceLine) (lines : List TraceLine) → NumbersAscend (line ∷ lines) → NumbersAscend lines
rest_ascends line lines ascend = λ i j d lt within. ascend (suc i) (suc j) d (omega arith) (omega arith)

module _ (monitors : List Monitor) (rules : List OnValue) (text : List ℕ) where
  module _ (line : TraceLine) (past : List TraceLine) (next : ℕ) (firings : List Firing) (routes : Routes) (at : next ≤ line.number) (below : All (λ (l : TraceLine). l.number < next) past) (r : IsReached past next firings routes) where
    -- the lines before have lower numbers
    below_line : All (λ (l : TraceLine). l.number < line.number) past
    below_line = All-weaker (λ (l : TraceLine). l.number < next) (λ (l : TraceLine). l.number < line.number) (λ l lt. let a = at in omega arith) past below

    -- so have all lines before the next one
    below_next : All (λ (l : TraceLine). l.number < line.number + 1) (past ++ line ∷ [])
    below_next = All-push (λ (l : TraceLine). l.number < line.number + 1) past line (All-weaker (λ (l : TraceLine). l.number < line.number) (λ (l : TraceLine). l.number < line.number + 1) (λ l lt. omega arith) past below_line) (omega arith)

    -- the line begins
    begun : IsReached (past ++ line ∷ []) (line.number + 1) firings routes
    begun = record {
      are = line_begins past line firings routes (All-weaker (λ (f : Firing). f.line.number < next) (λ (f : Firing). f.line.number < line.number) (λ f lt. let a = at in omega arith) firings r.low) r.are;
      tasks = r.tasks;
      few = r.few;
      low = All-weaker (λ (f : Firing). f.line.number < next) (λ (f : Firing). f.line.number < line.number + 1) (λ f lt. let a = at in omega arith) firings r.low;
    }

    -- its rules are done
    line_done : (mid : Routes) → line_routes text line monitors rules routes ≡ Ok mid → IsReached (past ++ line ∷ []) (line.number + 1) (firings ++ firings_on monitors rules text line) mid
    line_done mid reached = rules_fired past line below_line text monitors rules firings routes mid begun reached

    -- or one is refused
    line_fault : (more : List Firing) → first_fault firings (firings_on monitors rules text line ++ more) ≡ fault_or (line_routes text line monitors rules routes) (first_fault (firings ++ firings_on monitors rules text line) more)
    line_fault more = rules_fault past line below_line text monitors rules firings more routes begun

  -- what the rules do on all lines is what fires on them
  lines_fired : (lines past : List TraceLine) (next : ℕ) (firings : List Firing) (routes after : Routes) → NumbersAscend lines → All (λ (l : TraceLine). next ≤ l.number) lines → All (λ (l : TraceLine). l.number < next) past → IsReached past next firings routes
      → routes_of text monitors rules lines routes ≡ Ok after → AreOf (past ++ lines) (firings ++ firings_of monitors rules text lines) after × (after.tasks ≡ tasks_of (firings ++ firings_of monitors rules text lines))
  unfolding routes_of
  lines_fired [] past next firings routes after ascend from below r reached =
      let same : routes ≡ after = cc in
      subst (λ (ls : List TraceLine). AreOf ls (firings ++ []) after × (after.tasks ≡ tasks_of (firings ++ []))) (sym (append-nil past))
      (subst (λ (fs : List Firing). AreOf past fs after × (after.tasks ≡ tasks_of fs)) (sym (append-nil firings)) (subst (λ (r : Routes). AreOf past firings r × (r.tasks ≡ tasks_of firings)) same (r.are, r.tasks)))
  lines_fired (line ∷ lines) past next firings routes after ascend from below r reached =
      let at : next ≤ line.number = All-head (λ (l : TraceLine). next ≤ l.number) line lines from in
      go at (line_routes text line monitors rules routes) refl
      (λ mid q. lines_fired lines (past ++ line ∷ []) (line.number + 1) (firings ++ firings_on monitors rules text line) mid after (rest_ascends line lines ascend) (first_below line lines ascend) (below_next line past next firings routes at below r) q) reached
    where
      go : next ≤ line.number → (read : Result Routes Refusal) → line_routes text line monitors rules routes ≡ read
          → ((mid : Routes) → IsReached (past ++ line ∷ []) (line.number + 1) (firings ++ firings_on monitors rules text line) mid → routes_of text monitors rules lines mid ≡ Ok after
          → AreOf ((past ++ line ∷ []) ++ lines) ((firings ++ firings_on monitors rules text line) ++ firings_of monitors rules text lines) after × (after.tasks ≡ tasks_of ((firings ++ firings_on monitors rules text line) ++ firings_of monitors rules text lines)))
          → and_then read (routes_of text monitors rules lines) ≡ Ok after
          → AreOf (past ++ line ∷ lines) (firings ++ firings_of monitors rules text (line ∷ lines)) after × (after.tasks ≡ tasks_of (firings ++ firings_of monitors rules text (line ∷ lines)))
      go at (Ok mid) first later e =
          subst (λ (ls : List TraceLine). AreOf ls (firings ++ firings_of monitors rules text (line ∷ lines)) after × (after.tasks ≡ tasks_of (firings ++ firings_of monitors rules text (line ∷ lines)))) (append_assoc past (line ∷ []) lines)
          (subst (λ (fs : List Firing). AreOf ((past ++ line ∷ []) ++ lines) fs after × (after.tasks ≡ tasks_of fs)) (append_assoc firings (firings_on monitors rules text line) (firings_of monitors rules text lines))
          (later mid (line_done line past next firings routes at below r mid first) e))
      go at (Err refusal) first later e = cc

  -- and the first fault on all lines is that of their rules
  lines_fault : (lines past : List TraceLine) (next : ℕ) (firings : List Firing) (routes : Routes) → NumbersAscend lines → All (λ (l : TraceLine). next ≤ l.number) lines → All (λ (l : TraceLine). l.number < next) past → IsReached past next firings routes
      → first_fault firings (firings_of monitors rules text lines) ≡ error_in (routes_of text monitors rules lines routes)
  unfolding routes_of
  lines_fault [] past next firings routes ascend from below r = refl
  lines_fault (line ∷ lines) past next firings routes ascend from below r =
      let at : next ≤ line.number = All-head (λ (l : TraceLine). next ≤ l.number) line lines from in
      line_fault line past next firings routes at below r (firings_of monitors rules text lines)
      ∙ go at (line_routes text line monitors rules routes) refl
      (λ mid q. lines_fault lines (past ++ line ∷ []) (line.number + 1) (firings ++ firings_on monitors rules text line) mid (rest_ascends line lines ascend) (first_below line lines ascend) (below_next line past next firings routes at below r) q)
    where
      go : next ≤ line.number → (read : Result Routes Refusal) → line_routes text line monitors rules routes ≡ read
          → ((mid : Routes) → IsReached (past ++ line ∷ []) (line.number + 1) (firings ++ firings_on monitors rules text line) mid → first_fault (firings ++ firings_on monitors rules text line) (firings_of monitors rules text lines) ≡ error_in (routes_of text monitors rules lines mid))
          → fault_or read (first_fault (firings ++ firings_on monitors rules text line) (firings_of monitors rules text lines)) ≡ error_in (and_then read (routes_of text monitors rules lines))
      go at (Ok mid) first later = later mid (line_done line past next firings routes at below r mid first)
      go at (Err refusal) first later = refl

-- ---- the works

-- the works of lanes from this CPU on
works_fired : (lines : List TraceLine) (all : List LineDelivery) (cpu : ℕ) (lanes : List LaneValue) → ((i : ℕ) → i < length lanes → get_or lanes i no_lane ≡ lane_of lines (deliveries_on (cpu + i) all))
    → works_from cpu lanes ≡ filter (λ (w : Work). not (length w.deliveries == 0)) (map (cpu_work lines all) (range_with_len cpu (length lanes)))
works_fired lines all cpu [] are = refl
works_fired lines all cpu (lane ∷ lanes) are =
    let e : cpu + 0 ≡ cpu = omega arith in
    let first : lane ≡ lane_of lines (deliveries_on cpu all) = are 0 (omega arith) ∙ ap (λ (n : ℕ). lane_of lines (deliveries_on n all)) e in
    let rest : works_from (cpu + 1) lanes ≡ filter (λ (w : Work). not (length w.deliveries == 0)) (map (cpu_work lines all) (range_with_len (cpu + 1) (length lanes))) =
    works_fired lines all (cpu + 1) lanes (λ i lt. let n : cpu + suc i ≡ cpu + 1 + i = omega arith in are (suc i) (omega arith) ∙ ap (λ (n : ℕ). lane_of lines (deliveries_on n all)) n) in
    ap₂ (λ (l : LaneValue) (ws : List Work). work_in cpu l ++ ws) first rest ∙ go (length (cpu_work lines all cpu).deliveries == 0)
  where
    go : (b : Bool)
        → (if b then [] else cpu_work lines all cpu ∷ []) ++ filter (λ (w : Work). not (length w.deliveries == 0)) (map (cpu_work lines all) (range_with_len (cpu + 1) (length lanes)))
        ≡ cond (not b) (cpu_work lines all cpu ∷ filter (λ (w : Work). not (length w.deliveries == 0)) (map (cpu_work lines all) (range_with_len (cpu + 1) (length lanes)))) (filter (λ (w : Work). not (length w.deliveries == 0)) (map (cpu_work lines all) (range_with_len (cpu + 1) (length lanes))))
    go true = refl
    go false = refl

-- lanes that have the deliveries of firings make their works
all_works : (lines : List TraceLine) (firings : List Firing) (routes : Routes) → AreOf lines firings routes → works_of routes.lanes ≡ cpu_works lines (deliveries_by routes.tasks 0 firings)
all_works lines firings routes are =
    works_fired lines (deliveries_by routes.tasks 0 firings) 0 routes.lanes (λ i lt. let e : i ≡ 0 + i = omega arith in are.lanes i (let m = are.many in omega arith) ∙ ap (λ (n : ℕ). lane_of lines (deliveries_on n (deliveries_by routes.tasks 0 firings))) e)
    ∙ ap (λ (n : ℕ). filter (λ (w : Work). not (length w.deliveries == 0)) (map (cpu_work lines (deliveries_by routes.tasks 0 firings)) (range_with_len 0 n))) are.many

-- routing lines that are numbered upwards comes to what the whole is routed to
pub line_by_line : RoutedLineByLine
unfolding route_of
line_by_line text monitors rules lines ascend = go (routes_of text monitors rules lines no_routes) refl (lines_fault monitors rules text lines [] 0 [] no_routes ascend from (All-nil (λ (l : TraceLine). l.number < 0)) none_fired)
  where
    from : All (λ (l : TraceLine). 0 ≤ l.number) lines
    from = λ k d within. omega arith

    all : List Firing
    all = firings_of monitors rules text lines

    go : (read : Result Routes Refusal) → routes_of text monitors rules lines no_routes ≡ read → first_fault [] all ≡ error_in read → unless_refused (first_fault [] all) (routed_by lines all) ≡ routed_of read
    go (Ok after) reached fault =
        let fired = lines_fired monitors rules text lines [] 0 [] no_routes after ascend from (All-nil (λ (l : TraceLine). l.number < 0)) none_fired reached in
        let tasks : after.tasks ≡ tasks_of all = fired.1 in
        let works : works_of after.lanes ≡ cpu_works lines (deliveries_by (tasks_of all) 0 all) = all_works lines all after fired.0 ∙ ap (λ (ts : List Task). cpu_works lines (deliveries_by ts 0 all)) tasks in
        ap (λ (o : Option Refusal). unless_refused o (routed_by lines all)) fault ∙ sym (ap₂ (λ (ts : List Task) (ws : List Work). Ok (record { tasks = ts; works = ws })) tasks works)
    go (Err refusal) reached fault = ap (λ (o : Option Refusal). unless_refused o (routed_by lines all)) fault
