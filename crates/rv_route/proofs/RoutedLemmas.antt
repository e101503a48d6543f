-- What routing keeps: each lane's turns name its deliveries in order, each once.
use Rattle.std.proofs.Common.{◌≡◌, ℕ, zero, suc, ◌+◌, ◌<◌, ◌==◌, ◌&&◌, Bool, true, false, not, List, [], ◌∷◌, ◌++◌, length, get_or, refl, sym, subst, arith, length-append}
use Rattle.std.specs.Prelude.{All, Result, Ok, Err, nat_lt, if◌then◌else◌}
use Rattle.std.proofs.lemmas.Bool.{ltb-true}
use Rattle.std.proofs.lemmas.List.Elements.{All-set, All-replicate, All-head, All-tail}
use Rattle.rv_text.specs.declared.refusals.Refusal.{Refusal}
use Rattle.rv_text.specs.Readings.{and_then}
use Rattle.rv_trace.specs.declared.line.TraceLine.{TraceLine}
use Rattle.rv_model.specs.declared.work.Turn.{Turn}
use Rattle.rv_model.specs.declared.work.Delivery.{Delivery}
use Rattle.rv_model.specs.Works.{NamesEach}
use Rattle.rv_slots.specs.Tasks.{task_of, is_held, with_task, task_number}
use Rattle.rv_slots.specs.declared.tasks.TheConstants.{MAX_TASKS}
use Rattle.rv_bind.specs.declared.bindings.Monitor.{Monitor}
use Rattle.rv_bind.specs.RuleValues.{OnValue}
use Rattle.rv_route.specs.declared.deliveries.TheConstants.{MAX_DELIVERIES}
use Rattle.rv_route.specs.declared.asking.Ask.{Ask}
use Rattle.rv_route.specs.declared.asking.Ask.TheVariants as asks
use Rattle.rv_route.specs.Asking.{ask_of}
use Rattle.rv_route.specs.Lanes.{LaneValue, ends_with, longer, with_delivery, IsLane}
use Rattle.rv_route.specs.LineByLine.{Routes, no_lane, delivered, deliver, answer, line_routes, no_routes}

-- one more delivery goes to the last turn
NamesEach-longer : (place : ℕ) (turns : List Turn) (count line : ℕ) → NamesEach place turns count → ends_with turns line ≡ true → NamesEach place (longer turns (count + 1)) (count + 1)
NamesEach-longer place [] count line names is = cc
NamesEach-longer place (turn ∷ []) count line names is = (names.0, let u = names.1 in let v = names.2 in omega arith, refl)
NamesEach-longer place (turn ∷ next ∷ turns) count line names is = (names.0, names.1, NamesEach-longer turn.to (next ∷ turns) count line names.2 is)

-- or begins one
NamesEach-more : (place : ℕ) (turns : List Turn) (count line : ℕ) → NamesEach place turns count → NamesEach place (turns ++ record { line = line; from = count; to = count + 1 } ∷ []) (count + 1)
NamesEach-more place [] count line names = (sym names, omega arith, refl)
NamesEach-more place (turn ∷ turns) count line names = (names.0, names.1, NamesEach-more turn.to turns count line names.2)

-- with one more delivery, a lane's turns still name its deliveries in order, each once
pub lane_grows : (lane : LaneValue) (line : ℕ) (delivery : Delivery) → IsLane lane → IsLane (with_delivery lane line delivery)
lane_grows lane line delivery names = rw length-append (go (ends_with lane.turns line) refl)
  where
    go : (b : Bool) → ends_with lane.turns line ≡ b → NamesEach 0 (if b then longer lane.turns (length lane.deliveries + 1) else lane.turns ++ record { line = line; from = length lane.deliveries; to = length lane.deliveries + 1 } ∷ []) (length lane.deliveries + 1)
    go true is = NamesEach-longer 0 lane.turns (length lane.deliveries) line names is
    go false is = NamesEach-more 0 lane.turns (length lane.deliveries) line names

-- what holds of an empty lane and of a grown one holds of all lanes that are routed
module _ (P : Routes → Type 0) (grows : (routes : Routes) (line : TraceLine) (rule : OnValue) (instance : ℕ) → routes.count < MAX_DELIVERIES → P routes → P (delivered routes line rule instance))
    (tasks : (routes : Routes) (pid cpu : ℕ) → P routes → P (record routes { tasks = with_task routes.tasks (task_of pid cpu) })) where
  -- it holds after a delivery that is not one too many
  deliver_keeps : (routes after : Routes) (line : TraceLine) (rule : OnValue) (instance : ℕ) → P routes → deliver routes line rule instance ≡ Ok after → P after
  deliver_keeps routes after line rule instance p is = go (nat_lt routes.count MAX_DELIVERIES) refl is
    where
      go : (b : Bool) → nat_lt routes.count MAX_DELIVERIES ≡ b → (if b then Ok (delivered routes line rule instance) else Rattle.rv_text.specs.Readings.refused_at Rattle.rv_text.specs.declared.numbers.TheConstants.TOO_MANY_DELIVERIES line.number) ≡ Ok after → P after
      go true room is = let same : delivered routes line rule instance ≡ after = cc in subst P same (grows routes line rule instance (ltb-true routes.count MAX_DELIVERIES room) p)
      go false full is = cc

  -- it holds after what one rule asks for
  answer_keeps : (routes after : Routes) (line : TraceLine) (rule : OnValue) (ask : Ask) → P routes → answer routes line rule ask ≡ Ok after → P after
  answer_keeps routes after line rule asks.Quiet p is = let same : routes ≡ after = cc in subst P same p
  answer_keeps routes after line rule (asks.Instance instance) p is = deliver_keeps routes after line rule instance p is
  answer_keeps routes after line rule asks.NoPid p is = cc
  answer_keeps routes after line rule (asks.Pid pid) p is = go (not (is_held routes.tasks (task_of pid line.cpu)) && length routes.tasks == MAX_TASKS) is
    where
      go : (b : Bool)
          → (if b then Rattle.rv_text.specs.Readings.refused_at Rattle.rv_text.specs.declared.numbers.TheConstants.TOO_MANY_TASKS line.number
          else deliver (record routes { tasks = with_task routes.tasks (task_of pid line.cpu) }) line rule (task_number routes.tasks (task_of pid line.cpu))) ≡ Ok after → P after
      go true is = cc
      go false is = deliver_keeps (record routes { tasks = with_task routes.tasks (task_of pid line.cpu) }) after line rule (task_number routes.tasks (task_of pid line.cpu)) (tasks routes pid line.cpu p) is

  -- it holds after all rules have done what they ask for on a line
  pub line_keeps : (text : List ℕ) (line : TraceLine) (monitors : List Monitor) (rules : List OnValue) (routes after : Routes) → P routes → line_routes text line monitors rules routes ≡ Ok after → P after
  unfolding line_routes
  line_keeps text line monitors [] routes after p is = let same : routes ≡ after = cc in subst P same p
  line_keeps text line monitors (rule ∷ rules) routes after p is =
      go (answer routes line rule (ask_of text line monitors rule)) refl (λ next q. line_keeps text line monitors rules next after q) is
    where
      go : (r : Result Routes Refusal) → answer routes line rule (ask_of text line monitors rule) ≡ r
          → ((next : Routes) → P next → line_routes text line monitors rules next ≡ Ok after → P after) → and_then r (line_routes text line monitors rules) ≡ Ok after → P after
      go (Ok next) first later is = later next (answer_keeps routes next line rule (ask_of text line monitors rule) p first) is
      go (Err refusal) first later is = cc

-- no lane has a turn
pub lanes_no_routes : (start : Routes) → start ≡ no_routes → All IsLane start.lanes
unfolding no_routes
lanes_no_routes start none = subst (λ (routes : Routes). All IsLane routes.lanes) (sym none) (All-replicate IsLane 64 no_lane refl)

-- every lane's turns name its deliveries
pub lanes_line : (text : List ℕ) (monitors : List Monitor) (rules : List OnValue) (line : TraceLine) (routes after : Routes) → All IsLane routes.lanes → line_routes text line monitors rules routes ≡ Ok after → All IsLane after.lanes
lanes_line text monitors rules line routes after lanes is =
    line_keeps (λ (routes : Routes). All IsLane routes.lanes) grows (λ routes pid cpu p. p) text line monitors rules routes after lanes is
  where
    grows : (routes : Routes) (line : TraceLine) (rule : OnValue) (instance : ℕ) → routes.count < MAX_DELIVERIES → All IsLane routes.lanes → All IsLane (delivered routes line rule instance).lanes
    grows routes line rule instance room lanes = All-set IsLane routes.lanes line.cpu _ (lane_grows _ line.number _ (lane_at routes.lanes line.cpu lanes)) lanes
      where
        lane_at : (lanes : List LaneValue) (i : ℕ) → All IsLane lanes → IsLane (get_or lanes i no_lane)
        lane_at [] i all = refl
        lane_at (lane ∷ lanes) zero all = All-head IsLane lane lanes all
        lane_at (lane ∷ lanes) (suc i) all = lane_at lanes i (All-tail IsLane lane lanes all)
