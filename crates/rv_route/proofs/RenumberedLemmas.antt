-- Lines with other numbers that ascend alike are routed alike, with these numbers.
use Rattle.std.proofs.Common.{◌≡◌, ℕ, ◌+◌, ◌<◌, ◌==◌, ◌&&◌, ◌⊎◌, inl, inr, Bool, true, false, not, List, [], ◌∷◌, ◌++◌, map, length, get_or, set, refl, sym, ap, ◌∙◌, arith}
use Rattle.std.specs.Prelude.{Result, Ok, Err, nat_lt, if◌then◌else◌}
use Rattle.std.proofs.lemmas.List.{length-map, map-set, map-append}
use Rattle.std.proofs.Math.ListN.{get_or-map}
use Rattle.rv_text.specs.declared.numbers.TheConstants.{TOO_MANY_TASKS, TOO_MANY_DELIVERIES}
use Rattle.rv_text.specs.declared.refusals.Refusal.{Refusal}
use Rattle.rv_text.specs.Readings.{and_then, refused_at}
use Rattle.rv_trace.specs.declared.line.TraceLine.{TraceLine}
use Rattle.rv_model.specs.declared.work.Delivery.{Delivery}
use Rattle.rv_model.specs.declared.work.Turn.{Turn}
use Rattle.rv_model.specs.Works.{Work}
use Rattle.rv_slots.specs.Tasks.{task_of, is_held, with_task, task_number}
use Rattle.rv_slots.specs.declared.tasks.TheConstants.{MAX_TASKS}
use Rattle.rv_bind.specs.declared.bindings.Monitor.{Monitor}
use Rattle.rv_bind.specs.RuleValues.{OnValue}
use Rattle.rv_route.specs.declared.asking.Ask.{Ask}
use Rattle.rv_route.specs.declared.asking.Ask.TheVariants as asks
use Rattle.rv_route.specs.declared.deliveries.TheConstants.{MAX_DELIVERIES}
use Rattle.rv_route.specs.Asking.{ask_of}
use Rattle.rv_route.specs.Fitting.{NumbersAscend}
use Rattle.rv_route.specs.Lanes.{LaneValue, ends_with, longer, with_turn, with_delivery}
use Rattle.rv_route.specs.Laws.{KeepsOrder, renumbered, turn_renumbered, work_renumbered, refusal_renumbered, value_renumbered, RoutedRenumbered}
use Rattle.rv_route.specs.LineByLine.{Routes, no_lane, delivered, deliver, answer, line_routes, routes_of, no_routes, work_in, works_from, routed_of}
use Rattle.rv_route.proofs.FiredLemmas.{line_by_line}

module _ (f : ℕ → ℕ) (rises : KeepsOrder f) where
  -- ---- lanes

  -- different numbers stay different
  same-number : (a b : ℕ) → (f a == f b) ≡ (a == b)
  same-number a b = go (three a b)
    where
      three : (a b : ℕ) → (a < b) ⊎ ((a ≡ b) ⊎ (b < a))
      three a b = grind arith

      go : (a < b) ⊎ ((a ≡ b) ⊎ (b < a)) → (f a == f b) ≡ (a == b)
      go (inl lt) = let more = rises a b lt in grind arith
      go (inr (inl e)) = let one : (f b == f b) ≡ (b == b) = grind arith in rw e one
      go (inr (inr lt)) = let more = rises b a lt in grind arith

  -- the turns of a lane
  abbrev turns_in : List Turn → List Turn
  turns_in turns = map (turn_renumbered f) turns

  -- a lane
  abbrev lane_in : LaneValue → LaneValue
  lane_in lane = record { turns = turns_in lane.turns; deliveries = lane.deliveries }

  -- the last turn is of the same line
  ends-alike : (turns : List Turn) (n : ℕ) → ends_with (turns_in turns) (f n) ≡ ends_with turns n
  ends-alike [] n = refl
  ends-alike (turn ∷ []) n = same-number turn.line n
  ends-alike (turn ∷ next ∷ turns) n = ends-alike (next ∷ turns) n

  -- it goes up to the same place
  longer-alike : (turns : List Turn) (place : ℕ) → longer (turns_in turns) place ≡ turns_in (longer turns place)
  longer-alike [] place = refl
  longer-alike (turn ∷ []) place = refl
  longer-alike (turn ∷ next ∷ turns) place = ap (λ (ts : List Turn). turn_renumbered f turn ∷ ts) (longer-alike (next ∷ turns) place)

  -- a delivery goes to the same turn
  turn-alike : (turns : List Turn) (n place : ℕ) → with_turn (turns_in turns) (f n) place ≡ turns_in (with_turn turns n place)
  turn-alike turns n place = go (ends_with turns n) refl
    where
      go : (b : Bool) → ends_with turns n ≡ b → with_turn (turns_in turns) (f n) place ≡ turns_in (with_turn turns n place)
      go true ends = rw (ends-alike turns n, ends) (longer-alike turns (place + 1))
      go false begins = rw (ends-alike turns n, begins) (sym (map-append (turn_renumbered f) turns (record { line = n; from = place; to = place + 1 } ∷ [])))

  -- so a lane grows alike
  lane-alike : (lane : LaneValue) (n : ℕ) (d : Delivery) → with_delivery (lane_in lane) (f n) d ≡ lane_in (with_delivery lane n d)
  lane-alike lane n d = ap (λ (ts : List Turn). record { turns = ts; deliveries = lane.deliveries ++ d ∷ [] }) (turn-alike lane.turns n (length lane.deliveries))

  -- ---- routes

  -- what was routed
  abbrev routes_in : Routes → Routes
  routes_in routes = record { tasks = routes.tasks; lanes = map lane_in routes.lanes; count = routes.count }

  -- or a refusal
  abbrev read_in : Result Routes Refusal → Result Routes Refusal
  read_in (Ok routes) = Ok (routes_in routes)
  read_in (Err refusal) = Err (refusal_renumbered f refusal)

  module _ (line : TraceLine) where
    delivered-alike : (routes : Routes) (rule : OnValue) (instance : ℕ) → delivered (routes_in routes) (renumbered f line) rule instance ≡ routes_in (delivered routes line rule instance)
    delivered-alike routes rule instance =
        let d : Delivery = record { order = routes.count; monitor = rule.monitor; instance = instance; hit = rule.hit } in
        let lane : LaneValue = get_or routes.lanes line.cpu no_lane in
        let held : get_or (map lane_in routes.lanes) line.cpu no_lane ≡ lane_in lane = get_or-map lane_in routes.lanes line.cpu no_lane in
        let grown : with_delivery (get_or (map lane_in routes.lanes) line.cpu no_lane) (f line.number) d ≡ lane_in (with_delivery lane line.number d) = ap (λ (l : LaneValue). with_delivery l (f line.number) d) held ∙ lane-alike lane line.number d in
        ap (λ (ls : List LaneValue). record { tasks = routes.tasks; lanes = ls; count = routes.count + 1 })
        (ap (λ (l : LaneValue). set (map lane_in routes.lanes) line.cpu l) grown ∙ sym (map-set lane_in routes.lanes line.cpu (with_delivery lane line.number d)))

    deliver-alike : (routes : Routes) (rule : OnValue) (instance : ℕ) → deliver (routes_in routes) (renumbered f line) rule instance ≡ read_in (deliver routes line rule instance)
    deliver-alike routes rule instance = go (nat_lt routes.count MAX_DELIVERIES)
      where
        go : (b : Bool) → (if b then Ok (delivered (routes_in routes) (renumbered f line) rule instance) else refused_at TOO_MANY_DELIVERIES (f line.number)) ≡ read_in (if b then Ok (delivered routes line rule instance) else refused_at TOO_MANY_DELIVERIES line.number)
        go true = ap (λ (r : Routes). Ok r) (delivered-alike routes rule instance)
        go false = refl

    answer-alike : (routes : Routes) (rule : OnValue) (ask : Ask) → answer (routes_in routes) (renumbered f line) rule ask ≡ read_in (answer routes line rule ask)
    answer-alike routes rule asks.Quiet = refl
    answer-alike routes rule (asks.Instance instance) = deliver-alike routes rule instance
    answer-alike routes rule asks.NoPid = refl
    answer-alike routes rule (asks.Pid pid) = go (not (is_held routes.tasks (task_of pid line.cpu)) && length routes.tasks == MAX_TASKS)
      where
        next : Routes
        next = record routes { tasks = with_task routes.tasks (task_of pid line.cpu) }

        go : (b : Bool) → (if b then refused_at TOO_MANY_TASKS (f line.number) else deliver (routes_in (record routes { tasks = with_task routes.tasks (task_of pid line.cpu) })) (renumbered f line) rule (task_number routes.tasks (task_of pid line.cpu)))
            ≡ read_in (if b then refused_at TOO_MANY_TASKS line.number else deliver (record routes { tasks = with_task routes.tasks (task_of pid line.cpu) }) line rule (task_number routes.tasks (task_of pid line.cpu)))
        go true = refl
        go false = deliver-alike (record routes { tasks = with_task routes.tasks (task_of pid line.cpu) }) rule (task_number routes.tasks (task_of pid line.cpu))

  -- what both go on with
  then-alike : (read : Result Routes Refusal) (g h : Routes → Result Routes Refusal) → ((routes : Routes) → h (routes_in routes) ≡ read_in (g routes)) → and_then (read_in read) h ≡ read_in (and_then read g)
  then-alike (Ok routes) g h same = same routes
  then-alike (Err refusal) g h same = refl

  module _ (text : List ℕ) (monitors : List Monitor) where
    -- the number is not asked for
    ask-alike : (line : TraceLine) (rule : OnValue) → ask_of text (renumbered f line) monitors rule ≡ ask_of text line monitors rule
    unfolding ask_of
    ask-alike line rule = refl

    line-alike : (line : TraceLine) (rules : List OnValue) (routes : Routes) → line_routes text (renumbered f line) monitors rules (routes_in routes) ≡ read_in (line_routes text line monitors rules routes)
    unfolding line_routes
    line-alike line [] routes = refl
    line-alike line (rule ∷ rules) routes =
        ap (λ (ask : Ask). and_then (answer (routes_in routes) (renumbered f line) rule ask) (line_routes text (renumbered f line) monitors rules)) (ask-alike line rule)
        ∙ ap (λ (r : Result Routes Refusal). and_then r (line_routes text (renumbered f line) monitors rules)) (answer-alike line routes rule (ask_of text line monitors rule))
        ∙ then-alike (answer routes line rule (ask_of text line monitors rule)) (line_routes text line monitors rules) (line_routes text (renumbered f line) monitors rules) (line-alike line rules)

    lines-alike : (rules : List OnValue) (lines : List TraceLine) (routes : Routes) → routes_of text monitors rules (map (renumbered f) lines) (routes_in routes) ≡ read_in (routes_of text monitors rules lines routes)
    unfolding routes_of
    lines-alike rules [] routes = refl
    lines-alike rules (line ∷ lines) routes =
        ap (λ (r : Result Routes Refusal). and_then r (routes_of text monitors rules (map (renumbered f) lines))) (line-alike line rules routes)
        ∙ then-alike (line_routes text line monitors rules routes) (routes_of text monitors rules lines) (routes_of text monitors rules (map (renumbered f) lines)) (lines-alike rules lines)

  -- ---- works

  work-alike : (cpu : ℕ) (lane : LaneValue) → work_in cpu (lane_in lane) ≡ map (work_renumbered f) (work_in cpu lane)
  work-alike cpu lane = go (length lane.deliveries == 0)
    where
      go : (b : Bool) → (if b then [] else record { cpu = cpu; turns = turns_in lane.turns; deliveries = lane.deliveries } ∷ []) ≡ map (work_renumbered f) (if b then [] else record { cpu = cpu; turns = lane.turns; deliveries = lane.deliveries } ∷ [])
      go true = refl
      go false = refl

  works-alike : (cpu : ℕ) (lanes : List LaneValue) → works_from cpu (map lane_in lanes) ≡ map (work_renumbered f) (works_from cpu lanes)
  works-alike cpu [] = refl
  works-alike cpu (lane ∷ lanes) =
      ap (λ (ws : List Work). ws ++ works_from (cpu + 1) (map lane_in lanes)) (work-alike cpu lane) ∙ ap (λ (ws : List Work). map (work_renumbered f) (work_in cpu lane) ++ ws) (works-alike (cpu + 1) lanes)
      ∙ sym (map-append (work_renumbered f) (work_in cpu lane) (works_from (cpu + 1) lanes))

  routed-alike : (read : Result Routes Refusal) → routed_of (read_in read) ≡ value_renumbered f (routed_of read)
  routed-alike (Ok routes) = ap (λ (ws : List Work). Ok (record { tasks = routes.tasks; works = ws })) (works-alike 0 routes.lanes)
  routed-alike (Err refusal) = refl

  -- where nothing was routed, nothing has a number
  none-alike : routes_in no_routes ≡ no_routes
  unfolding no_routes
  none-alike = refl

  -- the lines ascend
  ascend-alike : (lines : List TraceLine) → NumbersAscend lines → NumbersAscend (map (renumbered f) lines)
  ascend-alike lines ascend i j d lt below =
      let many : length (map (renumbered f) lines) ≡ length lines = length-map lines (renumbered f) in
      number-at i j lt (omega arith)
    where
      number-at : (i j : ℕ) → i < j → j < length lines → (get_or (map (renumbered f) lines) i d).number < (get_or (map (renumbered f) lines) j d).number
      number-at i j lt below = rw (at i (omega arith), at j below) (rises (get_or lines i d).number (get_or lines j d).number (ascend i j d lt below))
        where
          at : (k : ℕ) → k < length lines → get_or (map (renumbered f) lines) k d ≡ renumbered f (get_or lines k d)
          at k lt = Rattle.std.proofs.lemmas.List.get_or-map (renumbered f) lines k d d lt

-- lines with other numbers are routed alike
pub routed_renumbered : RoutedRenumbered
routed_renumbered f rises text monitors rules lines ascend =
    line_by_line text monitors rules (map (renumbered f) lines) (ascend-alike f rises lines ascend)
    ∙ ap (λ (r : Routes). routed_of (routes_of text monitors rules (map (renumbered f) lines) r)) (sym (none-alike f rises))
    ∙ ap routed_of (lines-alike f rises text monitors rules lines no_routes) ∙ routed-alike f rises (routes_of text monitors rules lines no_routes)
    ∙ ap (value_renumbered f) (sym (line_by_line text monitors rules lines ascend))
