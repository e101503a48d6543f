-- Routed works fit their lines and their monitors.
use Rattle.std.proofs.Common.{◌≡◌, ℕ, zero, suc, ◌+◌, ◌<◌, ◌≤◌, ◌==◌, ◌⊎◌, inl, inr, Bool, true, false, List, [], ◌∷◌, ◌++◌, length, get_or, refl, sym, ap, ◌∙◌, subst, arith}
use Rattle.std.specs.Prelude.{All, AllPairs, Contains, Ok, replicate}
use Rattle.std.proofs.lemmas.List.{get_or_default}
use Rattle.std.proofs.lemmas.List.Elements.{All-nil, All-cons, All-head, All-tail, All-push, All-weaker, Contains-append_left, Contains-append_right}
use Rattle.std.proofs.lemmas.List.Kept.{AllPairs-cons}
use Rattle.std.proofs.lemmas.List.Quantifiers.{all_pairs_push}
use Rattle.rv_trace.specs.declared.line.TraceLine.{TraceLine}
use Rattle.rv_model.specs.declared.work.Turn.{Turn}
use Rattle.rv_model.specs.Works.{Work}
use Rattle.rv_model.specs.Histories.{LinesApart}
use Rattle.rv_bind.specs.declared.bindings.Monitor.{Monitor}
use Rattle.rv_bind.specs.RuleValues.{OnValue}
use Rattle.rv_bind.specs.WellFormed.{MonitorKind, kinds_of, FitsKind}
use Rattle.rv_route.specs.declared.deliveries.TheConstants.{MAX_DELIVERIES}
use Rattle.rv_route.specs.Lanes.{LaneValue}
use Rattle.rv_route.specs.LineByLine.{Routes, no_lane, line_routes, no_routes, works_from, works_of}
use Rattle.rv_route.specs.Fitting.{IsOf, FitsKindOf, LaneFits, RoutesFit, FitsLines, NumbersAscend, WorksFit}
use Rattle.rv_route.proofs.TurnLemmas.{ascends-pairs}
use Rattle.rv_route.proofs.FittingLemmas.{routes-wider, line_fits}

-- ---- one more line

-- a turn of a line of the CPU is one still when one more line comes
of_more : (lines : List TraceLine) (line : TraceLine) (cpu : ℕ) (turn : Turn) → IsOf lines cpu turn → IsOf (lines ++ line ∷ []) cpu turn
of_more lines line cpu turn is = record { line = is.line; there = Contains-append_left lines (line ∷ []) is.line is.there; number = is.number; cpu_is = is.cpu_is }

-- lanes that fit the lines fit them still when one more line comes
lines_more : (lines : List TraceLine) (line : TraceLine) (kinds : List MonitorKind) (n : ℕ) (routes : Routes) → RoutesFit lines kinds n routes → RoutesFit (lines ++ line ∷ []) kinds n routes
lines_more lines line kinds n routes f = record {
  many = f.many;
  lanes = λ cpu. let lane = get_or routes.lanes cpu no_lane in let was = f.lanes cpu in record { ascends = was.ascends; of = All-weaker (IsOf lines cpu) (IsOf (lines ++ line ∷ []) cpu) (of_more lines line cpu) lane.turns was.of; fit = was.fit };
}

-- what has been routed fits one more line
pub fits_more : (text : List ℕ) (monitors : List Monitor) (rules : List OnValue) (line : TraceLine) (next : ℕ) (routes after : Routes) → All (FitsKind (kinds_of monitors)) rules → line.cpu < 64 → next ≤ line.number → FitsLines (kinds_of monitors) next routes
    → line_routes text line monitors rules routes ≡ Ok after → FitsLines (kinds_of monitors) (line.number + 1) after
fits_more text monitors rules line next routes after fit cpu from f is =
    let lines = f.lines ++ line ∷ [] in
    let was = routes-wider text lines monitors next line.number routes from (lines_more f.lines line (kinds_of monitors) next routes f.fit) in
    let now = line_fits text lines monitors line (Contains-append_right f.lines (line ∷ []) line (0, omega arith, refl)) cpu rules routes after fit was is in
    record {
      lines = lines;
      ascend = all_pairs_push (λ (l m : TraceLine). l.number < m.number) f.lines line f.ascend (λ k d within. let b = f.below k d within in omega arith);
      below = All-push (λ (l : TraceLine). l.number < line.number + 1) f.lines line (All-weaker (λ (l : TraceLine). l.number < next) (λ (l : TraceLine). l.number < line.number + 1) (λ l b. omega arith) f.lines f.below) (omega arith);
      fit = routes-wider text lines monitors line.number (line.number + 1) after (omega arith) now;
    }

-- ---- the works of lanes

module _ (all : List TraceLine) (kinds : List MonitorKind) (tasks n : ℕ) where
  -- a work of a CPU from this one on, of a lane that fits
  record OfLane (cpu count : ℕ) (w : Work) : Type 0 where
    low : cpu ≤ w.cpu
    high : w.cpu < cpu + count
    fits : LaneFits all kinds tasks n w.cpu (record { turns = w.turns; deliveries = w.deliveries })

  -- a work of a CPU from the next one on is a work of a CPU from this one on
  of_wider : (cpu count : ℕ) (w : Work) → OfLane (cpu + 1) count w → OfLane cpu (suc count) w
  of_wider cpu count w o = record { low = let l = o.low in omega arith; high = let h = o.high in omega arith; fits = o.fits }

  -- the works of lanes are of these lanes' CPUs, fit, and ascend by CPU
  record OfLanes (cpu : ℕ) (lanes : List LaneValue) : Type 0 where
    works : All (OfLane cpu (length lanes)) (works_from cpu lanes)
    apart : AllPairs (λ (w v : Work). w.cpu < v.cpu) (works_from cpu lanes)

  -- where there is no work, the works ascend by CPU
  none_apart : AllPairs (λ (w v : Work). w.cpu < v.cpu) []
  none_apart = λ i j d lt within. absurd (omega arith)

  -- works of CPUs behind this one have higher CPUs
  first_apart : (cpu : ℕ) (ws : List Work) (count : ℕ) → All (OfLane (cpu + 1) count) ws → All (λ (v : Work). cpu < v.cpu) ws
  first_apart cpu ws count all = All-weaker (OfLane (cpu + 1) count) (λ (v : Work). cpu < v.cpu) (λ v o. let l = o.low in omega arith) ws all

  -- one lane more in front adds its work, unless it has no delivery
  more_lanes : (cpu : ℕ) (lane : LaneValue) (lanes : List LaneValue) (b : Bool) → (length lane.deliveries == 0) ≡ b → LaneFits all kinds tasks n cpu lane → OfLanes (cpu + 1) lanes → OfLanes cpu (lane ∷ lanes)
  more_lanes cpu lane lanes true is first rest = record {
    works = rw is (All-weaker (OfLane (cpu + 1) (length lanes)) (OfLane cpu (suc (length lanes))) (of_wider cpu (length lanes)) (works_from (cpu + 1) lanes) rest.works);
    apart = rw is rest.apart;
  }
  more_lanes cpu lane lanes false is first rest =
      let w : Work = record { cpu = cpu; turns = lane.turns; deliveries = lane.deliveries } in
      record {
        works = rw is (All-cons (OfLane cpu (suc (length lanes))) w (works_from (cpu + 1) lanes) (record { low = omega arith; high = omega arith; fits = record { ascends = first.ascends; of = first.of; fit = first.fit } })
            (All-weaker (OfLane (cpu + 1) (length lanes)) (OfLane cpu (suc (length lanes))) (of_wider cpu (length lanes)) (works_from (cpu + 1) lanes) rest.works));
        apart = rw is (AllPairs-cons (λ (w v : Work). w.cpu < v.cpu) w (works_from (cpu + 1) lanes) (first_apart cpu (works_from (cpu + 1) lanes) (length lanes) rest.works) rest.apart);
      }

  -- where lanes fit, so do their works, which are of their CPUs and ascend by CPU
  of_lanes : (cpu : ℕ) (lanes : List LaneValue) → ((i : ℕ) → i < length lanes → LaneFits all kinds tasks n (cpu + i) (get_or lanes i no_lane)) → OfLanes cpu lanes
  of_lanes cpu [] fits = record { works = All-nil (OfLane cpu 0); apart = none_apart }
  of_lanes cpu (lane ∷ lanes) fits =
      more_lanes cpu lane lanes (length lane.deliveries == 0) refl (let e : cpu + 0 ≡ cpu = omega arith in subst (λ c. LaneFits all kinds tasks n c lane) e (fits 0 (omega arith)))
      (of_lanes (cpu + 1) lanes (λ i lt. let e : cpu + suc i ≡ cpu + 1 + i = omega arith in subst (λ c. LaneFits all kinds tasks n c (get_or lanes i no_lane)) e (fits (suc i) (omega arith))))

-- ---- the whole

-- what holds of all elements holds of each that the list contains
from_contains : {X : Type 0} (P : X → Type 0) (xs : List X) (x : X) → All P xs → Contains xs x → P x
from_contains P xs x all (place, below, is) = subst P is (all place x below)

-- two lines of one number are one
one_line : (lines : List TraceLine) → NumbersAscend lines → (l m : TraceLine) → Contains lines l → Contains lines m → l.number ≡ m.number → l.cpu ≡ m.cpu
one_line lines ascend l m (p, p_below, p_is) (q, q_below, q_is) same = go (three p q)
  where
    three : (p q : ℕ) → (p < q) ⊎ ((p ≡ q) ⊎ (q < p))
    three p q = grind arith

    at_q : get_or lines q l ≡ m
    at_q = get_or_default lines q l m q_below ∙ q_is

    at_p : get_or lines p m ≡ l
    at_p = get_or_default lines p m l p_below ∙ p_is

    go : (p < q) ⊎ ((p ≡ q) ⊎ (q < p)) → l.cpu ≡ m.cpu
    go (inl lt) =
        let less : (get_or lines p l).number < (get_or lines q l).number = ascend p q l lt q_below in
        let a : (get_or lines p l).number ≡ l.number = ap (λ (k : TraceLine). k.number) p_is in
        let b : (get_or lines q l).number ≡ m.number = ap (λ (k : TraceLine). k.number) at_q in
        absurd (omega arith)
    go (inr (inl e)) = ap (λ (k : TraceLine). k.cpu) (sym p_is ∙ ap (λ i. get_or lines i l) e ∙ at_q)
    go (inr (inr lt)) =
        let less : (get_or lines q m).number < (get_or lines p m).number = ascend q p m lt p_below in
        let a : (get_or lines q m).number ≡ m.number = ap (λ (k : TraceLine). k.number) q_is in
        let b : (get_or lines p m).number ≡ l.number = ap (λ (k : TraceLine). k.number) at_p in
        absurd (omega arith)

-- no line has turns in the works of two CPUs
works_apart : (all : List TraceLine) (kinds : List MonitorKind) (tasks n : ℕ) (works : List Work) (count : ℕ) → NumbersAscend all → All (OfLane all kinds tasks n 0 count) works → LinesApart works
works_apart all kinds tasks n works count ascend of w v t u in_w in_v in_t in_u same =
    let of_w = from_contains (OfLane all kinds tasks n 0 count) works w of in_w in
    let of_v = from_contains (OfLane all kinds tasks n 0 count) works v of in_v in
    let is_t = from_contains (IsOf all w.cpu) w.turns t of_w.fits.of in_t in
    let is_u = from_contains (IsOf all v.cpu) v.turns u of_v.fits.of in_u in
    sym is_t.cpu_is ∙ one_line all ascend is_t.line is_u.line is_t.there is_u.there (is_t.number ∙ same ∙ sym is_u.number) ∙ is_u.cpu_is

-- where nothing is routed yet, all lanes fit
no_routes_fits : (all : List TraceLine) (kinds : List MonitorKind) → RoutesFit all kinds 0 no_routes
unfolding no_routes
no_routes_fits all kinds = record { many = refl; lanes = λ cpu. subst (λ (l : LaneValue). LaneFits all kinds 0 0 cpu l) (sym (empty 64 cpu)) (record { ascends = tt; of = All-nil (IsOf all cpu); fit = All-nil (FitsKindOf kinds 0 cpu) }) }
  where
    empty : (n i : ℕ) → get_or (replicate n no_lane) i no_lane ≡ no_lane
    empty zero i = refl
    empty (suc n) zero = refl
    empty (suc n) (suc i) = empty n i

-- nothing fits no line
pub fits_no_routes : (kinds : List MonitorKind) (start : Routes) → start ≡ no_routes → FitsLines kinds 0 start
fits_no_routes kinds start none = subst (FitsLines kinds 0) (sym none) (record { lines = []; ascend = λ i j d lt within. absurd (omega arith); below = All-nil (λ (l : TraceLine). l.number < 0); fit = no_routes_fits [] kinds })

-- no lane has more deliveries than so many
abbrev pub AreShort : ℕ → List LaneValue → Type 0
AreShort most lanes = All (λ (l : LaneValue). length l.deliveries ≤ most) lanes

-- so no work has more
works_short : (most cpu : ℕ) (lanes : List LaneValue) → AreShort most lanes → All (λ (w : Work). length w.deliveries ≤ most) (works_from cpu lanes)
works_short most cpu [] short = All-nil (λ (w : Work). length w.deliveries ≤ most)
works_short most cpu (lane ∷ lanes) short =
    go (length lane.deliveries == 0) refl (All-head (λ (l : LaneValue). length l.deliveries ≤ most) lane lanes short) (works_short most (cpu + 1) lanes (All-tail (λ (l : LaneValue). length l.deliveries ≤ most) lane lanes short))
  where
    Short : Work → Type 0
    Short w = length w.deliveries ≤ most

    go : (b : Bool) → (length lane.deliveries == 0) ≡ b → length lane.deliveries ≤ most → All Short (works_from (cpu + 1) lanes) → All Short (works_from cpu (lane ∷ lanes))
    go true none few rest = rw none rest
    go false some few rest = rw some (All-cons Short (record { cpu = cpu; turns = lane.turns; deliveries = lane.deliveries }) (works_from (cpu + 1) lanes) few rest)

-- what is routed fits
pub works_fit : (kinds : List MonitorKind) (next : ℕ) (routes : Routes) → FitsLines kinds next routes → AreShort MAX_DELIVERIES routes.lanes → WorksFit kinds (length routes.tasks) (works_of routes.lanes)
works_fit kinds next routes f short =
    let k : ℕ = length routes.tasks in
    let of = of_lanes f.lines kinds k next 0 routes.lanes (λ i lt. let e : i ≡ 0 + i = omega arith in subst (λ c. LaneFits f.lines kinds k next c (get_or routes.lanes i no_lane)) e (f.fit.lanes i)) in
    let count : ℕ = length routes.lanes in
    let many : count ≡ 64 = f.fit.many in
    let P : Work → Type 0 = OfLane f.lines kinds k next 0 count in
    record {
      cpus_below = All-weaker P (λ (w : Work). w.cpu < 64) (λ w o. let h = o.high in omega arith) (works_of routes.lanes) of.works;
      cpus = of.apart;
      lines = All-weaker P (λ (w : Work). AllPairs (λ (t u : Turn). t.line < u.line) w.turns) (λ w o. ascends-pairs next w.turns o.fits.ascends) (works_of routes.lanes) of.works;
      apart = works_apart f.lines kinds k next (works_of routes.lanes) count f.ascend of.works;
      deliveries = All-weaker P (λ (w : Work). All (FitsKindOf kinds k w.cpu) w.deliveries) (λ w o. o.fits.fit) (works_of routes.lanes) of.works;
      few = works_short MAX_DELIVERIES 0 routes.lanes short;
    }
