-- What lines are routed to fits the monitors, where the rules do.
use Rattle.std.proofs.Common.{◌≡◌, ℕ, zero, suc, ◌+◌, ◌<◌, ◌≤◌, List, [], ◌∷◌, ◌++◌, length, get_or, refl, sym, subst, arith, length-append}
use Rattle.std.specs.Prelude.{All, Result, Ok, Err, IfOk}
use Rattle.std.proofs.lemmas.List.Elements.{All-head, All-tail, All-weaker, All-set, All-replicate}
use Rattle.rv_text.specs.declared.refusals.Refusal.{Refusal}
use Rattle.rv_text.specs.Readings.{and_then}
use Rattle.rv_trace.specs.declared.line.TraceLine.{TraceLine}
use Rattle.rv_model.specs.declared.work.Delivery.{Delivery}
use Rattle.rv_bind.specs.declared.bindings.Monitor.{Monitor}
use Rattle.rv_bind.specs.RuleValues.{OnValue}
use Rattle.rv_bind.specs.WellFormed.{kinds_of, FitsKind}
use Rattle.rv_route.specs.declared.deliveries.TheConstants.{MAX_DELIVERIES}
use Rattle.rv_route.specs.Fitting.{FitsLines, NumbersAscend, WorksFit}
use Rattle.rv_route.specs.Lanes.{LaneValue, with_delivery}
use Rattle.rv_route.specs.Laws.{RoutedWorksFit}
use Rattle.rv_route.specs.LineByLine.{Routes, no_lane, delivered, line_routes, routes_of, no_routes, routed_of}
use Rattle.rv_route.specs.Routing.{RoutedValue}
use Rattle.rv_route.proofs.FiredLemmas.{line_by_line}
use Rattle.rv_route.proofs.RoutedLemmas.{line_keeps}
use Rattle.rv_route.proofs.WorksLemmas.{AreShort, fits_more, fits_no_routes, works_fit}

-- ---- how many deliveries there are

-- no lane has more than are counted, and these are not too many
record AreFew (routes : Routes) : Type 0 where
  lanes : AreShort routes.count routes.lanes
  few : routes.count ≤ MAX_DELIVERIES

-- a lane that has no more has no more than one more
shorter : (n : ℕ) (lanes : List LaneValue) → AreShort n lanes → AreShort (n + 1) lanes
shorter n lanes = All-weaker (λ (l : LaneValue). length l.deliveries ≤ n) (λ (l : LaneValue). length l.deliveries ≤ n + 1) (λ l le. omega arith) lanes

-- the lane of a CPU
short-at : (n : ℕ) (lanes : List LaneValue) (cpu : ℕ) → AreShort n lanes → length (get_or lanes cpu no_lane).deliveries ≤ n
short-at n [] cpu short = omega arith
short-at n (lane ∷ lanes) zero short = All-head (λ (l : LaneValue). length l.deliveries ≤ n) lane lanes short
short-at n (lane ∷ lanes) (suc cpu) short = short-at n lanes cpu (All-tail (λ (l : LaneValue). length l.deliveries ≤ n) lane lanes short)

-- one more delivery is counted
delivered-few : (routes : Routes) (line : TraceLine) (rule : OnValue) (instance : ℕ) → routes.count < MAX_DELIVERIES → AreFew routes → AreFew (delivered routes line rule instance)
delivered-few routes line rule instance room f =
    let lane : LaneValue = get_or routes.lanes line.cpu no_lane in
    let d : Delivery = record { order = routes.count; monitor = rule.monitor; instance = instance; hit = rule.hit } in
    let was = short-at routes.count routes.lanes line.cpu f.lanes in
    let grown : length (lane.deliveries ++ d ∷ []) ≤ routes.count + 1 = rw length-append (omega arith) in
    record {
      lanes = All-set (λ (l : LaneValue). length l.deliveries ≤ routes.count + 1) routes.lanes line.cpu (with_delivery lane line.number d) grown (shorter routes.count routes.lanes f.lanes);
      few = omega arith;
    }

-- so are those of a line
line-few : (text : List ℕ) (line : TraceLine) (monitors : List Monitor) (rules : List OnValue) (routes after : Routes) → AreFew routes → line_routes text line monitors rules routes ≡ Ok after → AreFew after
line-few = line_keeps AreFew delivered-few (λ routes pid cpu f. record { lanes = f.lanes; few = f.few })

-- no delivery is few
none-few : AreFew no_routes
unfolding no_routes
none-few = record { lanes = All-replicate (λ (l : LaneValue). length l.deliveries ≤ 0) 64 no_lane (omega arith); few = omega arith }

-- ---- the lines

-- the numbers of later lines are higher
after-first : (line : TraceLine) (lines : List TraceLine) → NumbersAscend (line ∷ lines) → All (λ l. line.number + 1 ≤ l.number) lines
after-first line lines ascend k d below = let lt = ascend 0 (suc k) d (omega arith) (omega arith) in omega arith

-- and they ascend
later-ascend : (line : TraceLine) (lines : List TraceLine) → NumbersAscend (line ∷ lines) → NumbersAscend lines
later-ascend line lines ascend i j d lt below = ascend (suc i) (suc j) d (omega arith) (omega arith)

-- what has been routed at the end fits, and is few
record FitsAll (monitors : List Monitor) (routes : Routes) : Type 0 where
  next : ℕ
  fits : FitsLines (kinds_of monitors) next routes
  few : AreFew routes

module _ (text : List ℕ) (monitors : List Monitor) (rules : List OnValue) (fit : All (FitsKind (kinds_of monitors)) rules) where
  lines-fit : (lines : List TraceLine) (next : ℕ) (routes after : Routes) → NumbersAscend lines → All (λ l. next ≤ l.number) lines → All (λ l. l.cpu < 64) lines → FitsLines (kinds_of monitors) next routes → AreFew routes
      → routes_of text monitors rules lines routes ≡ Ok after → FitsAll monitors after
  unfolding routes_of
  lines-fit [] next routes after ascend low cpus fits few is = let same : routes ≡ after = cc in subst (FitsAll monitors) same (record { next = next; fits = fits; few = few })
  lines-fit (line ∷ lines) next routes after ascend low cpus fits few is =
      go (line_routes text line monitors rules routes) refl (λ mid g h. lines-fit lines (line.number + 1) mid after (later-ascend line lines ascend) (after-first line lines ascend) (All-tail (λ (l : TraceLine). l.cpu < 64) line lines cpus) g h) is
    where
      go : (r : Result Routes Refusal) → line_routes text line monitors rules routes ≡ r
          → ((mid : Routes) → FitsLines (kinds_of monitors) (line.number + 1) mid → AreFew mid → routes_of text monitors rules lines mid ≡ Ok after → FitsAll monitors after) → and_then r (routes_of text monitors rules lines) ≡ Ok after → FitsAll monitors after
      go (Ok mid) first later is =
          later mid (fits_more text monitors rules line next routes mid fit (All-head (λ (l : TraceLine). l.cpu < 64) line lines cpus) (All-head (λ (l : TraceLine). next ≤ l.number) line lines low) fits first)
          (line-few text line monitors rules routes mid few first) is
      go (Err refusal) first later is = cc

  -- the works fit
  works-known : (lines : List TraceLine) → NumbersAscend lines → All (λ l. l.cpu < 64) lines → IfOk (routed_of (routes_of text monitors rules lines no_routes)) (λ value. WorksFit (kinds_of monitors) (length value.tasks) value.works)
  works-known lines ascend cpus = go (routes_of text monitors rules lines no_routes) refl
    where
      go : (r : Result Routes Refusal) → routes_of text monitors rules lines no_routes ≡ r → IfOk (routed_of r) (λ value. WorksFit (kinds_of monitors) (length value.tasks) value.works)
      go (Err refusal) is = tt
      go (Ok routes) is =
          let all = lines-fit lines 0 no_routes routes ascend (λ k d below. omega arith) cpus (fits_no_routes (kinds_of monitors) no_routes refl) none-few is in
          works_fit (kinds_of monitors) all.next routes all.fits (All-weaker (λ (l : LaneValue). length l.deliveries ≤ routes.count) (λ (l : LaneValue). length l.deliveries ≤ MAX_DELIVERIES) (λ l le. let few = all.few.few in omega arith) routes.lanes all.few.lanes)

-- what is routed fits
pub routed_works_fit : RoutedWorksFit
routed_works_fit text monitors rules lines ascend cpus fit =
    subst (λ (r : Result RoutedValue Refusal). IfOk r (λ value. WorksFit (kinds_of monitors) (length value.tasks) value.works)) (sym (line_by_line text monitors rules lines ascend)) (works-known text monitors rules fit lines ascend cpus)
