-- A turn after turns.
use Rattle.std.proofs.Common.{rules, ◌≡◌, ◌≢◌, ◌∙◌, length, length-set, ◌+◌, ◌-◌, ◌<◌, ◌≤◌, ◌^◌, ℕ, Bool, List, map, get_or, set, arith, sym, subst, ap, All}
use Rattle.std.proofs.lemmas.List.{get_or-map, map-set}
use Rattle.std.proofs.lemmas.List.Elements.{All-get_or}
use Rattle.std.specs.Prelude.{AllPairs}
use Rattle.rv_model.specs.Works.{Work}
use Rattle.rv_core.specs.Core.{CoreValue}
use Rattle.rv_feed.specs.Lane.{LaneValue, panics_of}
use Rattle.rv_feed.specs.inner.SoFar.{RunSoFar, LaneSoFar, PlaysNext, IsPending, next_line, HasLine, HasLines}
use Rattle.rv_feed.proofs.LaneLemmas.{pairs-to, pairs-from}
use Rattle.rv_feed.proofs.LineLemmas.{lines-played}
use Rattle.rv_feed.proofs.RunLemmas.{run-start, run-next, run-end, is-next, from-le}
use Rattle.rv_feed.proofs.ViewLemmas.{lane-inside, seen-holds, next-inside, plays-lane}
use Rattle.rv_feed.proofs.order.run_lanes.Goals as goal

smaller : (from line : ℕ) → from ≤ line → line < 2 ^ 32 → 2 ^ 32 - (line + 1) < 2 ^ 32 - from
smaller from line le lt = omega arith

-- no next turn has a line below the run's
later : {panics : ℕ → Bool} {old new : CoreValue} {lanes lanes' : List LaneValue} {places : List ℕ} {from : ℕ} → RunSoFar panics old new lanes lanes' places from → All (λ l. IsPending places l → from ≤ next_line places l) lanes'
later run = λ k d lt. (run.lanes_are k d lt).later

pub first_lines-lines-requires-clause-cpu : goal.first_lines-lines-requires-clause-cpu
first_lines-lines-requires-clause-cpu g c = seen-holds g.L.Keeper.lane c.args.lanes.now (λ (l : LaneValue). l.work.cpu < 64) (λ k d lt. (c.requires.fit k d lt).cpu)

pub next_lane-next-requires-clause-cpu : goal.next_lane-next-requires-clause-cpu
next_lane-next-requires-clause-cpu g c = seen-holds g.L.Keeper.lane c.loop-places.lanes (λ (l : LaneValue). l.work.cpu < 64) (λ k d lt. (c.loop-places.invariant.0.lanes_are k d lt).cpu)

pub offset_bounds-lanes-next : goal.offset_bounds-lanes-next
offset_bounds-lanes-next g c =
    let inside : c.next_lane-next.result.lane < length c.loop-places.lanes = next-inside g.L.Keeper.lane c.loop-places.lanes c.next_lane-next.result (c.next_lane-next.ensures c.loop-places.places c.loop-places.invariant.2 (later c.loop-places.invariant.0)) c.if-next-eq-NO_LINE.false in
    search rules

pub bounds-lanes-next : goal.bounds-lanes-next
bounds-lanes-next g c =
    next-inside g.L.Keeper.lane c.loop-places.lanes c.next_lane-next.result (c.next_lane-next.ensures c.loop-places.places c.loop-places.invariant.2 (later c.loop-places.invariant.0)) c.if-next-eq-NO_LINE.false

pub bounds-places-cpu : goal.bounds-places-cpu
bounds-places-cpu g c =
    let few = (plays-lane g.L.Keeper.lane c.loop-places.lanes c.next_lane-next.result c.index-lanes-next.result c.loop-places.invariant.0 (c.next_lane-next.ensures c.loop-places.places c.loop-places.invariant.2 (later c.loop-places.invariant.0)) c.if-next-eq-NO_LINE.false).cpu in
    let s = c.seat_of.ensures in
    omega arith

pub play_next-requires-clause-place : goal.play_next-requires-clause-place
play_next-requires-clause-place g c =
    let cpu : c.seat_of.result - 2 ≡ (g.L.Keeper.lane (get_or c.loop-places.lanes c.next_lane-next.result.lane c.index-lanes-next.result)).work.cpu = let s = c.seat_of.ensures in omega arith in
    subst (λ (n : ℕ). get_or c.loop-places.places n 0 < length (g.L.Keeper.lane (get_or c.loop-places.lanes c.next_lane-next.result.lane c.index-lanes-next.result)).work.turns) (sym cpu) (plays-lane g.L.Keeper.lane c.loop-places.lanes c.next_lane-next.result c.index-lanes-next.result c.loop-places.invariant.0 (c.next_lane-next.ensures c.loop-places.places c.loop-places.invariant.2 (later c.loop-places.invariant.0)) c.if-next-eq-NO_LINE.false).place

pub play_next-requires-clause-fit : goal.play_next-requires-clause-fit
play_next-requires-clause-fit g c =
    (plays-lane g.L.Keeper.lane c.loop-places.lanes c.next_lane-next.result c.index-lanes-next.result c.loop-places.invariant.0 (c.next_lane-next.ensures c.loop-places.places c.loop-places.invariant.2 (later c.loop-places.invariant.0)) c.if-next-eq-NO_LINE.false).fit

pub play_next-requires-clause-kept : goal.play_next-requires-clause-kept
play_next-requires-clause-kept g c =
    let cpu : c.seat_of.result - 2 ≡ (g.L.Keeper.lane (get_or c.loop-places.lanes c.next_lane-next.result.lane c.index-lanes-next.result)).work.cpu = let s = c.seat_of.ensures in omega arith in
    λ t. subst (λ (n : ℕ). length (g.L.Keeper.lane (get_or c.loop-places.lanes c.next_lane-next.result.lane c.index-lanes-next.result)).records ≤ (get_or (g.L.Keeper.lane (get_or c.loop-places.lanes c.next_lane-next.result.lane c.index-lanes-next.result)).work.turns (get_or c.loop-places.places n 0) t).from) (sym cpu) ((plays-lane g.L.Keeper.lane c.loop-places.lanes c.next_lane-next.result c.index-lanes-next.result c.loop-places.invariant.0 (c.next_lane-next.ensures c.loop-places.places c.loop-places.invariant.2 (later c.loop-places.invariant.0)) c.if-next-eq-NO_LINE.false).kept t)

pub play_next-requires-clause-room : goal.play_next-requires-clause-room
play_next-requires-clause-room g c =
    (plays-lane g.L.Keeper.lane c.loop-places.lanes c.next_lane-next.result c.index-lanes-next.result c.loop-places.invariant.0 (c.next_lane-next.ensures c.loop-places.places c.loop-places.invariant.2 (later c.loop-places.invariant.0)) c.if-next-eq-NO_LINE.false).room

pub bounds-places-cpu-in-loop-places : goal.bounds-places-cpu-in-loop-places
bounds-places-cpu-in-loop-places g c =
    let few = (plays-lane g.L.Keeper.lane c.loop-places.lanes c.next_lane-next.result c.index-lanes-next.result c.loop-places.invariant.0 (c.next_lane-next.ensures c.loop-places.places c.loop-places.invariant.2 (later c.loop-places.invariant.0)) c.if-next-eq-NO_LINE.false).cpu in
    let s = c.seat_of.ensures in
    omega arith

pub line_of-requires : goal.line_of-requires
line_of-requires g c =
    subst (λ (w : Work). w.cpu < 64) (sym c.play_next.ensures.plays.kept.work_is) (plays-lane g.L.Keeper.lane c.loop-places.lanes c.next_lane-next.result c.index-lanes-next.result c.loop-places.invariant.0 (c.next_lane-next.ensures c.loop-places.places c.loop-places.invariant.2 (later c.loop-places.invariant.0)) c.if-next-eq-NO_LINE.false).cpu

pub bounds-lines-cpu : goal.bounds-lines-cpu
bounds-lines-cpu g c =
    let few = (plays-lane g.L.Keeper.lane c.loop-places.lanes c.next_lane-next.result c.index-lanes-next.result c.loop-places.invariant.0 (c.next_lane-next.ensures c.loop-places.places c.loop-places.invariant.2 (later c.loop-places.invariant.0)) c.if-next-eq-NO_LINE.false).cpu in
    let s = c.seat_of.ensures in
    omega arith

pub overflow_add-from : goal.overflow_add-from
overflow_add-from g c =
    let few = (plays-lane g.L.Keeper.lane c.loop-places.lanes c.next_lane-next.result c.index-lanes-next.result c.loop-places.invariant.0 (c.next_lane-next.ensures c.loop-places.places c.loop-places.invariant.2 (later c.loop-places.invariant.0)) c.if-next-eq-NO_LINE.false).few in
    omega arith

pub loop-places-init : goal.loop-places-init
loop-places-init g c = (run-start (panics_of c.args.reactors.now) c.args.core.now (map g.L.Keeper.lane c.args.lanes.now) c.requires, search rules, c.first_lines-lines.ensures, omega arith)

pub returns-then-next-eq-NO_LINE : goal.returns-then-next-eq-NO_LINE
returns-then-next-eq-NO_LINE g c =
    let places = c.loop-places.places in
    let lanes : List LaneValue = map g.L.Keeper.lane c.loop-places.lanes in
    let none : All (λ l. IsPending places l → ⊥) lanes =
    λ k d lt pend. let b = All-get_or (λ l. IsPending places l → (c.next_lane-next.result.line ≤ next_line places l) × (next_line places l < 2 ^ 32)) lanes k d lt (c.next_lane-next.ensures places c.loop-places.invariant.2 (later c.loop-places.invariant.0)).least pend in
    let b0 = b.0 in let b1 = b.1 in let no = c.if-next-eq-NO_LINE.true in absurd (omega arith) in
    run-end (panics_of c.args.reactors.now) c.args.core.now c.loop-places.core (map g.L.Keeper.lane c.args.lanes.now) lanes places c.loop-places.from c.loop-places.invariant.0 none

pub loop-places-smaller : goal.loop-places-smaller
loop-places-smaller g c =
    let lanes : List LaneValue = map g.L.Keeper.lane c.loop-places.lanes in
    let d : LaneValue = g.L.Keeper.lane c.index-lanes-next.result in
    let n = is-next c.loop-places.places lanes c.next_lane-next.result d (c.next_lane-next.ensures c.loop-places.places c.loop-places.invariant.2 (later c.loop-places.invariant.0)) c.if-next-eq-NO_LINE.false in
    let le = from-le (panics_of c.args.reactors.now) c.args.core.now c.loop-places.core (map g.L.Keeper.lane c.args.lanes.now) lanes c.loop-places.places c.loop-places.from c.next_lane-next.result.lane c.next_lane-next.result.line d c.loop-places.invariant.0 n in
    smaller c.loop-places.from c.next_lane-next.result.line le n.fits

pub loop-places-preserved : goal.loop-places-preserved
loop-places-preserved g c =
    let view = g.L.Keeper.lane in
    let panics = panics_of c.args.reactors.now in
    let run = c.loop-places.invariant.0 in
    let first : List LaneValue = map view c.args.lanes.now in
    let all : List g.row.L.Denot = c.loop-places.lanes in
    let lanes : List LaneValue = map view all in
    let k = c.next_lane-next.result.lane in
    let d : LaneValue = view c.index-lanes-next.result in
    let l = get_or lanes k d in
    let least = c.next_lane-next.ensures c.loop-places.places c.loop-places.invariant.2 (later run) in
    let next = is-next c.loop-places.places lanes c.next_lane-next.result d least c.if-next-eq-NO_LINE.false in
    let was : LaneValue = view (get_or all k c.index-lanes-next.result) in
    let here : was ≡ l = sym (get_or-map view all k c.index-lanes-next.result d (lane-inside view all k next.below)) in
    let after : List g.row.L.Denot = set all k c.play_next.new.lane in
    let seen : set lanes k (view c.play_next.new.lane) ≡ map view after = sym (map-set view all k c.play_next.new.lane) in
    let lane' = view c.play_next.new.lane in
    let place' = c.play_next.result in
    let line = c.line_of.result in
    let cpu : c.seat_of.result - 2 ≡ l.work.cpu = (let e = c.seat_of.ensures in omega arith) ∙ ap (λ (m : LaneValue). m.work.cpu) here in
    let plays = subst (λ (m : LaneValue). PlaysNext panics c.loop-places.core c.play_next.new.core m lane' (get_or c.loop-places.places m.work.cpu 0) place') here
    (subst (λ (n : ℕ). PlaysNext panics c.loop-places.core c.play_next.new.core was lane' (get_or c.loop-places.places n 0) place') (let e = c.seat_of.ensures in omega arith) c.play_next.ensures) in
    let apart = pairs-from lanes (subst (AllPairs (λ v u. v.cpu ≢ u.cpu)) (sym run.same_works) (pairs-to first c.requires.cpus)) in
    let fits : l.work.cpu < length c.loop-places.lines = let f = (All-get_or (LaneSoFar c.args.core.now.setup panics c.args.core.now.history run.more c.loop-places.places c.loop-places.from) lanes k d next.below run.lanes_are).cpu in let n = c.loop-places.invariant.1 in omega arith in
    let few : c.next_lane-next.result.line + 1 ≤ 2 ^ 32 = let f = next.fits in omega arith in
    let has : HasLine (set c.loop-places.places (c.seat_of.result - 2) place') lane' line = record { line_is = c.line_of.ensures.line; range = c.line_of.ensures.range; few = c.line_of.ensures.none; pending = c.line_of.ensures.pending } in (
      subst (λ (ls : List LaneValue). RunSoFar panics c.args.core.now c.play_next.new.core first ls (set c.loop-places.places (c.seat_of.result - 2) place') (c.next_lane-next.result.line + 1)) seen
          (subst (λ (n : ℕ). RunSoFar panics c.args.core.now c.play_next.new.core first (set lanes k lane') (set c.loop-places.places n place') (c.next_lane-next.result.line + 1)) (sym cpu)
          (run-next panics c.args.core.now c.loop-places.core c.play_next.new.core first lanes c.loop-places.places c.loop-places.from c.next_lane-next.result lane' place' d c.requires run least c.if-next-eq-NO_LINE.false plays)),
      length-set c.loop-places.lines (c.seat_of.result - 2) line ∙ c.loop-places.invariant.1,
      subst (λ (ls : List LaneValue). HasLines (set c.loop-places.places (c.seat_of.result - 2) place') (set c.loop-places.lines (c.seat_of.result - 2) line) ls) seen
          (subst (λ (n : ℕ). HasLines (set c.loop-places.places n place') (set c.loop-places.lines n line) (set lanes k lane')) (sym cpu)
          (lines-played c.loop-places.lines lanes apart k d next.below fits c.loop-places.places lane' place' line plays.plays.kept.work_is c.loop-places.invariant.2
          (subst (λ (n : ℕ). HasLine (set c.loop-places.places n place') lane' line) cpu has))),
      few,
    )
