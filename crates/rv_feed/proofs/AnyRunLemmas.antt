-- Lanes that fit the setup can be run from the first turn to the last, so there is a history of one thread.
use Rattle.std.proofs.Common.{◌≡◌, ℕ, zero, suc, ◌+◌, ◌<◌, ◌≤◌, Bool, List, [], ◌∷◌, ◌⊎◌, length, inl, inr, arith, refl, subst, get_or, set, All, replicate}
use Rattle.std.specs.Prelude.{Contains, if◌then◌else◌}
use Rattle.std.proofs.lemmas.List.{get_or_default}
use Rattle.std.proofs.lemmas.List.Elements.{All-contains, All-cons, All-nil, All-map, All-weaker, All-get_or}
use Rattle.rv_model.specs.declared.entry.Entry.{Entry}
use Rattle.rv_model.specs.declared.work.Turn.{Turn}
use Rattle.rv_model.specs.Histories.{FitsWords}
use Rattle.rv_model.specs.Works.{Work, IsWork}
use Rattle.rv_model.proofs.CutLemmas.{at_each-nil}
use Rattle.rv_model.proofs.SeatLemmas.{line-index}
use Rattle.rv_core.specs.Core.{CoreValue}
use Rattle.rv_core.specs.Setup.{judges_of}
use Rattle.rv_core.proofs.JudgedLemmas.{are-judges}
use Rattle.rv_feed.specs.Existence.{OneExists}
use Rattle.rv_feed.specs.Lane.{LaneValue, FitLanes, works_of}
use Rattle.rv_feed.specs.Order.{Ran}
use Rattle.rv_feed.specs.inner.SoFar.{next_turn_of, IsPending, next_line, LaneSoFar, PlaysNext, RunSoFar}
use Rattle.rv_feed.specs.Turns.{Did}
use Rattle.rv_feed.specs.inner.Turns.{PlaysTurn}
use Rattle.rv_feed.proofs.AnyActLemmas.{IsReplayed, DoesAfter}
use Rattle.rv_feed.proofs.AnyTurnLemmas.{SomeTurn, some-turn}
use Rattle.rv_feed.proofs.LaneLemmas.{names-in, work-at}
use Rattle.rv_feed.proofs.OneLemmas.{one-of-run}
use Rattle.rv_feed.proofs.RunLemmas.{run-start, run-played, run-end}

-- ---- lines have an end

-- no turn has a line from the end on
abbrev pub EndsBefore : ℕ → List Turn → Type 0
EndsBefore end turns = All (λ t. t.line < end) turns

-- the lines of turns have an end
turns-end : (turns : List Turn) → (end : ℕ) × EndsBefore end turns
turns-end [] = (0, All-nil (λ t. t.line < 0))
turns-end (t ∷ turns) =
    let rest = turns-end turns in
    let end : ℕ = (t.line + 1) + rest.0 in
    (end, All-cons (λ u. u.line < end) t turns (omega arith) (All-weaker (λ u. u.line < rest.0) (λ u. u.line < end) (λ u lt. omega arith) turns rest.1))

-- so have those of works
works-end : (works : List Work) → (end : ℕ) × All (λ w. EndsBefore end w.turns) works
works-end [] = (0, All-nil (λ w. EndsBefore 0 w.turns))
works-end (w ∷ works) =
    let mine = turns-end w.turns in
    let rest = works-end works in
    let end : ℕ = mine.0 + rest.0 in (
      end,
      All-cons (λ v. EndsBefore end v.turns) w works (All-weaker (λ t. t.line < mine.0) (λ t. t.line < end) (λ t lt. omega arith) w.turns mine.1)
          (All-weaker (λ v. EndsBefore rest.0 v.turns) (λ v. EndsBefore end v.turns) (λ v all. All-weaker (λ t. t.line < rest.0) (λ t. t.line < end) (λ t lt. omega arith) v.turns all) works rest.1),
    )

-- ---- the least next line

-- the lane at this place has a next turn, with the least line
record HasLeast (places : List ℕ) (lanes : List LaneValue) : Type 0 where
  place : ℕ
  line : ℕ
  below : place < length lanes
  there : (d : LaneValue) → IsPending places (get_or lanes place d) × (next_line places (get_or lanes place d) ≡ line)
  least : All (λ l. IsPending places l → line ≤ next_line places l) lanes

-- no lane has a next turn
abbrev IsOver : List ℕ → List LaneValue → Type 0
IsOver places lanes = All (λ l. IsPending places l → ⊥) lanes

-- below or not
below_or_not : (a b : ℕ) → (a < b) ⊎ (b ≤ a)
below_or_not a b = grind arith

-- with one lane more
least-more : (places : List ℕ) (l : LaneValue) (lanes : List LaneValue) → IsOver places lanes ⊎ HasLeast places lanes → (IsPending places l) ⊎ (length l.work.turns ≤ next_turn_of places l) → IsOver places (l ∷ lanes) ⊎ HasLeast places (l ∷ lanes)
least-more places l lanes (inl none) (inr past) = inl (All-cons (λ m. IsPending places m → ⊥) l lanes (λ pending. absurd (omega arith)) none)
least-more places l lanes (inl none) (inl pending) = inr (record {
  place = 0;
  line = next_line places l;
  below = omega arith;
  there = λ d. (pending, refl);
  least = All-cons (λ m. IsPending places m → next_line places l ≤ next_line places m) l lanes (λ _. omega arith) (All-weaker (λ m. IsPending places m → ⊥) (λ m. IsPending places m → next_line places l ≤ next_line places m) (λ m none_left pending. absurd (none_left pending)) lanes none);
})
least-more places l lanes (inr m) (inr past) = inr (record {
  place = suc m.place;
  line = m.line;
  below = let b = m.below in omega arith;
  there = m.there;
  least = All-cons (λ k. IsPending places k → m.line ≤ next_line places k) l lanes (λ pending. absurd (omega arith)) m.least;
})
least-more places l lanes (inr m) (inl pending) = go (below_or_not (next_line places l) m.line)
  where
    go : (next_line places l < m.line) ⊎ (m.line ≤ next_line places l) → IsOver places (l ∷ lanes) ⊎ HasLeast places (l ∷ lanes)
    go (inl lt) = inr (record {
      place = 0;
      line = next_line places l;
      below = omega arith;
      there = λ d. (pending, refl);
      least = All-cons (λ k. IsPending places k → next_line places l ≤ next_line places k) l lanes (λ _. omega arith)
          (All-weaker (λ k. IsPending places k → m.line ≤ next_line places k) (λ k. IsPending places k → next_line places l ≤ next_line places k) (λ k later on. let le = later on in omega arith) lanes m.least);
    })
    go (inr le) = inr (record {
      place = suc m.place;
      line = m.line;
      below = let b = m.below in omega arith;
      there = m.there;
      least = All-cons (λ k. IsPending places k → m.line ≤ next_line places k) l lanes (λ _. le) m.least;
    })

-- no lane has a next turn, or one has the least line
over-or-least : (places : List ℕ) (lanes : List LaneValue) → IsOver places lanes ⊎ HasLeast places lanes
over-or-least places [] = inl (All-nil (λ l. IsPending places l → ⊥))
over-or-least places (l ∷ lanes) = least-more places l lanes (over-or-least places lanes) (below_or_not (next_turn_of places l) (length l.work.turns))

-- ---- a run

-- the lanes were run, and the history replays
record SomeRun (panics : ℕ → Bool) (old : CoreValue) (first : List LaneValue) : Type 0 where
  new : CoreValue
  lanes : List LaneValue
  ran : Ran panics old new first lanes
  replays : IsReplayed new

-- the turn that a lane has where it has none
abbrev no_turn : Turn
no_turn = record { line = 0; from = 0; to = 0 }

-- what was played was played, also without what the history then keeps
plain : {seat : ℕ} {panics : ℕ → Bool} {old new : CoreValue} {turn : Turn} {lane lane' : LaneValue} {ends : Bool} → PlaysTurn (DoesAfter seat) old.setup panics old new turn lane lane' ends → PlaysTurn (Did seat) old.setup panics old new turn lane lane' ends
plain p = record { ps = p.ps; rs = p.rs; did = p.did.0; script = p.script; one = p.one; kept = p.kept; few = p.few }

module _ (panics : ℕ → Bool) (old : CoreValue) (first : List LaneValue) (ok : FitLanes old.setup first) (are : All IsWork (works_of first)) (end : ℕ) (ends : All (λ w. EndsBefore end w.turns) (works_of first)) where
  module _ (cur : CoreValue) (lanes : List LaneValue) (places : List ℕ) (from : ℕ) (run : RunSoFar panics old cur first lanes places from) (replays : IsReplayed cur) where
    -- what holds of all works holds of that of a lane
    of-lane : (P : Work → Type 0) → All P (works_of first) → (k : ℕ) (d : LaneValue) → k < length lanes → P (get_or lanes k d).work
    of-lane P all k d lt = All-contains P (works_of first) (get_or lanes k d).work all (subst (λ (ws : List Work). Contains ws (get_or lanes k d).work) run.same_works (work-at lanes k d lt))

    -- no turn is left
    all-done : IsOver places lanes → SomeRun panics old first
    all-done none = record { new = cur; lanes = lanes; ran = run-end panics old cur first lanes places from run none; replays = replays }

    module _ (d : LaneValue) (next : HasLeast places lanes) where
      -- the lane, its place, and its turn
      abbrev lane : LaneValue
      lane = get_or lanes next.place d

      abbrev place : ℕ
      place = next_turn_of places lane

      abbrev turn : Turn
      turn = get_or lane.work.turns place no_turn

      -- which is one of the turns
      pending : place < length lane.work.turns
      pending = (next.there d).0

      -- the turns name the deliveries in order
      names : IsWork lane.work
      names = of-lane IsWork are next.place d next.below

      -- the next line is not below the run's, and has an end
      line-between : (from ≤ next.line) × (next.line < end)
      line-between =
          let is = (next.there d).1 in
          let later = (All-get_or (LaneSoFar old.setup panics old.history run.more places from) lanes next.place d next.below run.lanes_are).later pending in
          let line : next_line places lane ≡ turn.line = line-index lane.work.turns place no_turn pending in
          let below : turn.line < end = All-get_or (λ t. t.line < end) lane.work.turns place no_turn pending (of-lane (λ w. EndsBefore end w.turns) ends next.place d next.below) in
          (omega arith, omega arith)

      -- the lane's turn is played
      played : SomeTurn (2 + lane.work.cpu) panics cur turn lane
      played = let n = names-in 0 lane.work.turns (length lane.work.deliveries) names place no_turn pending in some-turn (2 + lane.work.cpu) panics cur turn lane n.0 n.1

      -- the lane's next place
      abbrev place' : ℕ
      place' = if played.ends then length lane.work.turns else place + 1

      -- which is its next one
      plays : PlaysNext panics cur played.new lane played.lane' place place'
      plays = record { is_work = names; turn = turn; turn_is = λ t. get_or_default lane.work.turns place no_turn t pending; ends = played.ends; plays = plain played.plays; place_is = refl }

      -- the run goes on behind it
      one-turn : RunSoFar panics old played.new first (set lanes next.place played.lane') (set places lane.work.cpu place') (next.line + 1)
      one-turn = run-played panics old cur played.new first lanes places from next.place next.line played.lane' place' d ok run next.below next.least pending (next.there d).1 plays

      -- and the history replays
      still-replays : IsReplayed played.new
      still-replays = played.plays.did.1 replays

  -- the rest of the run, where so many lines are left
  rest : (left : ℕ) (cur : CoreValue) (lanes : List LaneValue) (places : List ℕ) (from : ℕ) → end ≤ from + left → RunSoFar panics old cur first lanes places from → IsReplayed cur → LaneValue → SomeRun panics old first
  rest zero cur lanes places from few run replays d = elim (over-or-least places lanes) [
    | inl none ↦ all-done cur lanes places from run replays none
    | inr next ↦ absurd (let line = line-between cur lanes places from run replays d next in let a = line.0 in let b = line.1 in omega arith)
  ]
  rest (suc left) cur lanes places from few run replays d = elim (over-or-least places lanes) [
    | inl none ↦ all-done cur lanes places from run replays none
    | inr next ↦
        let line = line-between cur lanes places from run replays d next in
        let a = line.0 in
        let turn = played cur lanes places from run replays d next in
        rest left turn.new (set lanes next.place turn.lane') (set places (get_or lanes next.place d).work.cpu (place' cur lanes places from run replays d next)) (next.line + 1) (omega arith)
        (one-turn cur lanes places from run replays d next) (still-replays cur lanes places from run replays d next) d
  ]

-- what lanes have to do has a history of one thread
pub one_exists : OneExists
one_exists s specs panics lanes is_setup mean are fit =
    let js = judges_of s in
    let opening : CoreValue = record { setup = s; history = [] } in
    let end = works-end (works_of lanes) in
    let none : LaneValue = record { work = record { cpu = 0; turns = []; deliveries = [] }; records = []; room = 0 } in
    let run : SomeRun panics opening lanes = rest panics opening lanes fit (All-map IsWork (λ (l : LaneValue). l.work) lanes are) end.0 end.1 end.0 opening lanes (replicate 64 0) 0 (omega arith) (run-start panics opening lanes fit) (at_each-nil (FitsWords s js)) none in
    let h : List Entry = run.ran.more in
    let closed : CoreValue = record { setup = s; history = h } in
    let ran : Ran panics opening closed lanes run.lanes = subst (λ (v : CoreValue). Ran panics opening v lanes run.lanes) run.ran.grows run.ran in
    let replays : IsReplayed closed = subst IsReplayed run.ran.grows run.replays in
    let one = one-of-run s panics h lanes run.lanes specs (are-judges specs s.tables is_setup.are_tables mean) replays ran in
    record { judges = one.judges; are_judges = one.are_judges; history = h; is_one = one.history }
