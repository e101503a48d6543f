-- A walk over a list: from one turn to the next.
use Rattle.std.proofs.Common.{◌≡◌, ◌≢◌, ℕ, ◌+◌, ◌-◌, ◌<◌, ◌≤◌, Bool, true, false, List, [], ◌++◌, length, get_or, set, take, refl, sym, ap, ◌∙◌, subst, arith, true≢false}
use Rattle.std.specs.Prelude.{All, AllPairs, if◌then◌else◌}
use Rattle.std.proofs.lemmas.List.{get_or_default}
use Rattle.std.proofs.lemmas.List.Elements.{All-append, All-set, All-weaker}
use Rattle.rv_model.specs.declared.record.Record.{Record}
use Rattle.rv_model.specs.declared.record.Task.{Task}
use Rattle.rv_model.specs.declared.work.Turn.{Turn}
use Rattle.rv_model.specs.Works.{Work}
use Rattle.rv_model.proofs.SeatLemmas.{line-index}
use Rattle.rv_core.specs.Core.{CoreValue}
use Rattle.rv_feed.specs.Lane.{LaneValue}
use Rattle.rv_feed.specs.inner.SoFar.{IsPending, PlaysNext, next_line, next_turn_of}
use Rattle.rv_feed.specs.Turns.{Did}
use Rattle.rv_feed.specs.inner.Turns.{PlaysTurn}
use Rattle.rv_feed.proofs.LaneLemmas.{pairs-from, pairs-to}
use Rattle.rv_feed.proofs.RunLemmas.{run-played}
use Rattle.rv_route.specs.Listing.{ListedDelivery, works_listed}
use Rattle.rv_replay.specs.inner.Own.{own}
use Rattle.rv_replay.specs.Lists.{FitsList, fresh_lanes}
use Rattle.rv_replay.specs.inner.Turns.{IsTurnOf, PlaysListed, with_records}
use Rattle.rv_replay.specs.inner.Walks.{Stands, WalkSoFar}
use Rattle.rv_replay.proofs.FollowLemmas.{LaneThere, cpu-lane, lanes-own, listed-apart, from-on, behind, lines-apart, orders-join}
use Rattle.rv_replay.proofs.GroupLemmas.{TurnThere, turn-there, next-least}
use Rattle.rv_replay.proofs.GrownLemmas.{kept-more}
use Rattle.rv_replay.proofs.ListedLemmas.{orders-wider}
use Rattle.rv_replay.proofs.ObserveLemmas.{observes-then}
use Rattle.rv_replay.proofs.OwnLemmas.{front, front-others}
use Rattle.rv_replay.proofs.OwnWorkLemmas.{IsOwn, own_work, own-is_work}
use Rattle.rv_replay.proofs.PresentLemmas.{same-cpu}
use Rattle.rv_replay.proofs.StandLemmas.{stands-on}

-- ---- one turn

module _ {O : Type 0} (observed : List Task → CoreValue → List Record → O → Type 0) (panics : ℕ → Bool) (old cur : CoreValue) (list : List ListedDelivery) (ended : List Bool) (from to : ℕ) (o o' : O) (d : ListedDelivery)
    (ok : FitsList old.setup list) (many : length ended ≡ 64) (low : from < to) (high : to ≤ length list)
    (same : (k : ℕ) (e : ListedDelivery) → from ≤ k → k < to → (get_or list k e).line ≡ (get_or list from e).line) (last : (e : ListedDelivery) → to < length list → (get_or list to e).line ≢ (get_or list from e).line)
    (walk : WalkSoFar observed panics old cur list ended from o o') where
  -- the lanes of the walk, and the CPU and the line of the turn
  abbrev lanes : List LaneValue
  lanes = walk.lanes

  abbrev cpu : ℕ
  cpu = (get_or list from d).cpu

  abbrev line : ℕ
  line = (get_or list from d).line

  -- the CPU is one of 64
  cpu_below : cpu < 64
  cpu_below = ok.cpus from d (omega arith)

  -- each delivery of the turn is of the line and the CPU
  in_turn : (j : ℕ) → from ≤ j → j < to → ((get_or list j d).line ≡ line) × ((get_or list j d).cpu ≡ cpu)
  in_turn j le lt =
      let s = same j d le lt in
      (s, same-cpu list d (listed-apart old.setup list ok) j from (omega arith) (omega arith) (ok.cpus j d (omega arith)) cpu_below s)

  -- other CPUs have nothing of the turn
  other-front : (c : ℕ) → (cpu ≡ c → ⊥) → own c (take to list) ≡ own c (take from list)
  other-front c other =
      let all : from + (to - from) ≡ to = omega arith in
      ap (λ (n : ℕ). own c (take n list)) (sym all) ∙ front-others list d c from (to - from) (omega arith) (λ k le lt e. other (sym (in_turn k le (omega arith)).1 ∙ e))

  -- records below the place are below the next one
  wider : (l : LaneValue) → All (λ r. r.order < from) l.records → All (λ r. r.order < to) l.records
  wider l all = All-weaker (λ (r : Record). r.order < from) (λ (r : Record). r.order < to) (λ r h. omega arith) l.records all

  -- the CPU's script has ended
  pub walk-skip : get_or ended cpu false ≡ true → WalkSoFar observed panics old cur list ended to o o'
  walk-skip on = record {
    rs = walk.rs;
    observes = walk.observes;
    orders = orders-wider 0 from to walk.rs (omega arith) walk.orders;
    lanes = lanes;
    places = walk.places;
    line = walk.line;
    run = walk.run;
    later = λ k e le lt. walk.later k e (omega arith) lt;
    apart = λ k j e k_lt le lt. lines-apart list ok.ascend from to low high same last k j e k_lt le lt;
    stand = λ k e lt.
        let l = get_or lanes k e in
        let s = walk.stand k e lt in
        record { past = s.past; next = λ off. s.next off ∙ ap (λ (m : _). length m.turns) (sym (other-front l.work.cpu (λ here. true≢false (sym on ∙ ap (λ (n : ℕ). get_or ended n false) here ∙ off)))) };
    kept = walk.kept;
    below = λ k e lt. wider (get_or lanes k e) (walk.below k e lt);
  }

  -- the lane of the CPU
  abbrev there : LaneThere lanes (own_work list cpu)
  there = cpu-lane list lanes walk.run.same_works d from (omega arith) cpu_below

  abbrev k : ℕ
  k = there.place

  abbrev any : LaneValue
  any = record { work = own_work list cpu; records = []; room = 0 }

  abbrev l : LaneValue
  l = get_or lanes k any

  -- it is of the CPU
  cpu_is : l.work.cpu ≡ cpu
  cpu_is = ap (λ (w : Work). w.cpu) (there.is any)

  -- the next turn of the whole
  next : TurnThere list d cpu line from to
  next = turn-there list d cpu line from to low high (λ j lt. walk.apart j from d lt (omega arith) (omega arith)) in_turn (λ j le lt. behind list ok.ascend from to low high same last j d le lt)

  module _ (off : get_or ended cpu false ≡ false) where
    -- the index of the lane's next turn
    place_is : next_turn_of walk.places l ≡ length (front list d cpu from).turns
    place_is = (walk.stand k any there.within).next (ap (λ (n : ℕ). get_or ended n false) cpu_is ∙ off) ∙ ap (λ (n : ℕ). length (own n (take from list)).turns) cpu_is

    -- the lane has this turn
    pending : IsPending walk.places l
    pending = let w = next.within in let p = place_is in let c = ap (λ (x : Work). length x.turns) (there.is any) in omega arith

    -- which is that of the list
    turn_at : (u : Turn) → get_or l.work.turns (next_turn_of walk.places l) u ≡ next.turn
    turn_at u = ap (λ (x : Work). get_or x.turns (next_turn_of walk.places l) u) (there.is any) ∙ ap (λ (n : ℕ). get_or (own cpu list).turns n u) place_is ∙ next.is u

    -- of its line
    line_is : next_line walk.places l ≡ line
    line_is = line-index l.work.turns (next_turn_of walk.places l) next.turn pending ∙ ap (λ (t : Turn). t.line) (turn_at next.turn) ∙ next.line_is

    -- with its deliveries
    is_turn : IsTurnOf list from to l next.turn
    is_turn = record {
      line = λ e. next.line_is ∙ ap (λ (x : ListedDelivery). x.line) (get_or_default list from d e (omega arith));
      to_is = next.to_is;
      in_list = let c = ap (λ (x : Work). length x.deliveries) (there.is any) in let i = next.in_list in omega arith;
      each = λ j other e lt. ap (λ (x : Work). get_or x.deliveries (next.turn.from + j) other) (there.is any) ∙ next.each j other e lt;
    }

    -- no lane has a next turn of a lower line
    least : All (λ m. IsPending walk.places m → line ≤ next_line walk.places m) lanes
    least j e lt pend = go (get_or ended m.work.cpu false) refl
      where
        m : LaneValue
        m = get_or lanes j e

        s : Stands list from ended walk.places m
        s = walk.stand j e lt

        is : IsOwn list m.work
        is = lanes-own list lanes walk.run.same_works j e lt

        go : (b : Bool) → get_or ended m.work.cpu false ≡ b → line ≤ next_line walk.places m
        go true on = let p = s.past on in absurd (omega arith)
        go false not_yet =
            let p = s.next not_yet in
            let inside : length (front list d m.work.cpu from).turns < length (own m.work.cpu list).turns = let c = ap length is.turns_are in omega arith in
            let le = next-least list d m.work.cpu line from next.turn (omega arith) (λ i i_lt. walk.apart i from d i_lt (omega arith) (omega arith)) (λ i i_le i_lt. from-on list ok.ascend from to low high same last i d i_le i_lt) inside in
            let there_is : next_line walk.places m ≡ (get_or (own m.work.cpu list).turns (length (front list d m.work.cpu from).turns) next.turn).line =
            line-index m.work.turns (next_turn_of walk.places m) next.turn pend ∙ ap (λ (n : ℕ). (get_or m.work.turns n next.turn).line) p ∙ ap (λ (ts : List Turn). (get_or ts (length (front list d m.work.cpu from).turns) next.turn).line) is.turns_are in
            omega arith

    -- the CPU played its turn
    module _ (new : CoreValue) (o'' : O) (ends : Bool) (played : PlaysListed observed panics cpu cur new list from to o' o'' ends) where
      abbrev l' : LaneValue
      l' = with_records l played.rs

      abbrev place' : ℕ
      place' = if ends then length l.work.turns else next_turn_of walk.places l + 1

      plays : PlaysNext panics cur new l l' (next_turn_of walk.places l) place'
      plays = record {
        is_work = own-is_work list l.work (lanes-own list lanes walk.run.same_works k any there.within);
        turn = next.turn;
        turn_is = λ u. sym (turn_at u);
        ends = ends;
        plays = subst (λ (n : ℕ). PlaysTurn (Did (2 + n)) cur.setup panics cur new next.turn l l' ends) (sym cpu_is) (played.plays l next.turn is_turn);
        place_is = refl;
      }

      -- where the lanes stand behind it
      stands : All (Stands list to (set ended cpu ends) (set walk.places l.work.cpu place')) (set lanes k l')
      stands =
          let b = cpu_below in let c = walk.run.count in
          stands-on list from to ended walk.places lanes k any played.rs cpu ends there.within (pairs-from lanes (subst (AllPairs (λ v u. v.cpu ≢ u.cpu)) (sym walk.run.same_works) (pairs-to (fresh_lanes (works_listed list)) ok.lanes.cpus))) cpu_is (omega arith) (omega arith)
          (next.next ∙ ap (λ (n : ℕ). n + 1) (sym place_is)) other-front walk.stand

      -- the walk behind it
      pub walk-played : WalkSoFar observed panics old new list (set ended cpu ends) to o o''
      walk-played = record {
        rs = walk.rs ++ played.rs;
        observes = observes-then observed walk.rs played.rs old cur new o o' o'' walk.observes played.observes;
        orders = orders-join 0 from to walk.rs played.rs (omega arith) (omega arith) walk.orders played.orders;
        lanes = set lanes k l';
        places = set walk.places l.work.cpu place';
        line = line + 1;
        run = run-played panics old cur new (fresh_lanes (works_listed list)) lanes walk.places walk.line k line l' place' any ok.lanes walk.run there.within least pending line_is plays;
        later = λ j e le lt. subst (λ (x : ListedDelivery). line + 1 ≤ x.line) (get_or_default list j d e lt) (behind list ok.ascend from to low high same last j d le lt);
        apart = λ i j e i_lt le lt. lines-apart list ok.ascend from to low high same last i j e i_lt le lt;
        stand = stands;
        kept = kept-more from to walk.rs played.rs lanes k l' any there.within refl walk.orders played.orders walk.below walk.kept;
        below = All-set (λ (m : LaneValue). All (λ (r : Record). r.order < to) m.records) lanes k l'
            (All-append (λ (r : Record). r.order < to) l.records played.rs (wider l (walk.below k any there.within)) played.orders.high) (λ j e lt. wider (get_or lanes j e) (walk.below j e lt));
      }
