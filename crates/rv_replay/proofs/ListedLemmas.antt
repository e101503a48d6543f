-- One turn of the list, delivery by delivery.
use Rattle.std.proofs.Common.{◌≡◌, ℕ, ◌+◌, ◌-◌, ◌<◌, ◌≤◌, Bool, true, false, ◌&&◌, List, [], ◌∷◌, ◌++◌, length, refl, sym, ap, ◌∙◌, subst, append_assoc, append-nil, arith, get_or}
use Rattle.std.proofs.lemmas.List.Elements.{All-nil, All-push, All-weaker}
use Rattle.std.proofs.lemmas.List.Quantifiers.{all_pairs_push}
use Rattle.rv_model.specs.declared.record.Delivered.{Delivered}
use Rattle.rv_model.specs.declared.record.Record.{Record}
use Rattle.rv_model.specs.declared.record.Task.{Task}
use Rattle.rv_model.specs.declared.work.Delivery.{Delivery}
use Rattle.rv_model.specs.declared.work.Turn.{Turn}
use Rattle.rv_model.specs.Numbers.{has_bit}
use Rattle.rv_model.specs.Records.{failed_outcome}
use Rattle.rv_model.specs.Scripts.{is_enabled_by}
use Rattle.rv_model.specs.Setups.{judge_of, monitor_of, slot_of}
use Rattle.rv_core.specs.declared.phase.RowPhase.{RowPhase}
use Rattle.rv_core.specs.Core.{CoreValue}
use Rattle.rv_core.specs.RowPhases.{phase_at, row_phase}
use Rattle.rv_core.specs.Setup.{judges_of}
use Rattle.rv_feed.specs.Lane.{LaneValue}
use Rattle.rv_feed.specs.inner.Lane.{AddsRecords}
use Rattle.rv_feed.specs.Players.{LooksAt, Halts, Serves}
use Rattle.rv_feed.specs.Turns.{Did}
use Rattle.rv_feed.specs.inner.Turns.{PartDone, PlaysTurn}
use Rattle.rv_feed.specs.inner.Composing.{did-composes}
use Rattle.rv_feed.proofs.PlaceLemmas.{AtPlace, record-for}
use Rattle.rv_feed.proofs.TurnLemmas.{turn-start, turn-off, turn-all, turn-hidden, turn-shown, turn-last}
use Rattle.rv_route.specs.Listing.{ListedDelivery}
use Rattle.rv_replay.proofs.ObserveLemmas.{makes-record, observes-halt, observes-look, observes-then}
use Rattle.rv_replay.specs.Observing.{ObservesMore, ObservesRecord, IgnoresSwitches}
use Rattle.rv_replay.specs.inner.Turns.{IsTurnOf, OrdersFrom, with_records, PartListed, PlaysListed}

-- ---- records

-- no record
pub orders-none : (from : ℕ) → OrdersFrom from from []
orders-none from = record { low = All-nil (λ (r : Record). from ≤ r.order); high = All-nil (λ (r : Record). r.order < from); ascend = λ i j d lt within. absurd (omega arith) }

-- up to a larger number
pub orders-wider : (from at to : ℕ) (rs : List Record) → at ≤ to → OrdersFrom from at rs → OrdersFrom from to rs
orders-wider from at to rs le o = record { low = o.low; high = All-weaker (λ (r : Record). r.order < at) (λ (r : Record). r.order < to) (λ r h. omega arith) rs o.high; ascend = o.ascend }

-- one record more
orders-more : (from at : ℕ) (rs : List Record) (r : Record) → from ≤ at → r.order ≡ at → OrdersFrom from at rs → OrdersFrom from (at + 1) (rs ++ r ∷ [])
orders-more from at rs r le is o = record {
  low = All-push (λ (u : Record). from ≤ u.order) rs r o.low (omega arith);
  high = All-push (λ (u : Record). u.order < at + 1) rs r (All-weaker (λ (u : Record). u.order < at) (λ (u : Record). u.order < at + 1) (λ u h. omega arith) rs o.high) (omega arith);
  ascend = all_pairs_push (λ (u v : Record). u.order < v.order) rs r o.ascend (All-weaker (λ (u : Record). u.order < at) (λ (u : Record). u.order < r.order) (λ u h. omega arith) rs o.high);
}

-- a lane without more records
bare : (lane : LaneValue) → with_records lane [] ≡ lane
bare lane = ap (λ (rs : List Record). record lane { records = rs }) (append-nil lane.records)

-- one record more
adds-one : (lane : LaneValue) (rs : List Record) (r : Record) → AddsRecords (with_records lane rs) (with_records lane (rs ++ r ∷ [])) (r ∷ [])
adds-one lane rs r = record { work_is = refl; records_are = sym (append_assoc lane.records rs (r ∷ [])); room = omega arith }

-- ---- deliveries

-- of a CPU's number that is another one
pub listed-of : {O : Type 0} {observed : List Task → CoreValue → List Record → O → Type 0} {panics : ℕ → Bool} {cpu other : ℕ} {old new : CoreValue} {list : List ListedDelivery} {from to : ℕ} {o o' : O} {ends : Bool} → cpu ≡ other
    → PlaysListed observed panics cpu old new list from to o o' ends → PlaysListed observed panics other old new list from to o o' ends
listed-of {observed = observed} {panics} {old = old} {new} {list} {from} {to} {o} {o'} {ends} is plays = subst (λ (n : ℕ). PlaysListed observed panics n old new list from to o o' ends) is plays

module _ {O : Type 0} {observed : List Task → CoreValue → List Record → O → Type 0} {panics : ℕ → Bool} {cpu : ℕ} {old cur : CoreValue} {word : ℕ} {list : List ListedDelivery} {from to : ℕ} {o : O} where
  -- right after the look
  pub listed-start : IgnoresSwitches observed → LooksAt (Did (2 + cpu)) old cur word → PartListed observed panics cpu old cur word list from to from o o
  listed-start passes look = record {
    rs = [];
    observes = observes-look observed passes cpu old cur word o look;
    orders = orders-none from;
    same_setup = ap (λ (v : CoreValue). v.setup) look.did.grows;
    done = λ lane turn is.
        let z : turn.from ≡ turn.from + (from - from) = omega arith in
        subst (λ (n : ℕ). PartDone (Did (2 + cpu)) old.setup panics old cur word turn lane (with_records lane []) n) z
        (subst (λ (l : LaneValue). PartDone (Did (2 + cpu)) old.setup panics old cur word turn lane l turn.from) (sym (bare lane)) (turn-start look));
  }

  -- the look shows a halt
  pub listed-off : IgnoresSwitches observed → from < to → LooksAt (Did (2 + cpu)) old cur word → has_bit word 34 ≡ true → PlaysListed observed panics cpu old cur list from to o o true
  listed-off passes some look off = record {
    rs = [];
    observes = observes-look observed passes cpu old cur word o look;
    orders = orders-wider from from to [] (omega arith) (orders-none from);
    plays = λ lane turn is. subst (λ (l : LaneValue). PlaysTurn (Did (2 + cpu)) old.setup panics old cur turn lane l true) (sym (bare lane)) (turn-off look off);
  }

  -- all deliveries
  pub listed-all : {o' : O} {at : ℕ} → at ≡ to → has_bit word 34 ≡ false → PartListed observed panics cpu old cur word list from to at o o' → PlaysListed observed panics cpu old cur list from to o o' false
  listed-all {o'} {at} end on part = record {
    rs = part.rs;
    observes = part.observes;
    orders = orders-wider from at to part.rs (omega arith) part.orders;
    plays = λ lane turn is.
        let last : turn.from + (at - from) ≡ turn.to = let t = is.to_is in omega arith in
        turn-all last on (part.done lane turn is);
  }

  module _ {o' : O} {at : ℕ} {d : Delivery} (low : from ≤ at) (high : at < to) (in_list : to ≤ length list) (d_is : (x : ListedDelivery) → d ≡ (get_or list at x).delivery) (order : d.order ≡ at)
      (part : PartListed observed panics cpu old cur word list from to at o o') where
    -- the delivery is at the place of the turn
    here : (lane : LaneValue) (turn : Turn) → IsTurnOf list from to lane turn → AtPlace lane.work.deliveries turn (turn.from + (at - from)) d
    here lane turn is =
        let x : ListedDelivery = record { line = 0; cpu = 0; delivery = d } in
        let back : from + (at - from) ≡ at = omega arith in
        let t = is.to_is in
        let l = is.in_list in
        record {
          d_is = d_is x ∙ ap (λ (n : ℕ). (get_or list n x).delivery) (sym back) ∙ sym (is.each (at - from) d x (omega arith));
          from = omega arith;
          before = omega arith;
          inside = omega arith;
        }

    -- the place behind it
    next-place : (turn : Turn) → (turn.from + (at - from)) + 1 ≡ turn.from + ((at + 1) - from)
    next-place turn = omega arith

    -- the look does not show it on
    pub listed-hidden : is_enabled_by word d ≡ false → PartListed observed panics cpu old cur word list from to (at + 1) o o'
    listed-hidden hidden = record {
      rs = part.rs;
      observes = part.observes;
      orders = orders-wider from at (at + 1) part.rs (omega arith) part.orders;
      same_setup = part.same_setup;
      done = λ lane turn is.
          subst (λ (n : ℕ). PartDone (Did (2 + cpu)) old.setup panics old cur word turn lane (with_records lane part.rs) n) (next-place turn) (turn-hidden (part.done lane turn is) (here lane turn is) hidden);
    }

    module _ {mid : CoreValue} {slot : ℕ} {before : RowPhase} {outcome : Delivered} {r : Record} {o'' : O} (shown : is_enabled_by word d ≡ true) (served : Serves (Did (2 + cpu)) cur.setup cur mid d outcome)
        (line : (x : ListedDelivery) → r ≡ record-for (get_or list from x).line word d outcome) (slot_is : slot ≡ slot_of cur.setup.shape d.monitor d.instance) (monitor_is : monitor_of cur.setup.shape slot ≡ d.monitor)
        (before_is : before ≡ row_phase (judge_of cur.setup (judges_of cur.setup) slot) (phase_at cur slot)) (seen : ObservesRecord observed mid slot before r o' o'') where
      -- the record is that of the turn's line
      r_is : (lane : LaneValue) (turn : Turn) → IsTurnOf list from to lane turn → r ≡ record-for turn.line word d outcome
      r_is lane turn is =
          let x : ListedDelivery = record { line = 0; cpu = 0; delivery = d } in
          line x ∙ ap (λ (n : ℕ). record-for n word d outcome) (sym (is.line x))

      -- it has the delivery's order
      r_order : r.order ≡ at
      r_order = let x : ListedDelivery = record { line = 0; cpu = 0; delivery = d } in ap (λ (u : Record). u.order) (line x) ∙ order

      -- it is observed
      here-observed : ObservesMore observed (r ∷ []) cur mid o' o''
      here-observed =
          let x : ListedDelivery = record { line = 0; cpu = 0; delivery = d } in
          seen cur (makes-record cpu cur mid slot before d outcome r served (ap (λ (u : Record). u.hit) (line x)) (ap (λ (u : Record). u.monitor) (line x)) (ap (λ (u : Record). u.instance) (line x)) (ap (λ (u : Record). u.outcome) (line x)) slot_is monitor_is before_is)

      -- a lane keeps it
      keeps : (lane : LaneValue) (turn : Turn) → IsTurnOf list from to lane turn → AddsRecords (with_records lane part.rs) (with_records lane (part.rs ++ r ∷ [])) (record-for turn.line word d outcome ∷ [])
      keeps lane turn is = subst (λ (u : Record). AddsRecords (with_records lane part.rs) (with_records lane (part.rs ++ r ∷ [])) (u ∷ [])) (r_is lane turn is) (adds-one lane part.rs r)

      -- the script goes on
      pub listed-shown : (failed_outcome outcome && (panics d.monitor && has_bit word 33)) ≡ false → PartListed observed panics cpu old mid word list from to (at + 1) o o''
      listed-shown on = record {
        rs = part.rs ++ r ∷ [];
        observes = observes-then observed part.rs (r ∷ []) old cur mid o o' o'' part.observes here-observed;
        orders = orders-more from at part.rs r low r_order part.orders;
        same_setup = ap (λ (v : CoreValue). v.setup) served.did.grows ∙ part.same_setup;
        done = λ lane turn is.
            subst (λ (n : ℕ). PartDone (Did (2 + cpu)) old.setup panics old mid word turn lane (with_records lane (part.rs ++ r ∷ [])) n) (next-place turn)
            (turn-shown (part.done lane turn is) (here lane turn is) (did-composes (2 + cpu)) shown part.same_setup served (keeps lane turn is) on);
      }

      -- the script ends
      pub listed-last : {new : CoreValue} → IgnoresSwitches observed → has_bit word 34 ≡ false → (failed_outcome outcome && (panics d.monitor && has_bit word 33)) ≡ true → Halts (Did (2 + cpu)) mid new → PlaysListed observed panics cpu old new list from to o o'' true
      listed-last {new} passes on off halts = record {
        rs = part.rs ++ r ∷ [];
        observes = observes-halt observed passes cpu (part.rs ++ r ∷ []) old mid new o o'' (observes-then observed part.rs (r ∷ []) old cur mid o o' o'' part.observes here-observed) halts;
        orders = orders-wider from (at + 1) to (part.rs ++ r ∷ []) (omega arith) (orders-more from at part.rs r low r_order part.orders);
        plays = λ lane turn is. turn-last (part.done lane turn is) (here lane turn is) (did-composes (2 + cpu)) shown part.same_setup served (keeps lane turn is) on off halts;
      }
