-- After any history a seat can play any turn.
use Rattle.std.proofs.Common.{◌≡◌, ℕ, zero, suc, ◌+◌, ◌-◌, ◌^◌, ◌≤◌, Bool, true, false, ◌&&◌, [], ◌∷◌, ◌++◌, length, arith, refl, ap, get_or}
use Rattle.std.proofs.lemmas.List.{get_or_default}
use Rattle.rv_model.specs.declared.entry.Act.TheVariants.{Look, Raise}
use Rattle.rv_model.specs.declared.hit.Mode.TheVariants.{Event}
use Rattle.rv_model.specs.declared.hit.What.TheVariants.{Nothing}
use Rattle.rv_model.specs.declared.record.Delivered.{Delivered}
use Rattle.rv_model.specs.declared.record.Delivered.TheVariants.{Done}
use Rattle.rv_model.specs.declared.work.Delivery.{Delivery}
use Rattle.rv_model.specs.declared.work.Turn.{Turn}
use Rattle.rv_model.specs.Numbers.{has_bit}
use Rattle.rv_model.specs.Records.{failed_outcome}
use Rattle.rv_model.specs.Scripts.{is_enabled_by}
use Rattle.rv_model.specs.Setups.{Setup}
use Rattle.rv_core.specs.Core.{CoreValue}
use Rattle.rv_feed.specs.Lane.{LaneValue}
use Rattle.rv_feed.specs.inner.Lane.{AddsRecords}
use Rattle.rv_feed.specs.inner.Turns.{PartDone, PlaysTurn}
use Rattle.rv_feed.proofs.AnyActLemmas.{DoesAfter, does-composes, entry_of, answer_of, after, act_for, looks, halts, serves}
use Rattle.rv_feed.proofs.PlaceLemmas.{AtPlace, record-for}
use Rattle.rv_feed.proofs.TurnLemmas.{turn-start, turn-off, turn-all, turn-hidden, turn-shown, turn-last}

-- the delivery that is read where an index is past the end
abbrev no_delivery : Delivery
no_delivery = record { order = 0; monitor = 0; instance = 0; hit = record { mode = Event; what = Nothing } }

-- the seat played the turn, to some machine, with some lane after it
pub record SomeTurn (seat : ℕ) (panics : ℕ → Bool) (old : CoreValue) (turn : Turn) (lane : LaneValue) : Type 0 where
  pub new : CoreValue
  pub lane' : LaneValue
  pub ends : Bool
  pub plays : PlaysTurn (DoesAfter seat) old.setup panics old new turn lane lane' ends

module _ (seat : ℕ) (panics : ℕ → Bool) (word : ℕ) (turn : Turn) (old : CoreValue) (lane : LaneValue) (goes : has_bit word 34 ≡ false) where
  -- the setup, and the deliveries before a place of the turn
  abbrev s : Setup
  s = old.setup

  abbrev IsDone : CoreValue → LaneValue → ℕ → Type 0
  IsDone cur lane' place = PartDone (DoesAfter seat) s panics old cur word turn lane lane' place

  module _ (cur : CoreValue) (lane' : LaneValue) (place : ℕ) (d : Delivery) (at : AtPlace lane.work.deliveries turn place d) (done : IsDone cur lane' place)
      (rest : (mid : CoreValue) (lane'' : LaneValue) → IsDone mid lane'' (place + 1) → SomeTurn seat panics old turn lane) where
    -- the machine and the lane after the delivery, and its outcome
    abbrev mid : CoreValue
    mid = after seat cur (act_for seat cur d)

    abbrev outcome : Delivered
    outcome = Done (answer_of seat cur (act_for seat cur d))

    abbrev lane'' : LaneValue
    lane'' = record lane' { records = lane'.records ++ record-for turn.line word d outcome ∷ [] }

    -- the lane has its record
    kept : AddsRecords lane' lane'' (record-for turn.line word d outcome ∷ [])
    kept = record { work_is = refl; records_are = refl; room = omega arith }

    -- the machine's setup is the first one's
    same : cur.setup ≡ s
    same = ap (λ (v : CoreValue). v.setup) done.did.0.grows

    -- it ends the script, or the rest of the turn comes
    failed : (b : Bool) → is_enabled_by word d ≡ true → (failed_outcome outcome && (panics d.monitor && has_bit word 33)) ≡ b → SomeTurn seat panics old turn lane
    failed true shown halts_here = record {
      new = after seat mid (Raise (2 ^ 34));
      lane' = lane'';
      ends = true;
      plays = turn-last done at (does-composes seat) shown same (serves seat cur d) kept goes halts_here (halts seat mid);
    }
    failed false shown goes_on = rest mid lane'' (turn-shown done at (does-composes seat) shown same (serves seat cur d) kept goes_on)

    -- it is made, or the look does not enable it
    enabled : (b : Bool) → is_enabled_by word d ≡ b → SomeTurn seat panics old turn lane
    enabled true shown = failed (failed_outcome outcome && (panics d.monitor && has_bit word 33)) shown refl
    enabled false hidden = rest cur lane' (turn-hidden done at hidden)

    -- one delivery more, and then the rest of the turn
    one-more : SomeTurn seat panics old turn lane
    one-more = enabled (is_enabled_by word d) refl

  -- the rest of the turn, from a place on
  from-place : turn.to ≤ length lane.work.deliveries → (left : ℕ) (cur : CoreValue) (lane' : LaneValue) (place : ℕ) → place + left ≡ turn.to → turn.from ≤ place → IsDone cur lane' place → SomeTurn seat panics old turn lane
  from-place in_list zero cur lane' place end from done =
      let all : place ≡ turn.to = omega arith in
      record { new = cur; lane' = lane'; ends = false; plays = turn-all all goes done }
  from-place in_list (suc left) cur lane' place end from done =
      let d : Delivery = get_or lane.work.deliveries place no_delivery in
      let at : AtPlace lane.work.deliveries turn place d = record { d_is = get_or_default lane.work.deliveries place no_delivery d (omega arith); from = from; before = omega arith; inside = omega arith } in
      one-more cur lane' place d at done (λ mid lane'' more. from-place in_list left mid lane'' (place + 1) (omega arith) (omega arith) more)

-- the seat plays a turn of the lane's deliveries
pub some-turn : (seat : ℕ) (panics : ℕ → Bool) (old : CoreValue) (turn : Turn) (lane : LaneValue) → turn.from ≤ turn.to → turn.to ≤ length lane.work.deliveries → SomeTurn seat panics old turn lane
some-turn seat panics old turn lane order in_list = halted (has_bit (entry_of seat old Look).after 34) refl
  where
    halted : (b : Bool) → has_bit (entry_of seat old Look).after 34 ≡ b → SomeTurn seat panics old turn lane
    halted true off = record { new = after seat old Look; lane' = lane; ends = true; plays = turn-off (looks seat old) off }
    halted false on =
        let word : ℕ = (entry_of seat old Look).after in
        from-place seat panics word turn old lane on in_list (turn.to - turn.from) (after seat old Look) lane turn.from (omega arith) (omega arith) (turn-start (looks seat old))
