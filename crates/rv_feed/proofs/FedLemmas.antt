-- A script of a feeder, turn by turn.
use Rattle.std.proofs.Common.{◌≡◌, ℕ, ◌+◌, ◌-◌, ◌<◌, ◌≤◌, Bool, true, false, List, [], ◌∷◌, ◌++◌, length, arith, refl, sym, ap, ◌∙◌, subst, take, drop, get_or, length-append}
use Rattle.std.proofs.lemmas.List.{take_more, take_all, take-append-drop, get_or_default}
use Rattle.rv_model.specs.declared.record.Record.{Record}
use Rattle.rv_model.specs.declared.work.Turn.{Turn}
use Rattle.rv_model.specs.Histories.{IsSound}
use Rattle.rv_model.specs.Records.{script_records}
use Rattle.rv_model.specs.inner.ScriptParts.{turn_lists, GoesOn, EndsScript}
use Rattle.rv_model.specs.Scripts.{PlaysTurns}
use Rattle.rv_model.specs.Setups.{Setup}
use Rattle.rv_model.specs.Works.{Work, IsWork}
use Rattle.rv_model.proofs.ScriptPartLemmas.{goes-nothing, goes-join, goes-end, goes-whole}
use Rattle.rv_core.specs.Setup.{judges_of}
use Rattle.rv_board.specs.Seats.{BoardId, SeatValue}
use Rattle.rv_feed.specs.Lane.{LaneValue}
use Rattle.rv_feed.specs.Feeding.{Adds, CanFeed, Feeds}
use Rattle.rv_feed.specs.inner.Feeding.{FedSoFar}
use Rattle.rv_feed.specs.inner.Turns.{PlaysTurn}
use Rattle.rv_feed.proofs.AddLemmas.{adds-none, adds-turn}
use Rattle.rv_feed.proofs.LaneLemmas.{names-in, names-next}

-- ---- a script

-- before the first turn
pub fed-none : (panics : ℕ → Bool) (a : SeatValue) (lane : LaneValue) → IsSound a.board.setup (judges_of a.board.setup) a.part.seen → CanFeed a.board lane → FedSoFar panics a a lane lane 0
fed-none panics a lane sound can =
    let none : lane.records ≡ [] = can.new_lane.no_records in
    record {
      ps = [];
      adds = adds-none a sound;
      goes = subst (λ (rs : List Record). GoesOn a.board.setup panics lane.work.deliveries [] [] rs) (sym none) (goes-nothing a.board.setup panics lane.work.deliveries);
      work_is = refl;
      kept = λ t lt. let l : length lane.records ≡ 0 = rw none refl in omega arith;
      room = can.new_lane.room;
    }

-- the turn at a place, which has a part of the list, and behind all that were played
pub record NextTurn (lane lane' : LaneValue) (place : ℕ) (turn : Turn) : Type 0 where
  pub turn_is : turn ≡ get_or lane.work.turns place turn
  pub inside : place < length lane.work.turns
  pub order : turn.from ≤ turn.to
  pub in_list : turn.to ≤ length lane'.work.deliveries
  pub kept : length lane'.records ≤ turn.from

-- the lane gives it
pub next-turn : {panics : ℕ → Bool} {old cur : SeatValue} {lane lane' : LaneValue} {place : ℕ} {turn : Turn} → FedSoFar panics old cur lane lane' place → IsWork lane.work → place < length lane.work.turns → ((any : Turn) → turn ≡ get_or lane'.work.turns place any) → NextTurn lane lane' place turn
next-turn {panics} {old} {cur} {lane} {lane'} {place} {turn} so_far is_work lt found =
    let is : turn ≡ get_or lane.work.turns place turn = found turn ∙ ap (λ (w : Work). get_or w.turns place turn) so_far.work_is in
    let range = names-in 0 lane.work.turns (length lane.work.deliveries) is_work place turn lt in
    record {
      turn_is = is;
      inside = lt;
      order = subst (λ (x : Turn). x.from ≤ x.to) (sym is) range.0;
      in_list = subst (λ (w : Work). turn.to ≤ length w.deliveries) (sym so_far.work_is) (subst (λ (x : Turn). x.to ≤ length lane.work.deliveries) (sym is) range.1);
      kept = subst (λ (x : Turn). length lane'.records ≤ x.from) (sym is) (so_far.kept turn lt);
    }

module _ {panics : ℕ → Bool} {old cur : SeatValue} {lane lane' : LaneValue} {place : ℕ} {turn : Turn} (so_far : FedSoFar panics old cur lane lane' place) (next : NextTurn lane lane' place turn) where
  -- the setup of the seat's board
  abbrev s : Setup
  s = old.board.setup

  -- the seat stays on its board
  same-setup : cur.board.setup ≡ s
  same-setup = ap (λ (z : BoardId). z.setup) so_far.adds.grows.board

  -- the turns of the lane's work
  abbrev turns : List Turn
  turns = lane.work.turns

  -- the turns with one more are those before and this one
  one-more : take (place + 1) turns ≡ take place turns ++ turn ∷ []
  one-more = take_more turns place turn next.inside ∙ ap (λ (t : Turn). take place turns ++ t ∷ []) (sym next.turn_is)

  -- a turn after which the script goes on
  pub fed-more : {new : SeatValue} {lane'' : LaneValue} {ends : Bool} → IsWork lane.work → ends ≡ false → PlaysTurn Adds cur.board.setup panics cur new turn lane' lane'' ends → FedSoFar panics old new lane lane'' (place + 1)
  fed-more {new} {lane''} {ends} is_work on by =
      let v = subst (PlaysTurn Adds cur.board.setup panics cur new turn lane' lane'') on by in
      let goes = subst (λ (w : Work). GoesOn s panics w.deliveries (turn ∷ []) v.ps v.rs) so_far.work_is (subst (λ (z : Setup). GoesOn z panics lane'.work.deliveries (turn ∷ []) v.ps v.rs) same-setup v.script) in
      record {
        ps = so_far.ps ++ v.ps;
        adds = adds-turn old cur new so_far.ps v.ps so_far.adds v.did v.one;
        goes = subst (λ (ts : List Turn). GoesOn s panics lane.work.deliveries ts (so_far.ps ++ v.ps) lane''.records) (sym one-more)
            (subst (λ (rs : List Record). GoesOn s panics lane.work.deliveries (take place turns ++ turn ∷ []) (so_far.ps ++ v.ps) rs) (sym v.kept.records_are)
            (goes-join s panics lane.work.deliveries (take place turns) (turn ∷ []) so_far.ps v.ps lane'.records v.rs so_far.goes goes));
        work_is = v.kept.work_is ∙ so_far.work_is;
        kept = λ t later.
            let after = names-next 0 turns (length lane.work.deliveries) is_work place t later in
            let order = (names-in 0 turns (length lane.work.deliveries) is_work place t next.inside).0 in
            let k = so_far.kept t next.inside in
            let same : turn ≡ get_or turns place t = next.turn_is ∙ get_or_default turns place turn t next.inside in
            let few : length v.rs ≤ (get_or turns place t).to - (get_or turns place t).from = subst (λ (x : Turn). length v.rs ≤ x.to - x.from) same v.few in
            let many : length lane''.records ≡ length lane'.records + length v.rs = ap length v.kept.records_are ∙ length-append lane'.records v.rs in
            omega arith;
        room = let a = so_far.room in let b = v.kept.room in omega arith;
      }

  -- a turn with which it ends
  pub fed-last : {new : SeatValue} {lane'' : LaneValue} {ends : Bool} → ends ≡ true → PlaysTurn Adds cur.board.setup panics cur new turn lane' lane'' ends → Feeds panics old new lane lane''
  fed-last {new} {lane''} {ends} off by =
      let v = subst (PlaysTurn Adds cur.board.setup panics cur new turn lane' lane'') off by in
      let last = subst (λ (w : Work). EndsScript s panics w.deliveries (turn ∷ []) v.ps v.rs) so_far.work_is (subst (λ (z : Setup). EndsScript z panics lane'.work.deliveries (turn ∷ []) v.ps v.rs) same-setup v.script) in
      let whole = goes-end s panics lane.work.deliveries (take place turns) (turn ∷ []) so_far.ps v.ps lane'.records v.rs so_far.goes last in
      let all : (take place turns ++ turn ∷ []) ++ drop (place + 1) turns ≡ turns = ap (λ (ts : List Turn). ts ++ drop (place + 1) turns) (sym one-more) ∙ take-append-drop (place + 1) turns in
      record {
        script = so_far.ps ++ v.ps;
        adds = adds-turn old cur new so_far.ps v.ps so_far.adds v.did v.one;
        plays = subst (λ (ts : List Turn). PlaysTurns s panics (turn_lists lane.work.deliveries ts) (so_far.ps ++ v.ps)) all (whole.plays (drop (place + 1) turns));
        records = ap (λ (ts : List Turn). script_records lane.work.deliveries ts (so_far.ps ++ v.ps)) (sym all) ∙ whole.records (drop (place + 1) turns) ∙ sym v.kept.records_are;
        work_is = v.kept.work_is ∙ so_far.work_is;
      }

-- after the last turn
pub fed-all : (panics : ℕ → Bool) (old cur : SeatValue) (lane lane' : LaneValue) (place : ℕ) → FedSoFar panics old cur lane lane' place → length lane.work.turns ≤ place → Feeds panics old cur lane lane'
fed-all panics old cur lane lane' place so_far all =
    let goes = subst (λ (ts : List Turn). GoesOn old.board.setup panics lane.work.deliveries ts so_far.ps lane'.records) (take_all place lane.work.turns all) so_far.goes in
    let whole = goes-whole old.board.setup panics lane.work.deliveries lane.work.turns so_far.ps lane'.records goes in
    record { script = so_far.ps; adds = so_far.adds; plays = whole.0; records = whole.1; work_is = so_far.work_is }
