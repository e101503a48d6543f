-- A run of all scripts on one thread, between two turns.
use Rattle.std.specs.Prelude.{◌≡◌, ◌⊎◌, ℕ, ◌+◌, ◌^◌, ◌<◌, ◌≤◌, Bool, List, ◌++◌, map, take, length, reverse, All, AllPairs, Any, slice_index, slice_index_or, if◌then◌else◌}
use Rattle.rv_model.specs.declared.entry.Entry.{Entry}
use Rattle.rv_model.specs.declared.work.Turn.{Turn}
use Rattle.rv_model.specs.Cuts.{AtEach}
use Rattle.rv_model.specs.Histories.{IsNoStop, IsPermitted, IsInOrder, line_at, looks_of}
use Rattle.rv_model.specs.Records.{script_records}
use Rattle.rv_model.specs.inner.ScriptParts.{GoesOn}
use Rattle.rv_model.specs.Scripts.{Played, played, Plays}
use Rattle.rv_model.specs.Setups.{Setup}
use Rattle.rv_model.specs.Works.{IsWork}
use Rattle.rv_core.specs.Core.{CoreValue}
use Rattle.rv_core.specs.Setup.{judges_of}
use Rattle.rv_feed.specs.declared.order.NextTurn.{NextTurn}
use Rattle.rv_core.specs.Deliveries.{FitsDelivery}
use Rattle.rv_feed.specs.Lane.{LaneValue, works_of}
use Rattle.rv_feed.specs.Turns.{Did}
use Rattle.rv_feed.specs.inner.Turns.{PlaysTurn}

-- the index of a lane's next turn; `places` has one for each CPU
abbrev pub next_turn_of : List ℕ → LaneValue → ℕ
next_turn_of places lane = slice_index places lane.work.cpu

-- the lane has a next turn
abbrev pub IsPending : List ℕ → LaneValue → Type 0
IsPending places lane = next_turn_of places lane < length lane.work.turns

-- the trace line of a lane's next turn
abbrev pub next_line : List ℕ → LaneValue → ℕ
next_line places lane = slice_index (map (λ t. t.line) lane.work.turns) (next_turn_of places lane)

-- `line` is that of the lane's next turn, and 2 ^ 32 where it has none
pub record HasLine (places : List ℕ) (lane : LaneValue) (line : ℕ) : Type 0 where
  pub line_is : IsPending places lane → line ≡ next_line places lane
  pub range : IsPending places lane → line < 2 ^ 32
  pub few : line ≤ 2 ^ 32
  pub pending : line < 2 ^ 32 → IsPending places lane

-- for each lane, `lines` has the line of its next turn at the index of its CPU
abbrev pub HasLines : List ℕ → List ℕ → List LaneValue → Type 0
HasLines places lines lanes = All (λ l. HasLine places l (slice_index lines l.work.cpu)) lanes

-- `next` is a lane whose next turn has the least line, or has the line 2 ^ 32 where no lane has a next turn
pub record IsLeast (places : List ℕ) (lanes : List LaneValue) (next : NextTurn) : Type 0 where
  pub least : All (λ l. IsPending places l → (next.line ≤ next_line places l) × (next_line places l < 2 ^ 32)) lanes
  pub found : (next.line ≡ 2 ^ 32) ⊎ ((next.lane < length lanes) × ((d : LaneValue) → IsPending places (slice_index_or lanes next.lane d) × (next_line places (slice_index_or lanes next.lane d) ≡ next.line)))

-- the lane's turn at the index `place` was played, and `place'` is the index of its next one, past the end where the
-- script ends
pub record PlaysNext (panics : ℕ → Bool) (old new : CoreValue) (lane lane' : LaneValue) (place place' : ℕ) : Type 0 where
  pub is_work : IsWork lane.work
  pub turn : Turn
  pub turn_is : (t : Turn) → turn ≡ slice_index_or lane.work.turns place t
  pub ends : Bool
  pub plays : PlaysTurn (Did (2 + lane.work.cpu)) old.setup panics old new turn lane lane' ends
  pub place_is : place' ≡ (if ends then length lane.work.turns else place + 1)

-- the lane's turns before the index `place` were played, and its script goes on there
pub record Going (s : Setup) (panics : ℕ → Bool) (more : List Entry) (lane : LaneValue) (place : ℕ) (script : List Played) : Type 0 where
  pub goes : GoesOn s panics lane.work.deliveries (take place lane.work.turns) script lane.records
  pub looks : looks_of (2 + lane.work.cpu) more ≡ place
  pub kept : (t : Turn) → place < length lane.work.turns → length lane.records ≤ (slice_index_or lane.work.turns place t).from

-- the lane's script has ended, and its next index is past its turns
pub record HasEnded (s : Setup) (panics : ℕ → Bool) (lane : LaneValue) (place : ℕ) (script : List Played) : Type 0 where
  pub plays : Plays s panics lane.work script
  pub records : script_records lane.work.deliveries lane.work.turns script ≡ lane.records
  pub all : place ≡ length lane.work.turns

-- what holds of one lane between two turns, where every turn with a line below `from` is played
pub record LaneSoFar (s : Setup) (panics : ℕ → Bool) (old more : List Entry) (places : List ℕ) (from : ℕ) (lane : LaneValue) : Type 0 where
  pub script : List Played
  pub played_is : played s (judges_of s) (2 + lane.work.cpu) (reverse (old ++ more)) ≡ played s (judges_of s) (2 + lane.work.cpu) (reverse old) ++ script
  pub within : next_turn_of places lane ≤ length lane.work.turns
  pub state : Going s panics more lane (next_turn_of places lane) script ⊎ HasEnded s panics lane (next_turn_of places lane) script
  pub later : IsPending places lane → from ≤ next_line places lane
  pub room : length lane.work.deliveries ≤ lane.room
  pub cpu : lane.work.cpu < 64
  pub lines : AllPairs (λ t u. t.line < u.line) lane.work.turns
  pub fit : All (FitsDelivery s) lane.work.deliveries

-- what holds of all lanes between two turns: every turn with a line below `from` is played, and no other
pub record RunSoFar (panics : ℕ → Bool) (old new : CoreValue) (lanes lanes' : List LaneValue) (places : List ℕ) (from : ℕ) : Type 0 where
  pub more : List Entry
  pub grows : new ≡ record old { history = old.history ++ more }
  pub same_works : works_of lanes' ≡ works_of lanes
  pub count : length places ≡ 64
  pub lanes_are : All (LaneSoFar old.setup panics old.history more places from) lanes'
  pub nobody_else : AtEach (λ before e. Any (λ w. e.seat ≡ 2 + w.cpu) (works_of lanes)) more
  pub no_stop : AtEach (λ before e. IsNoStop e.act) more
  pub permitted : IsPermitted more
  pub in_order : IsInOrder (works_of lanes) more
  pub below : AtEach (λ before e. line_at (works_of lanes) before e < from) more
