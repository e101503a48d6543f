-- What a CPU does in one turn, on any machine.
use Rattle.std.specs.Prelude.{◌≡◌, ℕ, ◌-◌, Bool, List, [], ◌∷◌, ◌≤◌, filter, length, slice_range}
use Rattle.rv_model.specs.declared.entry.Act.TheVariants.{Look}
use Rattle.rv_model.specs.declared.entry.Answer.TheVariants.{Looked}
use Rattle.rv_model.specs.declared.entry.Entry.{Entry}
use Rattle.rv_model.specs.declared.record.Record.{Record}
use Rattle.rv_model.specs.declared.work.Turn.{Turn}
use Rattle.rv_model.specs.Histories.{look_count}
use Rattle.rv_model.specs.inner.ScriptParts.{TurnPart, ScriptOr}
use Rattle.rv_model.specs.Scripts.{Played, is_enabled_by}
use Rattle.rv_model.specs.Setups.{Setup}
use Rattle.rv_feed.specs.Lane.{LaneValue}
use Rattle.rv_feed.specs.inner.Lane.{AddsRecords}

-- none of what was played is a look
abbrev pub NoLooks : List Played → Type 0
NoLooks [] = Unit {0}
NoLooks (p ∷ ps) = (look_count p.0.act ≡ 0) × NoLooks ps

-- what was played begins with a look and has no other
abbrev pub IsOneTurn : List Played → Type 0
IsOneTurn [] = ⊥
IsOneTurn (p ∷ ps) = (p.0.act ≡ Look) × NoLooks ps

-- ---- a turn on any machine; `does old new ps` says that its CPU played these from the one value to the other

module _ {M : Type 0} (does : M → M → List Played → Type 0) where
  -- of a turn, the CPU made the look and those deliveries before the index `place` that the look enables
  pub record PartDone (s : Setup) (panics : ℕ → Bool) (old cur : M) (word : ℕ) (turn : Turn) (lane lane' : LaneValue) (place : ℕ) : Type 0 where
    pub look : Entry
    pub look_is : look.act ≡ Look
    pub ps : List Played
    pub rs : List Record
    pub did : does old cur ((look, Looked word) ∷ ps)
    pub quiet : NoLooks ps
    pub part : TurnPart s panics word turn.line (filter (is_enabled_by word) (slice_range lane.work.deliveries turn.from place)) ps rs
    pub kept : AddsRecords lane lane' rs
    pub few : length rs ≤ place - turn.from

  -- the CPU played a turn, to its end or to that of the script, and the lane has the records of it
  pub record PlaysTurn (s : Setup) (panics : ℕ → Bool) (old new : M) (turn : Turn) (lane lane' : LaneValue) (ends : Bool) : Type 0 where
    pub ps : List Played
    pub rs : List Record
    pub did : does old new ps
    pub script : ScriptOr ends s panics lane.work.deliveries (turn ∷ []) ps rs
    pub one : IsOneTurn ps
    pub kept : AddsRecords lane lane' rs
    pub few : length rs ≤ turn.to - turn.from
