-- Scripts so far, said by what may follow them. One thread and many feeders share these words.
use Rattle.std.specs.Prelude.{◌≡◌, ℕ, Bool, true, false, List, [], ◌++◌, map, filter, zip, slice_range}
use Rattle.rv_model.specs.declared.record.Record.{Record}
use Rattle.rv_model.specs.declared.work.Delivery.{Delivery}
use Rattle.rv_model.specs.declared.work.Turn.{Turn}
use Rattle.rv_model.specs.Records.{record_of, is_delivery, until_look, from_look, script_records}
use Rattle.rv_model.specs.Scripts.{Played, Delivers, PlaysTurns}
use Rattle.rv_model.specs.Setups.{Setup}

-- ---- a part of a turn, after its look, for some of the deliveries that it shows on

-- the records of deliveries that a look shows on
abbrev pub records_in : ℕ → ℕ → List Delivery → List Played → List Record
records_in line look ds ps = map (record_of line look) (zip ds (filter is_delivery ps))

-- the script goes on after it: whatever plays the rest, plays all with this before it
pub record TurnPart (s : Setup) (panics : ℕ → Bool) (look line : ℕ) (ds : List Delivery) (ps : List Played) (rs : List Record) : Type 0 where
  pub go : (rest : List Delivery) (turns : List (List Delivery)) (qs : List Played) → Delivers s panics look rest (PlaysTurns s panics turns) qs → Delivers s panics look (ds ++ rest) (PlaysTurns s panics turns) (ps ++ qs)
  pub until : (qs : List Played) → until_look (ps ++ qs) ≡ ps ++ until_look qs
  pub from : (qs : List Played) → from_look (ps ++ qs) ≡ from_look qs
  pub records : (rest : List Delivery) (qs : List Played) → records_in line look (ds ++ rest) (ps ++ qs) ≡ rs ++ records_in line look rest qs

-- the script ends with it, whatever deliveries and turns were to come
pub record LastPart (s : Setup) (panics : ℕ → Bool) (look line : ℕ) (ds : List Delivery) (ps : List Played) (rs : List Record) : Type 0 where
  pub go : (rest : List Delivery) (turns : List (List Delivery)) → Delivers s panics look (ds ++ rest) (PlaysTurns s panics turns) ps
  pub until : until_look ps ≡ ps
  pub from : from_look ps ≡ []
  pub records : (rest : List Delivery) → records_in line look (ds ++ rest) ps ≡ rs

-- the last part where the script ends, and a part where it goes on
abbrev pub PartOr : Bool → Setup → (ℕ → Bool) → ℕ → ℕ → List Delivery → List Played → List Record → Type 0
PartOr true = LastPart
PartOr false = TurnPart

-- ---- whole turns

-- the deliveries of each turn
abbrev pub turn_lists : List Delivery → List Turn → List (List Delivery)
turn_lists ds turns = map (λ t. slice_range ds t.from t.to) turns

-- the script goes on with any script of more turns
pub record GoesOn (s : Setup) (panics : ℕ → Bool) (ds : List Delivery) (turns : List Turn) (ps : List Played) (rs : List Record) : Type 0 where
  pub plays : (rest : List Turn) (qs : List Played) → PlaysTurns s panics (turn_lists ds rest) qs → PlaysTurns s panics (turn_lists ds (turns ++ rest)) (ps ++ qs)
  pub records : (rest : List Turn) (qs : List Played) → PlaysTurns s panics (turn_lists ds rest) qs → script_records ds (turns ++ rest) (ps ++ qs) ≡ rs ++ script_records ds rest qs

-- it is the whole script, whatever turns were to come
pub record EndsScript (s : Setup) (panics : ℕ → Bool) (ds : List Delivery) (turns : List Turn) (ps : List Played) (rs : List Record) : Type 0 where
  pub plays : (rest : List Turn) → PlaysTurns s panics (turn_lists ds (turns ++ rest)) ps
  pub records : (rest : List Turn) → script_records ds (turns ++ rest) ps ≡ rs

-- it is the whole script, or it goes on
abbrev pub ScriptOr : Bool → Setup → (ℕ → Bool) → List Delivery → List Turn → List Played → List Record → Type 0
ScriptOr true = EndsScript
ScriptOr false = GoesOn
