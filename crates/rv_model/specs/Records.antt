-- What a history shows of each delivery.
use Rattle.std.specs.Prelude.{ℕ, ◌+◌, max, Bool, true, false, ◌==◌, List, [], ◌∷◌, ◌++◌, filter, map, zip, reverse, flat_map, slice_range, if◌then◌else◌}
use Rattle.std.specs.List.{list_any}
use Rattle.rv_model.specs.declared.entry.Act.{Act}
use Rattle.rv_model.specs.declared.entry.Act.TheVariants.{Deliver, Stop, Look, End}
use Rattle.rv_model.specs.declared.entry.Entry.{Entry}
use Rattle.rv_model.specs.declared.entry.Answer.{Answer}
use Rattle.rv_model.specs.declared.entry.Answer.TheVariants.{Ended, Looked}
use Rattle.rv_model.specs.declared.work.Delivery.{Delivery}
use Rattle.rv_model.specs.declared.work.Turn.{Turn}
use Rattle.rv_model.specs.declared.record.Delivered.{Delivered}
use Rattle.rv_model.specs.declared.record.Delivered.TheVariants.{Done, Racing}
use Rattle.rv_model.specs.declared.record.Record.{Record}
use Rattle.rv_model.specs.Numbers.{has_bit, list_of}
use Rattle.rv_model.specs.Judging.{Judge}
use Rattle.rv_model.specs.Scripts.{Played, played, is_enabled_by, fails}
use Rattle.rv_model.specs.Histories.{Input}

-- ---- one script

-- the act is a look
abbrev pub is_look_act : Act → Bool
is_look_act Look = true
is_look_act _ = false

-- the act makes a delivery
abbrev pub is_delivery_act : Act → Bool
is_delivery_act (Deliver _ _) = true
is_delivery_act (Stop _) = true
is_delivery_act (End _) = true
is_delivery_act _ = false

-- the entry is a look
abbrev pub is_look : Played → Bool
is_look p = is_look_act p.0.act

-- the entry makes a delivery
abbrev pub is_delivery : Played → Bool
is_delivery p = is_delivery_act p.0.act

-- the entries before the next look
abbrev pub until_look : List Played → List Played
until_look [] = []
until_look (p ∷ ps) = if is_look p then [] else p ∷ until_look ps

-- the entries from the next look on
abbrev pub from_look : List Played → List Played
from_look [] = []
from_look (p ∷ ps) = if is_look p then p ∷ ps else from_look ps

-- a Stop is Racing, and every other act is done with its answer
abbrev pub outcome_of : Act → Answer → Delivered
outcome_of (Stop _) a = Racing
outcome_of _ a = Done a

-- the switches that a look showed
abbrev pub look_word : Answer → ℕ
look_word (Looked word) = word
look_word _ = 0

-- the record of a delivery and its entry, by the line and the look of its turn
abbrev pub record_of : ℕ → ℕ → Delivery × Played → Record
record_of line look (d, p) = record { order = d.order; line = line; monitor = d.monitor; instance = d.instance; hit = d.hit; outcome = outcome_of p.0.act p.1; reacting = has_bit look 33 }

-- the j-th delivery, stop or end of a turn makes the j-th of the deliveries that its look shows on
abbrev pub turn_records : ℕ → ℕ → List Delivery → List Played → List Record
turn_records line look ds ps = map (record_of line look) (zip (filter (is_enabled_by look) ds) (filter is_delivery ps))

-- the records of a script, turn by turn
abbrev pub script_records : List Delivery → List Turn → List Played → List Record
script_records ds [] ps = []
script_records ds (t ∷ turns) [] = []
script_records ds (t ∷ turns) (p ∷ ps) = turn_records t.line (look_word p.1) (slice_range ds t.from t.to) (until_look ps) ++ script_records ds turns (from_look ps)

-- ---- the whole history

-- the records with this order, as they stand
abbrev pub records_with : ℕ → List Record → List Record
records_with order rs = filter (λ r. r.order == order) rs

-- the least number above all orders
abbrev pub order_end : List Record → ℕ
order_end [] = 0
order_end (r ∷ rs) = max (r.order + 1) (order_end rs)

-- the records with order 0, then those with order 1, and so on
unfoldable pub sort_records : List Record → List Record
sort_records rs = flat_map (λ order. records_with order rs) (list_of (λ order. order) (order_end rs))

-- the records of a history, ascending by order
abbrev pub records_of : Input → List Judge → List Entry → List Record
records_of input js h = sort_records (flat_map (λ w. script_records w.deliveries w.turns (played input.setup js (2 + w.cpu) (reverse h))) input.works)

-- the outcome is a failure
abbrev pub failed_outcome : Delivered → Bool
failed_outcome (Done a) = fails a
failed_outcome Racing = false

-- the outcome is Racing
abbrev pub racing_outcome : Delivered → Bool
racing_outcome (Done a) = false
racing_outcome Racing = true

-- the outcome is an end
abbrev pub ended_outcome : Delivered → Bool
ended_outcome (Done Ended) = true
ended_outcome _ = false

-- the delivery failed
abbrev pub is_failure : Record → Bool
is_failure r = failed_outcome r.outcome

-- the delivery stopped its instance
abbrev pub is_stopped : Record → Bool
is_stopped r = racing_outcome r.outcome

-- the delivery ended its instance
abbrev pub is_ended : Record → Bool
is_ended r = ended_outcome r.outcome

-- 1 where a delivery failed, else 6 where one stopped its instance, else 0
abbrev pub status_of : List Record → ℕ
status_of rs = if list_any is_failure rs then 1 else if list_any is_stopped rs then 6 else 0
