-- Parts of an input: other inputs with the same deliveries to some instances, whose lines, orders and instances may have other numbers there.
use Rattle.std.specs.Prelude.{◌≡◌, ◌≢◌, ℕ, ◌<◌, ◌≤◌, Bool, List, map, filter, flat_map, slice_range, AllPairs}
use Rattle.rv_model.specs.declared.entry.Entry.{Entry}
use Rattle.rv_model.specs.declared.record.Record.{Record}
use Rattle.rv_model.specs.declared.work.Delivery.{Delivery}
use Rattle.rv_model.specs.Histories.{Input, IsOneHistory, AreJudges, LinesApart}
use Rattle.rv_model.specs.Judging.{Judge}
use Rattle.rv_model.specs.Records.{records_of}
use Rattle.rv_model.specs.Works.{Work}
use Rattle.rv_laws.specs.SingleWriter.{HasInstance, HaveInstances}
use Rattle.rv_laws.specs.Verdicts.{IsSteady}

-- ---- deliveries with their CPUs and lines

-- a delivery, with its CPU and the line of its turn
pub record Placed : Type 0 where
  pub cpu : ℕ
  pub line : ℕ
  pub delivery : Delivery

-- the deliveries of a work, turn by turn
abbrev pub placed_of : Work → List Placed
placed_of w = flat_map (λ t. map (λ d. record { cpu = w.cpu; line = t.line; delivery = d }) (slice_range w.deliveries t.from t.to)) w.turns

-- the deliveries of all works, work by work
abbrev pub placed_in : List Work → List Placed
placed_in works = flat_map placed_of works

-- ---- the numbers of a part

-- which line, which order and which instance of a monitor of the whole is meant by a number of the part
pub record Numbering : Type 0 where
  pub line : ℕ → ℕ
  pub order : ℕ → ℕ
  pub instance_of : ℕ → ℕ → ℕ

-- lines keep their order, different orders theirs, and different instances of a monitor stay different
pub record KeepsApart (n : Numbering) (shape : List ℕ) : Type 0 where
  pub lines : (a b : ℕ) → a ≤ b → n.line a ≤ n.line b
  pub orders : (a b : ℕ) → a < b → n.order a < n.order b
  pub instances : (monitor a b : ℕ) → HasInstance shape monitor a → HasInstance shape monitor b → n.instance_of monitor a ≡ n.instance_of monitor b → a ≡ b

-- a delivery of the part, as the whole has it
abbrev pub delivery_in : Numbering → Delivery → Delivery
delivery_in n d = record { order = n.order d.order; monitor = d.monitor; instance = n.instance_of d.monitor d.instance; hit = d.hit }

-- the same with its CPU and its line
abbrev pub placed_by : Numbering → Placed → Placed
placed_by n p = record { cpu = p.cpu; line = n.line p.line; delivery = delivery_in n p.delivery }

-- a record of the part, as the whole has it
abbrev pub record_in : Numbering → Record → Record
record_in n r = record { order = n.order r.order; line = n.line r.line; monitor = r.monitor; instance = n.instance_of r.monitor r.instance; hit = r.hit; outcome = r.outcome; reacting = r.reacting }

-- ---- parts

-- the delivery is to an instance that is kept
abbrev pub keeps : (ℕ → ℕ → Bool) → Placed → Bool
keeps keep p = keep p.delivery.monitor p.delivery.instance

-- the record is of an instance that is kept
abbrev pub is_kept : (ℕ → ℕ → Bool) → Record → Bool
is_kept keep r = keep r.monitor r.instance

-- to the instances that are kept the part and the whole have the same deliveries, CPU by CPU and in their order; of others nothing is said. The specifications, the tables, the starting levels and the opening switches are the whole's
pub record IsPartOf (n : Numbering) (keep : ℕ → ℕ → Bool) (whole part : Input) : Type 0 where
  pub deliveries : filter (keeps keep) (map (placed_by n) (placed_in part.works)) ≡ filter (keeps keep) (placed_in whole.works)
  pub specs : part.specs ≡ whole.specs
  pub tables : part.setup.tables ≡ whole.setup.tables
  pub starts : part.setup.starts ≡ whole.setup.starts
  pub switches : part.setup.switches ≡ whole.setup.switches

-- nothing changes the switches, each CPU has one work, no line is two CPUs', and every delivery is to an instance that the setup has
pub record IsPlain (input : Input) : Type 0 where
  pub steady : IsSteady input
  pub cpus : AllPairs (λ w v. w.cpu ≢ v.cpu) input.works
  pub apart : LinesApart input.works
  pub instances : HaveInstances input.setup.shape input.works

-- a part of an input with the numbers that it has there, and a history of one thread of each
pub record ArePlayed (n : Numbering) (keep : ℕ → ℕ → Bool) (whole part : Input) (js ks : List Judge) (h k : List Entry) : Type 0 where
  pub plain : IsPlain whole
  pub part_plain : IsPlain part
  pub numbers : KeepsApart n part.setup.shape
  pub is_part : IsPartOf n keep whole part
  pub judges : AreJudges whole.specs whole.setup.tables js
  pub part_judges : AreJudges part.specs part.setup.tables ks
  pub history : IsOneHistory whole js h
  pub part_history : IsOneHistory part ks k

-- a law: of the instances that are kept the whole and the part have the same records
abbrev pub PartHasItsRecords : Type 0
PartHasItsRecords = (n : Numbering) (keep : ℕ → ℕ → Bool) (whole part : Input) (js ks : List Judge) (h k : List Entry) → ArePlayed n keep whole part js ks h k → filter (is_kept keep) (records_of whole js h) ≡ filter (is_kept keep) (map (record_in n) (records_of part ks k))
