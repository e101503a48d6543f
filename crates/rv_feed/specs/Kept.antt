-- What is kept of a delivery.
use Rattle.std.specs.Prelude.{ℕ, Bool}
use Rattle.rv_model.specs.declared.record.Delivered.{Delivered}
use Rattle.rv_model.specs.declared.record.Record.{Record}
use Rattle.rv_model.specs.declared.work.Delivery.{Delivery}

-- the record of a delivery that a turn of this line made, with what came of it
abbrev pub record_on : ℕ → Delivered → Bool → Delivery → Record
record_on line outcome reacting d = record { order = d.order; line = line; monitor = d.monitor; instance = d.instance; hit = d.hit; outcome = outcome; reacting = reacting }
