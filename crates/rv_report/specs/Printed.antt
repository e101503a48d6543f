-- Which records have a reaction that is printed.
use Rattle.std.specs.Prelude.{ℕ, Bool, false, is_some, List, Option, Some, None, slice_get, if◌then◌else◌}
use Rattle.rv_model.specs.declared.entry.Answer.TheVariants.{Failed}
use Rattle.rv_model.specs.declared.reactor.Reactor.{Reactor}
use Rattle.rv_model.specs.declared.record.Delivered.{Delivered}
use Rattle.rv_model.specs.declared.record.Delivered.TheVariants.{Done}
use Rattle.rv_model.specs.declared.record.Record.{Record}
use Rattle.rv_model.specs.Reactors.{reaction_front}
use Rattle.rv_model.specs.Reports.{Reported}

-- the rows in which the letter was not allowed, where the turn's look showed reacting on
abbrev pub set_if : Bool → Delivered → Option ℕ
set_if reacting (Done (Failed set)) = if reacting then Some set else None
set_if reacting _ = None

-- the rows of a record that has a reaction
abbrev pub failed_set : Record → Option ℕ
failed_set r = set_if r.reacting r.outcome

-- the record has a reaction where its monitor's reactor prints
abbrev pub has_reaction : Record → Bool
has_reaction r = is_some (failed_set r)

-- the reactor prints
abbrev pub is_loud : Reactor → Bool
is_loud reactor = is_some (reaction_front reactor)

-- some rows in which the letter was not allowed, and a monitor whose reactor prints
abbrev pub is_printing : Option ℕ → Option Reported → Bool
is_printing (Some set) (Some m) = is_loud m.reactor
is_printing _ _ = false

-- the record has a reaction that is printed
abbrev pub is_printed : List Reported → Record → Bool
is_printed monitors r = is_printing (failed_set r) (slice_get monitors r.monitor)
