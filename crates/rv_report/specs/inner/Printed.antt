-- The text of a reaction that is printed.
use Rattle.std.specs.Prelude.{ℕ, List}
use Rattle.rv_model.specs.declared.record.Record.{Record}
use Rattle.rv_model.specs.declared.record.Task.{Task}
use Rattle.rv_model.specs.Reports.{Reported, instance_text, fault_text, reaction_text}

-- what the monitor's reactor prints of a record that failed in these rows
abbrev pub reaction_to : Reported → List Task → Record → ℕ → List ℕ
reaction_to m tasks r set = reaction_text m.reactor (instance_text tasks m r.instance) (fault_text m.spec r.hit.what set) r.line
