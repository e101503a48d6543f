-- Events of the tests' automaton.
use Rattle.std.proofs.Common.{◌≡◌, ℕ, ◌<◌, arith}
use Rattle.rv_model.specs.declared.hit.Mode.{Mode}
use Rattle.rv_model.specs.declared.hit.What.TheVariants.{Da}
use Rattle.rv_model.specs.inner.EventTables.{event_count}
use Rattle.rv_model.specs.Table.{Table, of_events, of_labels}
use Rattle.rv_core.specs.Advance.{FitsKind}

-- an event fits a table that has so many
pub fits_event : (t : Table) (n event : ℕ) (m : Mode) → event_count t ≡ n → event < n → FitsKind t m (Da event)
fits_event (of_events count rows) n event m is lt = omega arith
fits_event (of_labels nodes) n event m is lt = absurd (omega arith)
