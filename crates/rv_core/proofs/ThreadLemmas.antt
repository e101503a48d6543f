-- A setup may be read by several threads at once.
use denote.Param.Send.{IsSync, view_sync, sendable}
use denote.Param.SendFields.{FieldsHave, as_row_sync, declared_sync}
use Rattle.std.proofs.CrossingOver.{crosses}
use Rattle.rv_slots.specs.contracts.shape.Shape as Shape
use Rattle.rv_table.proofs.ThreadLemmas.{table-sync}
use Rattle.rv_core.specs.contracts.setup.Setup as Setup
use Rattle.rv_core.specs.contracts.setup.Setup.TheInside as Inside

-- each field may be
fields-sync : FieldsHave IsSync Inside.the_type.parts
fields-sync =
    let table = table-sync in (
      as_row_sync Shape.the_field (search (sendable, crosses) depth 20),
      (search (sendable, crosses, as_row_sync) depth 20, (search (sendable, crosses) depth 20, (search (sendable, crosses) depth 20, tt))),
    )

-- a setup may be read by several threads at once
pub setup-sync : IsSync Setup.the_row
setup-sync = view_sync _ _ _ _ _ (declared_sync Inside.the_type fields-sync)
