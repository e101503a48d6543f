-- Masks may be read by several threads at once. The search for this gives up on a formula, which holds others, so that each type on the way has its line.
use denote.Param.Send.{IsSync, view_sync, sendable}
use denote.Param.SendFields.{FieldsHave, as_row_sync, declared_sync}
use Rattle.std.proofs.Crossing.{crosses}
use Rattle.rv_model.specs.contracts.formula.Formula as Formula
use Rattle.rv_model.proofs.formula.Formula.TheLaws.TheKnot.{sync-Formula}
use Rattle.rv_labels.specs.contracts.cube.Cube as Cube
use Rattle.rv_labels.specs.contracts.masks.Masks as Masks
use Rattle.rv_labels.specs.contracts.masks.Masks.TheInside as Inside

-- a cube may be
cube-sync : IsSync Cube.the_row
cube-sync = search (sendable, crosses) depth 20

-- a formula may be
formula-sync : IsSync Formula.the_row
formula-sync = as_row_sync Formula.the_field (sync-Formula (search (sendable, crosses) depth 20) (λ h sync. search (sendable, crosses) depth 20))

-- the formula and the cubes may be
fields-sync : FieldsHave IsSync Inside.the_type.parts
fields-sync = (formula-sync, (let cube = cube-sync in search (sendable, crosses, as_row_sync) depth 20, tt))

-- masks may be
pub masks-sync : IsSync Masks.the_row
masks-sync = view_sync _ _ _ _ _ (declared_sync Inside.the_type fields-sync)
