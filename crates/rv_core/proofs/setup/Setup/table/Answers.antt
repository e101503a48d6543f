-- The slot's monitor has a table.
use Rattle.std.proofs.Common.{arith}
use Rattle.rv_core.proofs.PlaceLemmas.{place-below, table-read}
use Rattle.rv_core.proofs.setup.Setup.table.Goals as goal

pub index-requires : goal.index-requires
index-requires c =
    let b = place-below _ c.args.self.now c.self.view_is c.args.slot c.place-place.result.monitor c.requires c.place-place.ensures.monitor _ c.self.invariant.many in
    let len = c.self.inside.tables.ok.0 in omega arith

pub returns : goal.returns
returns c = table-read _ c.args.self.now c.self.view_is c.args.slot c.place-place.result.monitor c.requires c.place-place.ensures.monitor c.index.result.now c.self.invariant.many c.index.ensures
