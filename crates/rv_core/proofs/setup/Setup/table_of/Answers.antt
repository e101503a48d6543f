-- The slot's monitor has a table.
use Rattle.std.proofs.Common.{◌≡◌, arith, subst, sym}
use Rattle.rv_model.specs.Setups.{Setup, monitor_of}
use Rattle.rv_core.proofs.PlaceLemmas.{place-below, table-read}
use Rattle.rv_core.proofs.setup.Setup.table_of.Goals as goal

-- the monitor is the slot's, by the setup's fields
own : (c : goal.After-index) → c.args.monitor ≡ monitor_of c.self.inside.shape c.args.slot
own c = let P : Setup → Type 0 = λ v. c.args.monitor ≡ monitor_of v.shape c.args.slot in subst P (sym c.self.view_is) c.requires.monitor

pub index-requires : goal.index-requires
index-requires c =
    let P : Setup → Type 0 = λ v. c.args.monitor ≡ monitor_of v.shape c.args.slot in
    let b = place-below _ c.args.self.now c.self.view_is c.args.slot c.args.monitor c.requires.slot (subst P (sym c.self.view_is) c.requires.monitor) _ c.self.invariant.many in
    let len = c.self.inside.tables.ok.0 in omega arith

pub returns : goal.returns
returns c = table-read _ c.args.self.now c.self.view_is c.args.slot c.args.monitor c.requires.slot (own c) c.index.result.now c.self.invariant.many c.index.ensures
