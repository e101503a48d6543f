use Rattle.std.proofs.Common.{◌≡◌, List, subst, sym, ap, ◌∙◌, arith}
use Rattle.std.specs.Prelude.{slice_index_or}
use Rattle.rv_model.specs.Setups.{Setup}
use Rattle.rv_model.specs.Table.{Table}
use Rattle.rv_bind.specs.WellFormed.{kinds_of, HaveTables}
use Rattle.rv_tool.specs.CountsFit.{monitors_fit_counts}
use Rattle.rv_tool.proofs.CountsFitLemmas.{narrow-at}
use Rattle.rv_tool.proofs.PreparedLemmas.{tables_counted}
use Rattle.rv_tool.proofs.WidthLemmas.{have-at, widths-next}
use Rattle.rv_tool.proofs.widths.widths_of.Goals as goal

pub width_of-requires-clause-narrow : goal.width_of-requires-clause-narrow
width_of-requires-clause-narrow c =
    let same : c.args.setup.now.tables ≡ c.as_slice-tables.result.now = sym (c.as_slice-tables.ensures.value ∙ ap (λ (s : Setup). s.tables) c.setup.view_is) in
    narrow-at c.args.monitors.now c.as_slice-tables.result.now c.loop-place.place c.index-monitors-place.result c.index-tables-place.result c.index-monitors-place.is c.index-tables-place.is c.loop-place-test.true
    (ap (monitors_fit_counts c.args.monitors.now) (sym same) ∙ c.requires.narrow)

pub width_of-requires-clause-table : goal.width_of-requires-clause-table
width_of-requires-clause-table c =
    let same : c.args.setup.now.tables ≡ c.as_slice-tables.result.now = sym (c.as_slice-tables.ensures.value ∙ ap (λ (s : Setup). s.tables) c.setup.view_is) in
    have-at c.args.monitors.now c.as_slice-tables.result.now c.loop-place.place c.index-monitors-place.result c.index-tables-place.result c.index-monitors-place.is c.index-tables-place.is c.loop-place-test.true
    (subst (HaveTables (kinds_of c.args.monitors.now)) same c.requires.tables)

pub loop-place-preserved : goal.loop-place-preserved
loop-place-preserved c =
    let tables : List Table = c.args.setup.now.tables in
    let place = c.loop-place.place in
    let within = c.loop-place-test.true in
    let same : c.as_slice-tables.result.now ≡ tables = c.as_slice-tables.ensures.value ∙ ap (λ (s : Setup). s.tables) c.setup.view_is in
    let many = tables_counted c.args.monitors.now tables c.requires.tables in
    let table_is : c.index-tables-place.result ≡ slice_index_or tables place c.index-tables-place.result = c.index-tables-place.is ∙ ap (λ (ts : List Table). slice_index_or ts place c.index-tables-place.result) same in
    widths-next c.args.monitors.now tables c.args.setup.now.starts place c.index-monitors-place.result c.index-tables-place.result c.loop-place.widths.items c.push.new.self.items c.width_of.result c.requires.starts c.index-monitors-place.is table_is within
    (omega arith) c.in_ok-push.ensures.items c.loop-place.invariant c.width_of.ensures
