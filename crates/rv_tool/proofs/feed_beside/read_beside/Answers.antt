use Rattle.std.proofs.lemmas.Result.{err_from_is_err_and}
use Rattle.rv_tool.specs.inner.Prepared.{prepared_value}
use Rattle.rv_tool.specs.Possible.{MayInput}
use Rattle.rv_tool.proofs.BesideLemmas.{beside_behind_reads}
use Rattle.rv_tool.proofs.PossibleLemmas.{changed, first_fails, beside_may, beside_fails}
use Rattle.rv_tool.proofs.feed_beside.read_beside.Goals as goal

pub returns-in-Err-clause-reads : goal.returns-in-Err-clause-reads
returns-in-Err-clause-reads g c =
    let files = g.S.Store.files in
    let faults = g.S.Store.faults in
    let first = c.in_ok-ready.ensures.reads in
    beside_behind_reads (λ changes. changes.items) prepared_value (files c.args.store.now) (files c.read_input.new.store) (files c.read_changes.new.store) (faults c.args.store.now) (faults c.read_input.new.store) (faults c.read_changes.new.store)
    c.args.bindings.now c.args.trace.now c.args.script.now (prepared_value c.in_ok-ready.ready) c.in-Err.fault first.kept first.counts first.value c.in-Err.ensures.reads

pub returns-in_err-ready-clause-some : goal.returns-in_err-ready-clause-some
returns-in_err-ready-clause-some g c =
    let given = err_from_is_err_and c.from_residual.result c.from_residual.ensures.1 in
    rw (given.1, given.2) (first_fails (MayInput c.args.bindings.now c.args.trace.now) (changed c.args.script.now) c.in_err-ready.field-0.0 c.in_err-ready.ensures.some)

pub returns-in-Ok-clause-some : goal.returns-in-Ok-clause-some
returns-in-Ok-clause-some g c = beside_may c.args.bindings.now c.args.trace.now c.args.script.now (prepared_value c.in_ok-ready.ready) c.in_ok-ready.ensures.some c.in-Ok.changes.items c.in-Ok.ensures.some

pub returns-in-Err-clause-some : goal.returns-in-Err-clause-some
returns-in-Err-clause-some g c = beside_fails c.args.bindings.now c.args.trace.now c.args.script.now (prepared_value c.in_ok-ready.ready) c.in_ok-ready.ensures.some c.in-Err.fault c.in-Err.ensures.some
