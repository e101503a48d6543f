use Rattle.std.proofs.lemmas.Result.{err_from_is_err_and}
use Rattle.rv_bind.specs.BoundViews.{bound_value}
use Rattle.rv_route.specs.Routed.{routed_value}
use Rattle.rv_tool.specs.inner.Prepared.{prepared_value}
use Rattle.rv_tool.proofs.BlamesLemmas.{input_behind_reads}
use Rattle.rv_tool.proofs.PossibleLemmas.{input_unbound, input_unrouted, input_may}
use Rattle.rv_tool.proofs.input.read_input.Goals as goal

pub returns-in_err-routed-clause-reads : goal.returns-in_err-routed-clause-reads
returns-in_err-routed-clause-reads g c =
    let files = g.S.Store.files in
    let faults = g.S.Store.faults in
    let first = c.in_ok-bound.ensures.reads in
    let fault = c.in_err-routed.field-0.0 in
    let given = err_from_is_err_and c.from_residual-in_err-routed.result c.from_residual-in_err-routed.ensures.1 in
    rw (given.1, given.2)
    (input_behind_reads (files c.args.store.now) (files c.read_bindings.new.store) (files c.read_routed.new.store) (faults c.args.store.now) (faults c.read_bindings.new.store) (faults c.read_routed.new.store)
    c.args.bindings.now (bound_value c.in_ok-bound.bound) routed_value prepared_value c.args.trace.now fault first.kept first.counts first.value c.in_err-routed.ensures.reads)

pub returns-in_err-routed-clause-some : goal.returns-in_err-routed-clause-some
returns-in_err-routed-clause-some g c =
    let given = err_from_is_err_and c.from_residual-in_err-routed.result c.from_residual-in_err-routed.ensures.1 in
    rw (given.1, given.2) (input_unrouted c.args.bindings.now c.args.trace.now (bound_value c.in_ok-bound.bound) c.in_ok-bound.ensures.some c.in_ok-bound.ensures.formed c.in_err-routed.field-0.0 c.in_err-routed.ensures.some)

pub returns-in_err-bound-clause-some : goal.returns-in_err-bound-clause-some
returns-in_err-bound-clause-some g c =
    let given = err_from_is_err_and c.from_residual.result c.from_residual.ensures.1 in
    rw (given.1, given.2) (input_unbound c.args.bindings.now c.args.trace.now c.in_err-bound.field-0.0 c.in_err-bound.ensures.some)

pub returns-in-Ok-clause-some : goal.returns-in-Ok-clause-some
returns-in-Ok-clause-some g c =
    input_may c.args.bindings.now c.args.trace.now (bound_value c.in_ok-bound.bound) c.in_ok-bound.ensures.some c.in_ok-bound.ensures.formed (routed_value c.in_ok-routed.routed) (prepared_value c.in-Ok.ready) c.in-Ok.ensures.value
    c.in_ok-routed.ensures.some c.in_ok-routed.ensures.fit c.in_ok-routed.ensures.rules
