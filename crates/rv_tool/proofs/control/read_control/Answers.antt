use Rattle.std.proofs.lemmas.Result.{err_from_is_err_and}
use Rattle.rv_bind.specs.BoundViews.{bound_value}
use Rattle.rv_tool.specs.inner.SessionValues.{session_value}
use Rattle.rv_tool.proofs.BlamesLemmas.{control_behind_reads}
use Rattle.rv_tool.proofs.PossibleLemmas.{control_unbound, control_may}
use Rattle.rv_tool.proofs.control.read_control.Goals as goal

pub returns-clause-reads : goal.returns-clause-reads
returns-clause-reads g c =
    let files = g.S.Store.files in
    let faults = g.S.Store.faults in
    let first = c.in_ok-bound.ensures.reads in
    control_behind_reads (files c.args.store.now) (files c.read_bindings.new.store) (files c.run_script.new.store) (faults c.args.store.now) (faults c.read_bindings.new.store) (faults c.run_script.new.store)
    c.args.bindings.now (bound_value c.in_ok-bound.bound) session_value c.args.script.now c.run_script.result first.kept first.counts first.value c.run_script.ensures.reads

pub returns-in_err-bound-clause-some : goal.returns-in_err-bound-clause-some
returns-in_err-bound-clause-some g c =
    let given = err_from_is_err_and c.from_residual.result c.from_residual.ensures.1 in
    rw (given.1, given.2) (control_unbound c.args.bindings.now c.args.script.now c.in_err-bound.field-0.0 c.in_err-bound.ensures.some)

pub returns-clause-some : goal.returns-clause-some
returns-clause-some g c = control_may session_value c.args.bindings.now c.args.script.now (bound_value c.in_ok-bound.bound) c.run_script.result c.in_ok-bound.ensures.some c.in_ok-bound.ensures.formed c.run_script.ensures.some
