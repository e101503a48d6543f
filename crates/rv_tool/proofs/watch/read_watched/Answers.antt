use Rattle.std.proofs.lemmas.Result.{err_from_is_err_and}
use Rattle.rv_tool.specs.inner.Prepared.{prepared_value}
use Rattle.rv_tool.specs.inner.WatchReports.{watch_value}
use Rattle.rv_bind.specs.Outcomes.{of_file}
use Rattle.rv_bind.specs.Possible.{Only}
use Rattle.rv_tool.specs.Possible.{MayInput}
use Rattle.rv_tool.specs.Watched.{watched_slot, watched_by}
use Rattle.rv_stream.proofs.PossibleLemmas.{only_may}
use Rattle.rv_tool.proofs.PossibleLemmas.{first_fails, next_comes}
use Rattle.rv_tool.proofs.watch.read_watched.Goals as goal

pub returns-clause-some : goal.returns-clause-some
returns-clause-some g c =
    let trace = c.args.trace.now in
    next_comes (MayInput c.args.bindings.now trace) (λ i. Only (of_file trace (watched_by i (watched_slot i c.args.monitor.now c.args.instance.now)))) (prepared_value c.in_ok-ready.ready) c.in_ok-ready.ensures.some watch_value c.find_slot.result
    (only_may watch_value _ c.find_slot.result c.find_slot.ensures.value)

pub returns-in_err-ready-clause-some : goal.returns-in_err-ready-clause-some
returns-in_err-ready-clause-some g c =
    let trace = c.args.trace.now in
    let given = err_from_is_err_and c.from_residual.result c.from_residual.ensures.1 in
    rw (given.1, given.2) (first_fails (MayInput c.args.bindings.now trace) (λ i. Only (of_file trace (watched_by i (watched_slot i c.args.monitor.now c.args.instance.now)))) c.in_err-ready.field-0.0 c.in_err-ready.ensures.some)
