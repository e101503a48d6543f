use Rattle.std.proofs.lemmas.Result.{err_from_is_err_and}
use Rattle.rv_bind.specs.Outcomes.{of_file}
use Rattle.rv_bind.specs.Possible.{Only}
use Rattle.rv_tool.specs.inner.Prepared.{prepared_value}
use Rattle.rv_tool.specs.Journals.{if_recordable}
use Rattle.rv_tool.specs.Possible.{MayInput}
use Rattle.rv_stream.proofs.PossibleLemmas.{only_may}
use Rattle.rv_tool.proofs.PossibleLemmas.{first_fails, next_comes}
use Rattle.rv_tool.proofs.journal.read_recordable.Goals as goal

pub returns-clause-some : goal.returns-clause-some
returns-clause-some g c =
    let bindings = c.args.bindings.now in
    next_comes (MayInput bindings c.args.trace.now) (λ i. Only (of_file bindings (if_recordable i))) (prepared_value c.in_ok-ready.ready) c.in_ok-ready.ensures.some prepared_value c.recordable.result
    (only_may prepared_value _ c.recordable.result c.recordable.ensures.value)

pub returns-in_err-ready-clause-some : goal.returns-in_err-ready-clause-some
returns-in_err-ready-clause-some g c =
    let bindings = c.args.bindings.now in
    let given = err_from_is_err_and c.from_residual.result c.from_residual.ensures.1 in
    rw (given.1, given.2) (first_fails (MayInput bindings c.args.trace.now) (λ i. Only (of_file bindings (if_recordable i))) c.in_err-ready.field-0.0 c.in_err-ready.ensures.some)
