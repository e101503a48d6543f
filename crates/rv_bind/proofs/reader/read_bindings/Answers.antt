use Rattle.std.proofs.lemmas.Result.{err_from_is_err_and}
use Rattle.rv_bind.specs.BoundTexts.{bound_text_value}
use Rattle.rv_bind.specs.BoundViews.{bound_value}
use Rattle.rv_bind.specs.Bound.{bound_of}
use Rattle.rv_bind.specs.Outcomes.{accepted}
use Rattle.rv_bind.proofs.BoundTextLemmas.{bound_fails, bound_may}
use Rattle.rv_bind.proofs.ReadsLemmas.{fault_reads}
use Rattle.rv_bind.proofs.reader.read_bindings.Goals as goal

pub returns-in_err-read-clause-reads : goal.returns-in_err-read-clause-reads
returns-in_err-read-clause-reads g c =
    let given = err_from_is_err_and c.from_residual.result c.from_residual.ensures.1 in
    rw (given.1, given.2) (fault_reads (λ read. bound_value read.bound) bound_value _ _ _ _ c.in_err-read.field-0.0 (λ files. bound_of files c.args.name.now) c.in_err-read.ensures.bound)

pub returns-in_err-read-clause-some : goal.returns-in_err-read-clause-some
returns-in_err-read-clause-some g c =
    let given = err_from_is_err_and c.from_residual.result c.from_residual.ensures.1 in
    rw (given.1, given.2) (bound_fails c.args.name.now c.in_err-read.field-0.0 c.in_err-read.ensures.some)

pub returns-clause-some : goal.returns-clause-some
returns-clause-some g c = bound_may c.args.name.now (accepted (bound_text_value c.in_ok-read.read)) c.in_ok-read.ensures.some
