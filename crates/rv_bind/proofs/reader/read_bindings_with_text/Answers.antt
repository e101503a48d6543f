use Rattle.std.proofs.lemmas.Result.{err_from_is_err_and}
use Rattle.rv_bind.specs.BoundTexts.{bound_text_value}
use Rattle.rv_bind.specs.BoundViews.{bound_value}
use Rattle.rv_bind.specs.Outcomes.{text_front}
use Rattle.rv_bind.proofs.BoundTextLemmas.{bound_reads, fails_reads, pair_reads, text_fails, text_may, text_unread, unread_reads}
use Rattle.rv_bind.proofs.reader.read_bindings_with_text.Goals as goal

pub returns-in_err-text-clause-reads : goal.returns-in_err-text-clause-reads
returns-in_err-text-clause-reads g c =
    let given = err_from_is_err_and c.from_residual.result c.from_residual.ensures.1 in
    rw (given.1, given.2) (unread_reads (λ text. text_front text.items) bound_text_value _ _ _ _ c.args.name.now c.in_err-text.field-0.0 c.in_err-text.ensures.reads)

pub returns-in_err-text-clause-bound : goal.returns-in_err-text-clause-bound
returns-in_err-text-clause-bound g c = bound_reads bound_text_value _ _ _ _ c.args.name.now _ (returns-in_err-text-clause-reads g c)

pub returns-in_err-text-clause-some : goal.returns-in_err-text-clause-some
returns-in_err-text-clause-some g c =
    let given = err_from_is_err_and c.from_residual.result c.from_residual.ensures.1 in
    rw (given.1, given.2) (text_unread c.args.name.now c.in_err-text.field-0.0 c.in_err-text.ensures.unread)

pub returns-in_err-bound-clause-reads : goal.returns-in_err-bound-clause-reads
returns-in_err-bound-clause-reads g c =
    let given = err_from_is_err_and c.from_residual-in_err-bound.result c.from_residual-in_err-bound.ensures.1 in
    let first = c.in_ok-text.ensures.reads in
    rw (given.1, given.2)
    (fails_reads bound_value bound_text_value _ _ _ _ _ _ c.args.name.now c.as_slice.result.now c.in_ok-text.text.items c.in_err-bound.field-0.0 c.as_slice.ensures.value first.kept first.counts first.value c.in_err-bound.ensures.reads)

pub returns-in_err-bound-clause-bound : goal.returns-in_err-bound-clause-bound
returns-in_err-bound-clause-bound g c = bound_reads bound_text_value _ _ _ _ c.args.name.now _ (returns-in_err-bound-clause-reads g c)

pub returns-in_err-bound-clause-some : goal.returns-in_err-bound-clause-some
returns-in_err-bound-clause-some g c =
    let given = err_from_is_err_and c.from_residual-in_err-bound.result c.from_residual-in_err-bound.ensures.1 in
    rw (given.1, given.2) (text_fails c.args.name.now c.as_slice.result.now c.in_ok-text.text.items c.as_slice.ensures.value c.in_err-bound.field-0.0 c.in_err-bound.ensures.some)

pub returns-clause-reads : goal.returns-clause-reads
returns-clause-reads g c =
    let first = c.in_ok-text.ensures.reads in
    pair_reads _ _ _ _ _ _ c.args.name.now c.as_slice.result.now c.in_ok-text.text c.in_ok-bound.bound c.as_slice.ensures.value first.kept first.counts first.value c.in_ok-bound.ensures.reads

pub returns-clause-bound : goal.returns-clause-bound
returns-clause-bound g c = bound_reads bound_text_value _ _ _ _ c.args.name.now _ (returns-clause-reads g c)

pub returns-clause-some : goal.returns-clause-some
returns-clause-some g c = text_may c.args.name.now c.as_slice.result.now c.in_ok-text.text.items c.as_slice.ensures.value (bound_value c.in_ok-bound.bound) c.in_ok-bound.ensures.some
