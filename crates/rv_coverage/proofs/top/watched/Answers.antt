use Rattle.std.proofs.lemmas.Result.{err_from_is_err_and}
use Rattle.rv_coverage.proofs.top.watched.Goals as goal

pub returns-in_err-read-clause-comes : goal.returns-in_err-read-clause-comes
returns-in_err-read-clause-comes g c =
    let read = c.in_err-read in
    let given = err_from_is_err_and c.from_residual.result c.from_residual.ensures.1 in
    rw (given.1, given.2) (read.ensures.fails.fault, read.ensures.fails.named, read.ensures.some)

pub returns-in-Ok-clause-comes : goal.returns-in-Ok-clause-comes
returns-in-Ok-clause-comes g c =
    let found = c.in_ok-read.ensures.texts in
    let goes = c.in-Ok.ensures found.texts found.are in
    (λ files known. (found.texts, found.whole files known, goes), (found.texts, found.may, goes))
