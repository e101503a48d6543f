use Rattle.std.proofs.lemmas.Result.{err_from_is_err_and}
use Rattle.rv_bind.specs.BoundTexts.{bound_text_value}
use Rattle.rv_route.specs.Routed.{list_value}
use Rattle.rv_coverage.proofs.MayTextsLemmas.{texts_read, texts_unbound, texts_unrouted}
use Rattle.rv_coverage.proofs.TextsLemmas.{unbound_fails, unrouted_fails}
use Rattle.rv_coverage.proofs.covering.read_watched.Goals as goal

pub returns-in_err-text-clause-fails : goal.returns-in_err-text-clause-fails
returns-in_err-text-clause-fails g c =
    let given = err_from_is_err_and c.from_residual.result c.from_residual.ensures.1 in
    let words = c.args.command in
    rw (given.1, given.2) (unbound_fails (g.S.Store.files c.args.store.now) words.bindings.now words.trace.now bound_text_value _ _ _ c.in_err-text.field-0.0 c.in_err-text.ensures.reads)

pub returns-in_err-text-clause-some : goal.returns-in_err-text-clause-some
returns-in_err-text-clause-some g c =
    let given = err_from_is_err_and c.from_residual.result c.from_residual.ensures.1 in
    let words = c.args.command in
    rw (given.1, given.2) (texts_unbound words.bindings.now words.trace.now c.in_err-text.field-0.0 c.in_err-text.ensures.some)

pub returns-in_err-routed-clause-fails : goal.returns-in_err-routed-clause-fails
returns-in_err-routed-clause-fails g c =
    let given = err_from_is_err_and c.from_residual-in_err-routed.result c.from_residual-in_err-routed.ensures.1 in
    let words = c.args.command in
    let first = c.in_ok-text.ensures.reads in
    rw (given.1, given.2) (unrouted_fails (g.S.Store.files c.args.store.now) words.bindings.now words.trace.now (bound_text_value c.in_ok-text.field-0) first.value list_value _ _ _ _ _ c.in_err-routed.field-0.0 first.kept first.counts c.in_err-routed.ensures.reads)

pub returns-in_err-routed-clause-some : goal.returns-in_err-routed-clause-some
returns-in_err-routed-clause-some g c =
    let given = err_from_is_err_and c.from_residual-in_err-routed.result c.from_residual-in_err-routed.ensures.1 in
    let words = c.args.command in
    rw (given.1, given.2) (texts_unrouted words.bindings.now words.trace.now (bound_text_value c.in_ok-text.field-0) c.in_ok-text.ensures.some c.in_ok-text.ensures.formed c.in_err-routed.field-0.0 c.in_err-routed.ensures.some)

pub returns-clause-texts : goal.returns-clause-texts
returns-clause-texts g c =
    let words = c.args.command in
    let first = c.in_ok-text.ensures in
    texts_read (g.S.Store.files c.args.store.now) (g.S.Store.files c.read_bindings_with_text.new.store) words.bindings.now words.trace.now c.in_ok-text.field-0.text.items c.in_ok-text.field-0.bound c.in_ok-lines.lines c.in_ok-routed.routed c.read_list_observed.new.observer
    first.reads.value first.some first.formed c.in_ok-lines.ensures.lines first.reads.kept c.in_ok-routed.ensures.listed c.in_ok-routed.ensures.observed
