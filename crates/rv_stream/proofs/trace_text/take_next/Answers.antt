use Rattle.std.proofs.Common.{◌≡◌, ◌≤◌, ◌+◌, ◌++◌, List, ℕ, take, arith, sym, subst}
use Rattle.std.specs.Prelude.{Err}
use Rattle.std.proofs.lemmas.Result.{err_from_is_err_and}
use Rattle.rv_io.specs.declared.store.TheConstants.{READ_LIMIT}
use Rattle.rv_bind.specs.BoundViews.{bound_value}
use Rattle.rv_bind.specs.Outcomes.{of_name, accepted}
use Rattle.rv_bind.proofs.OutcomeLemmas.{none_counted, fault_counted}
use Rattle.rv_bind.proofs.ReachedLemmas.{unread_named, file_named}
use Rattle.rv_route.specs.Routing.{RoutedValue}
use Rattle.rv_stream.specs.inner.Feeding.{FedOf}
use Rattle.rv_stream.specs.RoutedTraces.{routed_text, routed_in}
use Rattle.rv_stream.proofs.FeedingLemmas.{fed-more, fed-end, refused-comes}
use Rattle.rv_stream.proofs.PossibleLemmas.{trace_unread, trace_refused}
use Rattle.rv_stream.proofs.RefinesLemmas.{unread_comes}
use Rattle.rv_stream.proofs.trace_text.take_next.Goals as goal

pub returns-in-Ok-clause-fed : goal.returns-in-Ok-clause-fed
returns-in-Ok-clause-fed g c files known =
    let count = c.in_ok-count.count in
    subst (FedOf (files c.args.trace.now) (c.args.place + count)) (sym c.in-Ok.ensures.fed)
    (fed-more (g.S.Store.files c.args.store.now) c.args.trace.now c.args.place count c.args.routing.now.lines.fed c.args.buffer.now c.fetch.new.buffer c.requires.fed c.in_ok-count.ensures.piece files known)

pub returns-in-Ok-clause-all : goal.returns-in-Ok-clause-all
returns-in-Ok-clause-all g c zero room files known =
    let low : c.args.place ≤ READ_LIMIT = let most = c.requires.room in omega arith in
    subst (λ (t : List ℕ). of_name files c.args.trace.now accepted ≡ accepted t) (sym c.in-Ok.ensures.fed)
    (fed-end (g.S.Store.files c.args.store.now) c.args.trace.now c.args.place c.in_ok-count.count c.args.routing.now.lines.fed c.args.buffer.now c.fetch.new.buffer zero low room c.requires.fed c.in_ok-count.ensures.piece files known)

pub returns-in-Err-clause-fails : goal.returns-in-Err-clause-fails
returns-in-Err-clause-fails g c =
    let told = g.S.Store.files c.args.store.now in
    let trace = c.args.trace.now in
    let bound = bound_value c.args.bound.now in
    let count = c.in_ok-count.count in
    let low : c.args.place + count ≤ READ_LIMIT = let most = c.requires.room in let few = c.in_ok-count.ensures.room in omega arith in
    record {
      kept = c.in_ok-count.ensures.fails.kept;
      counts = none_counted {X = ℕ} _ _ (Err c.refused.result) c.in_ok-count.ensures.fails.counts;
      fault =
          refused-comes told trace bound c.args.place count c.args.routing.now.lines.fed c.args.buffer.now c.fetch.new.buffer (g.S.Store.faults c.args.store.now) (g.S.Store.faults c.fetch.new.store) c.in-Err.fault c.refused.result low
          c.requires.fed c.in_ok-count.ensures.piece c.in-Err.ensures.refused c.refused.ensures;
      named = file_named told RoutedValue trace c.in-Err.fault c.refused.result (λ files. routed_in files trace bound) c.refused.ensures;
    }

pub returns-in_err-count-clause-some : goal.returns-in_err-count-clause-some
returns-in_err-count-clause-some g c =
    let given = err_from_is_err_and c.from_residual.result c.from_residual.ensures.1 in
    rw (given.1, given.2) (trace_unread c.args.trace.now (bound_value c.args.bound.now) c.in_err-count.field-0.0 c.in_err-count.ensures.unread)

pub returns-in-Ok-clause-fails : goal.returns-in-Ok-clause-fails
returns-in-Ok-clause-fails g c = record {
  kept = c.in_ok-count.ensures.fails.kept;
  counts = c.in_ok-count.ensures.fails.counts;
  fault = tt;
  named = tt;
}

pub returns-in-Err-clause-some : goal.returns-in-Err-clause-some
returns-in-Err-clause-some g c =
    trace_refused c.args.trace.now (bound_value c.args.bound.now) (c.args.routing.now.lines.fed ++ take c.in_ok-count.count c.fetch.new.buffer) c.in-Err.fault c.refused.result c.in-Err.ensures.refused c.refused.ensures

pub returns-in_err-count-clause-fails : goal.returns-in_err-count-clause-fails
returns-in_err-count-clause-fails g c =
    let given = err_from_is_err_and c.from_residual.result c.from_residual.ensures.1 in
    let told = g.S.Store.files c.args.store.now in
    let trace = c.args.trace.now in
    let read = routed_text trace (bound_value c.args.bound.now) in
    let count = c.in_err-count in
    rw (given.1, given.2) record {
      kept = count.ensures.fails.kept;
      counts = fault_counted ℕ ℕ _ _ count.field-0.0 count.ensures.fails.counts;
      fault = unread_comes told trace read (g.S.Store.faults c.args.store.now) (g.S.Store.faults c.fetch.new.store) count.field-0.0 count.ensures.unread count.ensures.fails.fault;
      named = unread_named told ℕ trace read count.field-0.0 count.ensures.unread;
    }

pub take_piece-requires-clause-open : goal.take_piece-requires-clause-open
take_piece-requires-clause-open g c = c.requires.open

pub take_piece-requires-clause-told : goal.take_piece-requires-clause-told
take_piece-requires-clause-told g c = c.requires.told
