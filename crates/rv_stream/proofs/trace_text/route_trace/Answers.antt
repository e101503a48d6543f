use Rattle.std.proofs.Common.{List, sym, subst}
use Rattle.rv_text.specs.TextLines.{LineText}
use Rattle.rv_stream.proofs.trace_text.route_trace.Goals as goal

pub take_trace-requires-clause-told : goal.take_trace-requires-clause-told
take_trace-requires-clause-told g c = subst (λ (lines : List LineText). g.O.LineObserver.observed c.args.context.now lines c.args.observer.now) (sym c.in-Ok.ensures.passed) c.requires.none
