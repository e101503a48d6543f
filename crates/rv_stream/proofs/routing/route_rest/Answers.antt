use Rattle.std.proofs.Common.{◌≡◌, List, ℕ, ap, ◌∙◌, subst}
use Rattle.std.specs.Prelude.{Option}
use Rattle.std.proofs.lemmas.Result.{err_from_is_err_and}
use Rattle.rv_text.specs.declared.refusals.Refused.{Refused}
use Rattle.rv_text.specs.TextLines.{lines_of}
use Rattle.rv_text.specs.Readings.{Refuses}
use Rattle.rv_text.proofs.ReadingLaws.{Refuses-and_then}
use Rattle.rv_trace.specs.Traces.{trace_of}
use Rattle.rv_route.specs.Routing.{route_of}
use Rattle.rv_trace.specs.Streams.{Stream, part_read}
use Rattle.rv_stream.specs.inner.Pieces.{passed_text, IsRouted}
use Rattle.rv_stream.proofs.PiecesLemmas.{late-refused}
use Rattle.rv_stream.proofs.routing.route_rest.Goals as goal

pub returns-in-None-clause-routed : goal.returns-in-None-clause-routed
returns-in-None-clause-routed g c =
    let taken = c.route_taken.new in
    let whole : passed_text taken.lines ≡ c.args.lines.fed = c.in_ok-route_taken.ensures.all ∙ ap (λ (s : Stream). part_read s.ended s.fed) c.finish.ensures in
    subst (λ (late : Option Refused). IsRouted c.args.bindings.now c.args.lines.fed taken.collector late) c.in-None.is
    (subst (λ (text : List ℕ). IsRouted c.args.bindings.now text taken.collector taken.late) whole c.in_ok-route_taken.ensures.routed)

pub returns-in-None-clause-told : goal.returns-in-None-clause-told
returns-in-None-clause-told g c =
    let taken = c.route_taken.new in
    let whole : passed_text taken.lines ≡ c.args.lines.fed = c.in_ok-route_taken.ensures.all ∙ ap (λ (s : Stream). part_read s.ended s.fed) c.finish.ensures in
    subst (λ (text : List ℕ). g.O.LineObserver.observed c.args.context.now (lines_of text) taken.observer) whole c.in_ok-route_taken.ensures.told

pub returns-clause-refused : goal.returns-clause-refused
returns-clause-refused g c =
    let taken = c.route_taken.new in
    let whole : passed_text taken.lines ≡ c.args.lines.fed = c.in_ok-route_taken.ensures.all ∙ ap (λ (s : Stream). part_read s.ended s.fed) c.finish.ensures in
    late-refused c.args.bindings.now c.args.lines.fed taken.collector taken.late c.in-Some.fault c.in-Some.is
    (subst (λ (text : List ℕ). IsRouted c.args.bindings.now text taken.collector taken.late) whole c.in_ok-route_taken.ensures.routed)

pub returns-in_err-route_taken-clause-refused : goal.returns-in_err-route_taken-clause-refused
returns-in_err-route_taken-clause-refused g c =
    let given = err_from_is_err_and c.from_residual.result c.from_residual.ensures.1 in
    let fault = c.in_err-route_taken.field-0.0 in
    rw (given.1, given.2)
    (Refuses-and_then fault (trace_of c.args.lines.fed) (route_of c.args.bindings.now.monitors.items c.args.bindings.now.rules.items c.args.lines.fed)
    (subst (λ (s : Stream). Refuses fault (trace_of (part_read s.ended s.fed))) c.finish.ensures c.in_err-route_taken.ensures.refused))
