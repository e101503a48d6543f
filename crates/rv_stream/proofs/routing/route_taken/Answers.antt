use Rattle.std.proofs.Common.{◌≡◌, ℕ, List, refl, ◌∙◌, sym, ap, subst, arith}
use Rattle.std.specs.Prelude.{Option, Some, Ok, IfSome}
use Rattle.std.proofs.lemmas.Result.{err_from_is_err_and}
use Rattle.rv_text.specs.TextLines.{lines_of}
use Rattle.rv_trace.specs.AnyLines.{IsReadOn, TakesNextAny}
use Rattle.rv_trace.specs.Lines.{LiesIn}
use Rattle.rv_trace.specs.Streams.{part_read}
use Rattle.rv_trace.specs.Traces.{trace_of}
use Rattle.rv_trace.specs.declared.line.TraceLine.{TraceLine}
use Rattle.rv_trace.specs.declared.taken.TakenLine.{TakenLine}
use Rattle.rv_route.specs.Routers.{refusal_of}
use Rattle.rv_stream.specs.inner.Pieces.{passed_text, IsRouted}
use Rattle.rv_stream.proofs.PiecesLemmas.{taken-ascends, taken-routed, late-stays}
use Rattle.rv_stream.proofs.ToldLemmas.{taken-next, told-more, skip-routed, refused-taken}
use Rattle.rv_stream.proofs.routing.route_taken.Goals as goal

pub returns-in_err-taken-clause-refused : goal.returns-in_err-taken-clause-refused
returns-in_err-taken-clause-refused g c =
    let given = err_from_is_err_and c.from_residual.result c.from_residual.ensures.1 in
    let same : trace_of (part_read c.loop-taken.lines.ended c.loop-taken.lines.fed) ≡ trace_of (part_read c.args.lines.now.ended c.args.lines.now.fed) =
    λ i. trace_of (part_read (c.loop-taken.invariant.1 i) (c.loop-taken.invariant.0 i)) in
    rw (given.1, given.2)
    (sym same ∙ refused-taken c.loop-taken.lines c.take_any.new.self c.args.bindings.now c.loop-taken.collector c.loop-taken.late c.loop-taken.invariant.2 c.in_err-taken.field-0.0 c.in_err-taken.ensures.takes)

pub line-requires-clause-ascends : goal.line-requires-clause-ascends
line-requires-clause-ascends g c =
    let old = c.loop-taken.lines in
    let new = c.take_any.new.self in
    let line = c.in-Some-found.line in
    let t = subst (λ (found : Option TakenLine). TakesNextAny old new (Ok found)) c.in-Some.is c.in_ok-taken.ensures.takes in
    taken-ascends c.args.bindings.now old new (Some line) line c.loop-taken.collector c.loop-taken.late refl (taken-next old new c.in-Some.taken line c.in-Some-found.is t) c.loop-taken.invariant.2

pub loop-taken-preserved-in-Err : goal.loop-taken-preserved-in-Err
loop-taken-preserved-in-Err g c =
    let old = c.loop-taken.lines in
    let new = c.take_any.new.self in
    let line = c.in-Some-found.line in
    let t = subst (λ (found : Option TakenLine). TakesNextAny old new (Ok found)) c.in-Some.is c.in_ok-taken.ensures.takes in
    let read : IsReadOn new.text c.in-Some.taken = subst (λ (found : Option TakenLine). IfSome found (IsReadOn new.text)) c.in-Some.is c.in_ok-taken.ensures.read in
    let lies : LiesIn new.text line = subst (λ (found : Option TraceLine). IfSome found (LiesIn new.text)) c.in-Some-found.is read.lies in (
      c.take_any.ensures.takes.fed ∙ c.loop-taken.invariant.0,
      c.take_any.ensures.takes.ended ∙ c.loop-taken.invariant.1,
      taken-routed c.args.bindings.now old new (Some line) line c.text-text.result.now c.loop-taken.collector c.line.new.self c.loop-taken.late (Some c.in-Err.fault) c.line.result
          refl (taken-next old new c.in-Some.taken line c.in-Some-found.is t) lies c.text-text.ensures c.loop-taken.invariant.2 c.line.ensures.takes c.line.ensures.made (sym (c.line.ensures.takes.noted ∙ ap refusal_of c.in-Err.is)),
      c.line.ensures.takes.listed ∙ c.loop-taken.invariant.3,
      told-more old new (g.O.LineObserver.observed c.args.context.now) c.in-Some.taken c.text-text.result.now c.loop-taken.observer c.observe.new.self c.text-text.ensures t c.in_ok-observe.ensures c.loop-taken.invariant.4,
    )

pub loop-taken-preserved-in_default-line : goal.loop-taken-preserved-in_default-line
loop-taken-preserved-in_default-line g c =
    let old = c.loop-taken.lines in
    let new = c.take_any.new.self in
    let line = c.in-Some-found.line in
    let t = subst (λ (found : Option TakenLine). TakesNextAny old new (Ok found)) c.in-Some.is c.in_ok-taken.ensures.takes in
    let read : IsReadOn new.text c.in-Some.taken = subst (λ (found : Option TakenLine). IfSome found (IsReadOn new.text)) c.in-Some.is c.in_ok-taken.ensures.read in
    let lies : LiesIn new.text line = subst (λ (found : Option TraceLine). IfSome found (LiesIn new.text)) c.in-Some-found.is read.lies in (
      c.take_any.ensures.takes.fed ∙ c.loop-taken.invariant.0,
      c.take_any.ensures.takes.ended ∙ c.loop-taken.invariant.1,
      taken-routed c.args.bindings.now old new (Some line) line c.text-text.result.now c.loop-taken.collector c.line.new.self c.loop-taken.late c.loop-taken.late c.line.result
          refl (taken-next old new c.in-Some.taken line c.in-Some-found.is t) lies c.text-text.ensures c.loop-taken.invariant.2 c.line.ensures.takes c.line.ensures.made
          (late-stays c.args.bindings.now c.text-text.result.now line c.loop-taken.collector c.line.new.self c.loop-taken.late c.line.result tt c.in_default-line.is c.loop-taken.invariant.2.late_is c.line.ensures.takes),
      c.line.ensures.takes.listed ∙ c.loop-taken.invariant.3,
      told-more old new (g.O.LineObserver.observed c.args.context.now) c.in-Some.taken c.text-text.result.now c.loop-taken.observer c.observe.new.self c.text-text.ensures t c.in_ok-observe.ensures c.loop-taken.invariant.4,
    )

pub loop-taken-preserved : goal.loop-taken-preserved
loop-taken-preserved g c =
    let old = c.loop-taken.lines in
    let new = c.take_any.new.self in
    let t = subst (λ (found : Option TakenLine). TakesNextAny old new (Ok found)) c.in-Some.is c.in_ok-taken.ensures.takes in (
      c.take_any.ensures.takes.fed ∙ c.loop-taken.invariant.0,
      c.take_any.ensures.takes.ended ∙ c.loop-taken.invariant.1,
      skip-routed old new c.args.bindings.now c.loop-taken.collector c.loop-taken.late c.loop-taken.invariant.2 c.in-Some.taken c.in_default-found.is t,
      c.loop-taken.invariant.3,
      told-more old new (g.O.LineObserver.observed c.args.context.now) c.in-Some.taken c.text-text.result.now c.loop-taken.observer c.observe.new.self c.text-text.ensures t c.in_ok-observe.ensures c.loop-taken.invariant.4,
    )

pub observe-requires-clause-so_far : goal.observe-requires-clause-so_far
observe-requires-clause-so_far g c = (lines_of (passed_text c.loop-taken.lines), c.loop-taken.invariant.4)

pub loop-taken-init : goal.loop-taken-init
loop-taken-init g c = (refl, refl, c.requires.routed, refl, c.requires.told)

pub line-requires-clause-made : goal.line-requires-clause-made
line-requires-clause-made g c = c.loop-taken.invariant.2.made

pub observe-requires-clause-read : goal.observe-requires-clause-read
observe-requires-clause-read g c =
    subst (λ (text : List ℕ). IsReadOn text c.in-Some.taken) (sym c.text-text.ensures)
    (subst (λ (found : Option TakenLine). IfSome found (IsReadOn c.take_any.new.self.text)) c.in-Some.is c.in_ok-taken.ensures.read)

pub observe-requires-clause-small : goal.observe-requires-clause-small
observe-requires-clause-small g c = rw c.text-text.ensures c.take_any.ensures.small

pub line-requires-clause-line : goal.line-requires-clause-line
line-requires-clause-line g c =
    let new = c.take_any.new.self in
    let read : IsReadOn new.text c.in-Some.taken = subst (λ (found : Option TakenLine). IfSome found (IsReadOn new.text)) c.in-Some.is c.in_ok-taken.ensures.read in
    let lies : LiesIn new.text c.in-Some-found.line = subst (λ (found : Option TraceLine). IfSome found (LiesIn new.text)) c.in-Some-found.is read.lies in
    let small = c.take_any.ensures.small in
    record { size = rw c.text-text.ensures (omega arith); lies = rw c.text-text.ensures lies }

pub returns-clause-routed : goal.returns-clause-routed
returns-clause-routed g c =
    let t = subst (λ (found : Option TakenLine). TakesNextAny c.loop-taken.lines c.take_any.new.self (Ok found)) c.in_default.is c.in_ok-taken.ensures.takes in
    subst (λ (text : List ℕ). IsRouted c.args.bindings.now text c.loop-taken.collector c.loop-taken.late) (sym t.answers.0) c.loop-taken.invariant.2

pub returns-clause-told : goal.returns-clause-told
returns-clause-told g c =
    let t = subst (λ (found : Option TakenLine). TakesNextAny c.loop-taken.lines c.take_any.new.self (Ok found)) c.in_default.is c.in_ok-taken.ensures.takes in
    subst (λ (text : List ℕ). g.O.LineObserver.observed c.args.context.now (lines_of text) c.loop-taken.observer) (sym t.answers.0) c.loop-taken.invariant.4
