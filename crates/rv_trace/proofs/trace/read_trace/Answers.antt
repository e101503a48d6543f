use Rattle.std.proofs.Common.{◌≡◌, Err, sym, ◌∙◌, ap}
use Rattle.std.proofs.lemmas.Result.{err_from_is_err_and}
use Rattle.std.proofs.lemmas.List.Elements.{All-rest}
use Rattle.std.specs.Prelude.{option_to_list}
use Rattle.rv_text.specs.TextLines.{line_text}
use Rattle.rv_text.specs.inner.LinePlaces.{StandsIn}
use Rattle.rv_text.proofs.LinesStand.{lines_of-stand}
use Rattle.rv_trace.specs.Traces.{all_read, trace_of}
use Rattle.rv_text.specs.Readings.{onto}
use Rattle.rv_trace.proofs.TraceLemmas.{all_read-none, all_read-ok, all_read-err, trace_of-lies}
use Rattle.rv_text.proofs.ReadingLaws.{onto-none, onto-onto}
use Rattle.rv_trace.proofs.trace.read_trace.Goals as goal

pub loop-line-init : goal.loop-line-init
unfolding trace_of
loop-line-init c = rw (c.new-lines.ensures.items, c.new-cursor.ensures) (onto-none _, lines_of-stand c.args.bytes.now)

pub loop-line-preserved : goal.loop-line-preserved
loop-line-preserved c =
    let line = line_text c.in-Some.line in
    let later = c.next_line.new.self in (
      c.loop-line.invariant.0
          ∙ ap (λ lines. onto c.loop-line.lines.items (all_read lines)) c.in-Some.ensures.some
          ∙ ap (onto c.loop-line.lines.items) (all_read-ok line later c.in_ok-read.read (sym c.reading_of.ensures ∙ c.in_ok-read.was))
          ∙ onto-onto c.loop-line.lines.items (option_to_list c.in_ok-read.read) (all_read later)
          ∙ ap (λ items. onto items (all_read later)) (sym c.in_ok-push_some.ensures),
      All-rest (StandsIn c.args.bytes.now) line later c.loop-line.cursor c.in-Some.ensures.some c.loop-line.invariant.1,
    )

pub returns-in_err-read-clause-value : goal.returns-in_err-read-clause-value
returns-in_err-read-clause-value c =
    let refused : trace_of c.args.bytes.now ≡ Err c.in_err-read.field-0.0 =
    c.loop-line.invariant.0
    ∙ ap (λ lines. onto c.loop-line.lines.items (all_read lines)) c.in-Some.ensures.some
    ∙ all_read-err (line_text c.in-Some.line) c.next_line.new.self c.loop-line.lines.items c.in_err-read.field-0.0 (sym c.reading_of.ensures ∙ c.in_err-read.was) in
    let given = err_from_is_err_and c.from_residual.result c.from_residual.ensures.1 in
    rw (given.1, given.2) refused

pub returns-clause-value : goal.returns-clause-value
returns-clause-value c =
    c.loop-line.invariant.0 ∙ ap (λ lines. onto c.loop-line.lines.items (all_read lines)) c.in_default.ensures.none.0 ∙ all_read-none c.loop-line.lines.items

pub returns-clause-within : goal.returns-clause-within
returns-clause-within c =
    trace_of-lies c.args.bytes.now c.loop-line.lines.items
    (c.loop-line.invariant.0 ∙ ap (λ lines. onto c.loop-line.lines.items (all_read lines)) c.in_default.ensures.none.0 ∙ all_read-none c.loop-line.lines.items)
