use Rattle.std.proofs.Common.{◌∙◌, ap}
use Rattle.rv_text.specs.Places.{run_end}
use Rattle.rv_text.specs.declared.runs.ByteClass.TheVariants as kinds
use Rattle.rv_trace.specs.inner.LineParts.{end_from}
use Rattle.rv_trace.proofs.StampLemmas.{first-end, second-end}
use Rattle.rv_trace.proofs.parts.stamp_end.Goals as goal

pub returns-in-Some-clause-value : goal.returns-in-Some-clause-value
returns-in-Some-clause-value c =
    first-end c.args.text.now c.args.place c.in-Some.end (c.in-Some.ensures.value ∙ ap (end_from c.args.text.now) c.blanks_end-first.ensures.value)

pub returns-clause-value : goal.returns-clause-value
returns-clause-value c =
    let text = c.args.text.now in
    let first = c.blanks_end-first.ensures.value in
    c.second_stamp.ensures.value ∙ ap (λ n. end_from c.args.text.now (run_end kinds.Blank c.args.text.now (run_end kinds.Word c.args.text.now n))) first
    ∙ second-end c.args.text.now c.args.place (c.in_default.ensures.value ∙ ap (end_from c.args.text.now) first)
