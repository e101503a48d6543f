use Rattle.std.proofs.Common.{◌∙◌, ap}
use Rattle.rv_text.specs.Places.{run_end}
use Rattle.rv_text.specs.declared.runs.ByteClass.TheVariants as kinds
use Rattle.rv_trace.specs.inner.LineParts.{end_from}
use Rattle.rv_trace.proofs.parts.second_stamp.Goals as goal

pub returns-clause-value : goal.returns-clause-value
returns-clause-value c =
    c.stamp_from.ensures.value ∙ ap (end_from c.args.text.now) (c.blanks_end-second.ensures.value ∙ ap (run_end kinds.Blank c.args.text.now) c.word_end.ensures.value)
