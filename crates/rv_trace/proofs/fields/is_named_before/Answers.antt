use Rattle.std.proofs.Common.{◌∙◌}
use Rattle.rv_trace.proofs.FieldLemmas.{named-before}
use Rattle.rv_trace.proofs.fields.is_named_before.Goals as goal

pub returns : goal.returns
returns c = c.begins.ensures ∙ named-before c.args.fields.now c.args.name.now c.args.place c.requires.equals
