use Rattle.std.proofs.Common.{ap, ◌∙◌}
use Rattle.std.specs.Prelude.{bytes_eq}
use Rattle.rv_trace.proofs.held_word.HeldWord.is_far.Goals as goal

pub returns : goal.returns
returns c = c.eq.ensures ∙ ap (bytes_eq c.args.word.now) (c.bytes.ensures ∙ c.self.view_is)
