use Rattle.std.proofs.Common.{◌∙◌}
use Rattle.rv_tool.proofs.AnswerLemmas.{says_told}
use Rattle.rv_tool.proofs.top.unread.Goals as goal

pub returns-in-Ok : goal.returns-in-Ok
returns-in-Ok g c = says_told _ _ _ _ c.put_text.ensures (c.as_slice.ensures.value ∙ c.in-Ok.ensures) c.new.ensures
