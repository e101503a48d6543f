use Rattle.std.proofs.Common.{ap, ◌∙◌}
use Rattle.std.specs.Prelude.{Err}
use Rattle.rv_tool.proofs.AnswerLemmas.{refused_put, unread_put}
use Rattle.rv_tool.proofs.top.put_done.Goals as goal

pub returns-in-Err-Refused : goal.returns-in-Err-Refused
returns-in-Err-Refused g c = refused_put _ _ _ c.bytes.result.now c.in-Err-Refused.refusal (c.in-Err-Refused.is ∙ ap Err c.in-Err-Refused.field-0-is) c.bytes.ensures c.refused.ensures

pub returns-in-Err-Unread : goal.returns-in-Err-Unread
returns-in-Err-Unread g c = unread_put _ _ _ c.bytes-in-Err-Unread.result.now (c.in-Err-Unread.is ∙ ap Err c.in-Err-Unread.field-0-is) c.bytes-in-Err-Unread.ensures c.unread.ensures
