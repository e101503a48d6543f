use Rattle.std.proofs.Common.{refl, ◌∙◌}
use Rattle.rv_dot.specs.Tokens.{front_of}
use Rattle.rv_dot.proofs.FrontLaws.{front-at}
use Rattle.rv_dot.proofs.front.front.Goals as goal

pub returns-in-47-clause-value : goal.returns-in-47-clause-value
unfolding front_of
returns-in-47-clause-value c = c.comment.ensures.value ∙ front-at c.args.starts_line c.args.bytes.now 47 c.in-len1-up.len_at_least c.in-47.is

pub returns-in-34-clause-value : goal.returns-in-34-clause-value
unfolding front_of
returns-in-34-clause-value c = c.string.ensures.value ∙ front-at c.args.starts_line c.args.bytes.now 34 c.in-len1-up.len_at_least c.in-34.is

pub returns-else-begins_with-clause-value : goal.returns-else-begins_with-clause-value
unfolding front_of
returns-else-begins_with-clause-value c =
    rw (← front-at c.args.starts_line c.args.bytes.now 45 c.in-len1-up.len_at_least c.in-45.is, front_of, ← c.begins_with.ensures, c.if-begins_with.false) refl
