use Rattle.std.proofs.Common.{sym, ◌∙◌}
use Rattle.rv_trace.proofs.StampLemmas.{stamp-is, stamp-is_not}
use Rattle.rv_trace.proofs.parts.stamp_from.Goals as goal

pub returns-then-is_word_end-clause-value : goal.returns-then-is_word_end-clause-value
returns-then-is_word_end-clause-value c =
    stamp-is c.args.text.now c.args.from c.in_ok-end.end c.in_ok-end.ensures.high (c.in_ok-end.ensures.value) (sym c.is_word_end.ensures ∙ c.if-is_word_end.true)

pub returns-else-is_word_end-clause-value : goal.returns-else-is_word_end-clause-value
returns-else-is_word_end-clause-value c =
    stamp-is_not c.args.text.now c.args.from c.in_ok-end.end c.in_ok-end.ensures.high c.requires (c.in_ok-end.ensures.value) (sym c.is_word_end.ensures ∙ c.if-is_word_end.false)
