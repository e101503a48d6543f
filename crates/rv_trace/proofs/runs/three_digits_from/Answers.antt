use Rattle.std.proofs.Common.{inl, sym, ◌∙◌}
use Rattle.rv_trace.proofs.RunLemmas.{three-end, three-number}
use Rattle.rv_trace.proofs.runs.three_digits_from.Goals as goal

pub returns-then-not-has-clause-end : goal.returns-then-not-has-clause-end
returns-then-not-has-clause-end c =
    three-end c.args.text.now c.args.from c.if-end-text.true (sym c.has.ensures ∙ c.if-has.true) (sym c.has-then-has.ensures ∙ c.if-has-2.true)
    (sym c.has-then-has-2.ensures ∙ c.if-has-3.true) (sym c.has-then-has-3.ensures ∙ c.if-not-has.true)

pub returns-then-not-has-clause-number : goal.returns-then-not-has-clause-number
returns-then-not-has-clause-number c =
    inl (
    three-number c.args.text.now c.args.from c.if-end-text.true (sym c.has.ensures ∙ c.if-has.true) (sym c.has-then-has.ensures ∙ c.if-has-2.true)
    (sym c.has-then-has-2.ensures ∙ c.if-has-3.true)
    )
