use Rattle.std.proofs.Common.{sym, ◌∙◌, ap, arith}
use Rattle.rv_text.specs.Places.{has_class}
use Rattle.rv_text.specs.declared.runs.ByteClass.TheVariants as kinds
use Rattle.rv_text.proofs.LeastLemmas.{run_end-is}
use Rattle.rv_trace.proofs.RunLemmas.{blank_one}
use Rattle.rv_trace.proofs.runs.blanks_end.Goals as goal

pub returns-then-not-has-clause-value : goal.returns-then-not-has-clause-value
returns-then-not-has-clause-value c =
    sym (run_end-is kinds.Blank c.args.text.now c.args.from c.args.from (omega arith) c.requires (λ k l h. absurd (omega arith))
    (λ _. ap (has_class kinds.Blank) (sym c.byte_at.ensures.value) ∙ sym c.has.ensures ∙ c.if-not-has.true))

pub returns-then-not-has-2-clause-value : goal.returns-then-not-has-2-clause-value
returns-then-not-has-2-clause-value c =
    sym (blank_one c.args.text.now c.args.from c.requires
    (ap (has_class kinds.Blank) (sym c.byte_at.ensures.value) ∙ sym c.has.ensures ∙ c.if-not-has.false)
    (ap (has_class kinds.Blank) (sym c.byte_at-2.ensures.value) ∙ sym c.has-2.ensures ∙ c.if-not-has-2.true))
