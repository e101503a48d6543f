use Rattle.std.proofs.Common.{◌≡◌, true, get_or, sym, ◌∙◌, arith, inr, ◌+◌}
use Rattle.rv_text.specs.Places.{is_digit}
use Rattle.rv_text.specs.declared.runs.ByteClass.TheVariants as kinds
use Rattle.rv_text.proofs.LeastLemmas.{run_end-is}
use Rattle.rv_trace.proofs.RunLemmas.{AreOf-more, run_end-on, number-start, number-on, number-longer, run_end-past, digit-most}
use Rattle.rv_trace.proofs.runs.digits_from.Goals as goal

pub loop-end-init : goal.loop-end-init
loop-end-init c = (omega arith, c.requires, λ k l h. absurd (omega arith), sym (number-start c.args.text.now c.args.from), omega arith)

pub returns-then-number-gt-LAST_TENTH-clause-end : goal.returns-then-number-gt-LAST_TENTH-clause-end
returns-then-number-gt-LAST_TENTH-clause-end c =
    let kept = c.loop-end.invariant in
    c.too_large.ensures.end ∙ sym (run_end-on kinds.Digit c.args.text.now c.args.from c.loop-end.end kept.0 kept.1 kept.2)

pub returns-then-number-gt-LAST_TENTH-clause-number : goal.returns-then-number-gt-LAST_TENTH-clause-number
returns-then-number-gt-LAST_TENTH-clause-number c =
    let kept = c.loop-end.invariant in
    let text = c.args.text.now in
    let past = run_end-past kinds.Digit c.args.text.now c.loop-end.end c.loop-end-test.true (sym c.has.ensures ∙ c.if-has.true) in
    inr (
      omega (arith, c.too_large.ensures.number),
      omega (arith, number-longer c.args.text.now c.args.from (c.loop-end.end + 1) c.too_large.result.end (omega (arith, past, c.too_large.ensures.end)), number-on c.args.text.now c.args.from c.loop-end.end kept.0 c.loop-end-test.true),
    )

pub loop-end-preserved : goal.loop-end-preserved
loop-end-preserved c =
    let kept = c.loop-end.invariant in
    let digit : is_digit (get_or c.args.text.now c.loop-end.end 0) ≡ true = sym c.has.ensures ∙ c.if-has.true in (
      omega arith,
      omega arith,
      AreOf-more kinds.Digit c.args.text.now c.args.from c.loop-end.end kept.2 (sym c.has.ensures ∙ c.if-has.true),
      omega (arith, kept.3, number-on c.args.text.now c.args.from c.loop-end.end kept.0 c.loop-end-test.true),
      omega (arith, digit-most (get_or c.args.text.now c.loop-end.end 0) digit),
    )

pub returns-else-has-clause-end : goal.returns-else-has-clause-end
returns-else-has-clause-end c =
    let kept = c.loop-end.invariant in
    sym (run_end-is kinds.Digit c.args.text.now c.args.from c.loop-end.end kept.0 kept.1 kept.2 (λ _. sym c.has.ensures ∙ c.if-has.false))

pub returns-after-loop-end-clause-end : goal.returns-after-loop-end-clause-end
returns-after-loop-end-clause-end c =
    let kept = c.loop-end.invariant in
    sym (run_end-is kinds.Digit c.args.text.now c.args.from c.loop-end.end kept.0 kept.1 kept.2 (λ h. absurd (omega arith)))
