use Rattle.std.proofs.Common.{◌≡◌, ◌-◌, ◌≤◌, ◌<◌, ℕ, true, inl, inr, get_or, sym, ◌∙◌, subst, arith}
use Rattle.std.proofs.lemmas.Bool.{cases_lt}
use Rattle.rv_text.specs.Places.{is_digit}
use Rattle.rv_text.specs.declared.runs.ByteClass.TheVariants as kinds
use Rattle.rv_text.proofs.LeastLemmas.{run_end-is}
use Rattle.rv_matches.specs.declared.short_times.TheConstants.{SHORT}
use Rattle.rv_matches.proofs.ShortLemmas.{digit_more, power_fits, power_more}
use Rattle.rv_matches.proofs.TimeLemmas.{digit-high}
use Rattle.rv_matches.proofs.short_times.digits_from.Goals as goal

pub overflow_mul-number : goal.overflow_mul-number
overflow_mul-number c =
    let short : c.loop-end.end < SHORT = omega (arith, c.requires.short, c.loop-end-test.true) in
    let fits = power_fits c.loop-end.number c.loop-end.end c.loop-end.invariant.small short in
    omega arith

pub overflow_add-number : goal.overflow_add-number
overflow_add-number c =
    let short : c.loop-end.end < SHORT = omega (arith, c.requires.short, c.loop-end-test.true) in
    let fits = power_fits c.loop-end.number c.loop-end.end c.loop-end.invariant.small short in
    let byte = get_or c.args.stamp.now c.loop-end.end 0 in
    let few : byte - 48 ≤ 9 = digit-high byte (sym c.has.ensures ∙ c.if-has.true) in
    omega arith

pub loop-end-preserved : goal.loop-end-preserved
loop-end-preserved c =
    let stamp = c.args.stamp.now in
    let from = c.args.from in
    let end = c.loop-end.end in
    let kept = c.loop-end.invariant in
    let byte = get_or stamp end 0 in
    let digit : is_digit byte ≡ true = sym c.has.ensures ∙ c.if-has.true in
    let low : from ≤ end = kept.low in
    record {
      low = omega (arith, low);
      high = omega (arith, c.loop-end-test.true);
      digits = λ k l h. elim (cases_lt k end) [
        | inl before ↦ kept.digits k l before
        | inr here ↦ subst (λ (j : ℕ). is_digit (get_or stamp j 0) ≡ true) (let e : end ≡ k = omega arith in e) digit
      ];
      number = digit_more stamp from end c.args.before c.loop-end.number low c.loop-end-test.true kept.number;
      small = power_more c.loop-end.number (byte - 48) end kept.small (digit-high byte digit);
    }

pub returns-else-has-clause-end : goal.returns-else-has-clause-end
returns-else-has-clause-end c =
    let kept = c.loop-end.invariant in
    sym (run_end-is kinds.Digit c.args.stamp.now c.args.from c.loop-end.end kept.low kept.high kept.digits (λ _. sym c.has.ensures ∙ c.if-has.false))

pub returns-after-loop-end-clause-end : goal.returns-after-loop-end-clause-end
returns-after-loop-end-clause-end c =
    let kept = c.loop-end.invariant in
    sym (run_end-is kinds.Digit c.args.stamp.now c.args.from c.loop-end.end kept.low kept.high kept.digits (λ h. absurd (omega arith)))
