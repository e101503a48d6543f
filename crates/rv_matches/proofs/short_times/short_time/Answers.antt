use Rattle.std.proofs.Common.{◌≡◌, ◌≢◌, ◌+◌, ◌-◌, ◌≤◌, length, map, sym, ap, ap₂, ◌∙◌, arith}
use Rattle.std.specs.Int.Digits.{number_from_digits_after}
use Rattle.rv_text.specs.Decimal.{digit_of}
use Rattle.rv_text.specs.declared.runs.ByteClass.TheVariants as kinds
use Rattle.rv_text.specs.Places.{between, run_end}
use Rattle.rv_text.proofs.LeastLemmas.{run_end-high}
use Rattle.rv_matches.specs.Times.{point_in}
use Rattle.rv_matches.proofs.ShortLemmas.{parts_number, parts_time, whole_number, whole_time}
use Rattle.rv_matches.proofs.TimeLemmas.{point_high}
use Rattle.rv_matches.proofs.short_times.short_time.Goals as goal

pub returns-then-whole-stamp : goal.returns-then-whole-stamp
returns-then-whole-stamp c =
    let stamp = c.args.stamp.now in
    let point : point_in stamp ≡ length stamp = sym c.digits_from-whole.ensures.end ∙ c.if-whole-stamp.true in
    record {
      time = whole_time stamp c.if-stamp-gt-SHORT.false point;
      number = whole_number stamp c.digits_from-whole.result.number point
          (c.digits_from-whole.ensures.number ∙ ap (λ e. number_from_digits_after 10 0 (map digit_of (between stamp 0 e))) c.if-whole-stamp.true);
      decimals = omega (arith, point);
    }

pub overflow_add-whole : goal.overflow_add-whole
overflow_add-whole c = omega (arith, c.if-stamp-gt-SHORT.false, point_high c.args.stamp.now, c.digits_from-whole.ensures.end)

pub digits_from-all-requires-clause-from : goal.digits_from-all-requires-clause-from
digits_from-all-requires-clause-from c =
    let other : c.digits_from-whole.result.end ≢ length c.args.stamp.now = c.if-whole-stamp.false in
    omega (arith, point_high c.args.stamp.now, c.digits_from-whole.ensures.end)

pub overflow_add-result : goal.overflow_add-result
overflow_add-result c = omega (arith, c.if-stamp-gt-SHORT.false, point_high c.args.stamp.now, c.digits_from-whole.ensures.end)

pub overflow_sub-result : goal.overflow_sub-result
overflow_sub-result c =
    let other : c.digits_from-whole.result.end ≢ length c.args.stamp.now = c.if-whole-stamp.false in
    omega (arith, point_high c.args.stamp.now, c.digits_from-whole.ensures.end)

pub returns : goal.returns
returns c =
    let stamp = c.args.stamp.now in
    let whole = c.digits_from-whole.result in
    let all = c.digits_from-all.result in
    let point : whole.end ≡ point_in stamp = c.digits_from-whole.ensures.end in
    let other : whole.end ≢ length stamp = c.if-whole-stamp.false in
    let within : point_in stamp + 1 ≤ length stamp = omega (arith, point_high stamp) in
    let stop : all.end ≡ run_end kinds.Digit stamp (point_in stamp + 1) = c.digits_from-all.ensures.end ∙ ap (λ p. run_end kinds.Digit stamp (p + 1)) point in
    let end : all.end ≡ length stamp = omega (arith, run_end-high kinds.Digit stamp (point_in stamp + 1) within, c.if-all-stamp.false) in
    record {
      time = parts_time stamp c.if-stamp-gt-SHORT.false (sym stop ∙ end);
      number = parts_number stamp whole.number all.number
          (c.digits_from-whole.ensures.number ∙ ap (λ e. number_from_digits_after 10 0 (map digit_of (between stamp 0 e))) point)
          (c.digits_from-all.ensures.number ∙ ap₂ (λ p e. number_from_digits_after 10 whole.number (map digit_of (between stamp (p + 1) e))) point end);
      decimals = ap (λ p. length stamp - (p + 1)) point;
    }
