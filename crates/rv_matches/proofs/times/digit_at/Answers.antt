use Rattle.std.proofs.Common.{◌≢◌, inl, inr, ◌-◌, get_or, sym, ap, ◌∙◌, arith}
use Rattle.std.proofs.lemmas.List.{get_or_past}
use Rattle.rv_matches.specs.Times.{point_in}
use Rattle.rv_matches.proofs.SpelledLemmas.{time_short}
use Rattle.rv_matches.proofs.TimeLemmas.{digit-low, digit_read, each_digit, point_high, zeros_before}
use Rattle.rv_matches.proofs.times.digit_at.Goals.{then-digit-point, else-digit-point}
use Rattle.rv_matches.proofs.times.digit_at.Goals as goal

pub overflow_add-point : goal.overflow_add-point
overflow_add-point c = omega (arith, c.requires.point, point_high c.args.stamp.now, time_short c.args.stamp.now c.requires.time)

pub overflow_add-digit : goal.overflow_add-digit
overflow_add-digit c = omega (arith, c.requires.point, point_high c.args.stamp.now, time_short c.args.stamp.now c.requires.time)

pub overflow_add-at : goal.overflow_add-at
overflow_add-at c = omega (arith, c.requires.point, point_high c.args.stamp.now, time_short c.args.stamp.now c.requires.time)

pub returns-then-point-place-lt-LONGEST : goal.returns-then-point-place-lt-LONGEST
returns-then-point-place-lt-LONGEST c = sym (zeros_before c.args.stamp.now c.args.place (omega (arith, c.requires.point)))

pub overflow_sub-result : goal.overflow_sub-result
overflow_sub-result c =
    let stamp = c.args.stamp.now in
    let at = c.if-digit-point.at in
    let other : at ≢ point_in stamp = elim c.if-digit-point.branch [
      | then-digit-point w ↦ omega (arith, c.requires.point)
      | else-digit-point w ↦ omega (arith, c.requires.point)
    ] in
    digit-low (get_or stamp at 0) (each_digit stamp c.requires.time at c.if-at-stamp.true other)

pub returns-then-at-stamp : goal.returns-then-at-stamp
returns-then-at-stamp c =
    let stamp = c.args.stamp.now in
    let at = c.if-digit-point.at in
    let place = c.args.place in
    digit_read stamp place at (omega (arith, c.requires.point)) (elim c.if-digit-point.branch [
      | then-digit-point w ↦ inl (omega (arith, c.requires.point), omega (arith, c.requires.point))
      | else-digit-point w ↦ inr (omega (arith, c.requires.point), omega (arith, c.requires.point))
    ])

pub returns-else-at-stamp : goal.returns-else-at-stamp
returns-else-at-stamp c =
    let stamp = c.args.stamp.now in
    let at = c.if-digit-point.at in
    let place = c.args.place in
    sym (ap (λ b. b - 48) (get_or_past stamp at 0 c.if-at-stamp.false)) ∙ digit_read stamp place at (omega (arith, c.requires.point)) (elim c.if-digit-point.branch [
      | then-digit-point w ↦ inl (omega (arith, c.requires.point), omega (arith, c.requires.point))
      | else-digit-point w ↦ inr (omega (arith, c.requires.point), omega (arith, c.requires.point))
    ])
