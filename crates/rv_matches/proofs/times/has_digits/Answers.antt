use Rattle.std.proofs.Common.{◌+◌, ◌<◌, length, sym, ap, ◌∙◌, arith}
use Rattle.std.specs.Prelude.{nat_eq}
use Rattle.rv_text.specs.declared.runs.ByteClass.TheVariants as kinds
use Rattle.rv_text.specs.Places.{run_end}
use Rattle.rv_matches.specs.Times.{point_in}
use Rattle.rv_matches.proofs.TimeLemmas.{part_is, whole_digits}
use Rattle.rv_matches.proofs.times.has_digits.Goals as goal

pub returns-then-point-stamp : goal.returns-then-point-stamp
returns-then-point-stamp c = sym (whole_digits c.args.stamp.now (sym c.point_in-point.ensures.value ∙ c.if-point-stamp.true))

pub returns : goal.returns
returns c =
    let stamp = c.args.stamp.now in
    let some : point_in stamp < length stamp = omega (arith, c.point_in-point.ensures.value) in
    ap (λ r. nat_eq r (length stamp)) (c.run_end.ensures.value ∙ ap (λ p. run_end kinds.Digit stamp (p + 1)) c.point_in-point.ensures.value) ∙ part_is stamp some
