use Rattle.std.proofs.Common.{arith, sym, ◌∙◌, ap, cond, get_or, ◌+◌}
use Rattle.rv_text.specs.Places.{is_blank}
use Rattle.rv_dot.proofs.LabelLaws.{kept_more, kept_none, kept_within}
use Rattle.rv_dot.proofs.label.kept_len.Goals as goal

pub loop-place-init : goal.loop-place-init
loop-place-init c = record { value = sym kept_none; within = omega arith }

pub loop-place-preserved : goal.loop-place-preserved
loop-place-preserved c = record {
  value = c.kept_at-kept.ensures ∙ ap (λ k. cond (is_blank (get_or c.args.bytes.now c.loop-place.place 0)) k (c.loop-place.place + 1)) c.loop-place.invariant.value ∙ sym (kept_more c.args.bytes.now c.loop-place.place 0 c.loop-place-test.true);
  within = rw c.kept_at-kept.ensures (kept_within (is_blank (get_or c.args.bytes.now c.loop-place.place 0)) c.loop-place.kept c.loop-place.place c.loop-place.invariant.within);
}
