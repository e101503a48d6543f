use Rattle.std.proofs.Common.{sym, ◌∙◌, inl, inr, arith}
use Rattle.rv_dot.proofs.Scans.{pair_here, pair_later, pair_nowhere, tail_shorter}
use Rattle.rv_dot.proofs.runs.pair_len.Goals as goal
use Rattle.rv_dot.proofs.runs.pair_len.Goals.{else-first-one-via-then-first-one+else-begins_with, else-first-one-via-else-first-one}

pub loop-rest-preserved : goal.loop-rest-preserved
loop-rest-preserved c = record {
  value = pair_later c.args.one c.args.other c.loop-rest.rest.now 0 c.loop-rest.len _ c.in-len1-up.len_at_least
      (elim c.else-first-one.branch [
        | else-first-one-via-then-first-one+else-begins_with w ↦ inr (sym w.begins_with.ensures ∙ w.if-begins_with.false)
        | else-first-one-via-else-first-one w ↦ inl w.if-first-one.false
      ])
      c.loop-rest.invariant.value;
  left = omega (arith, c.loop-rest.invariant.left, tail_shorter c.loop-rest.rest.now c.in-len1-up.len_at_least);
}

pub returns-then-begins_with-clause-value : goal.returns-then-begins_with-clause-value
returns-then-begins_with-clause-value c =
    pair_here c.args.one c.args.other c.loop-rest.rest.now 0 c.loop-rest.len _ c.in-len1-up.len_at_least c.if-first-one.true (sym c.begins_with.ensures ∙ c.if-begins_with.true) c.loop-rest.invariant.value

pub returns-clause-value : goal.returns-clause-value
returns-clause-value c = pair_nowhere c.args.one c.args.other c.loop-rest.rest.now c.loop-rest.len _ c.in_default.len_below c.loop-rest.invariant.value
