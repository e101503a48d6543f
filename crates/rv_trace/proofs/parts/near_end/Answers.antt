use Rattle.std.proofs.Common.{◌≡◌, ◌+◌, ◌-◌, sym, ap, arith}
use Rattle.std.specs.Int.{bit_at}
use Rattle.rv_trace.proofs.RunLemmas.{other-end}
use Rattle.rv_trace.proofs.parts.near_end.Goals as goal

pub returns-clause-value : goal.returns-clause-value
returns-clause-value c =
    let from = c.args.from in
    sym (other-end c.args.text.now from c.args.others c.requires.within c.requires.mask from (omega arith) (bit_at c.args.others) (λ k. ap (bit_at c.args.others) (let e : k ≡ from - from + k = omega arith in e))
    c.lowest.result c.lowest.ensures.set c.lowest.ensures.below)
