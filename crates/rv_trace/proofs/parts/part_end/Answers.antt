use Rattle.std.proofs.Common.{◌+◌, ◌-◌, ◌/◌, ◌%◌, ◌^◌, sym, ap, arith}
use Rattle.std.proofs.lemmas.Nat.{shr-shr}
use Rattle.std.specs.Int.{bit_at}
use Rattle.rv_trace.proofs.RunLemmas.{other-end, other-inside}
use Rattle.rv_trace.proofs.parts.part_end.Goals as goal

pub returns-clause-value : goal.returns-clause-value
returns-clause-value c =
    let past = c.args.point + 1 - c.args.from in
    sym (other-end c.args.text.now c.args.from c.args.others c.requires.within c.requires.mask (c.args.point + 1) (omega (arith, c.requires.low)) (bit_at (c.args.others / 2 ^ past)) (λ k. ap (λ n. n % 2) (shr-shr c.args.others past k))
    c.lowest.result c.lowest.ensures.set c.lowest.ensures.below)

pub returns-clause-high : goal.returns-clause-high
returns-clause-high c =
    let past = c.args.point + 1 - c.args.from in
    let inside = other-inside c.args.text.now c.args.from c.args.others c.requires.within c.requires.mask (c.args.point + 1) (omega (arith, c.requires.low)) (bit_at (c.args.others / 2 ^ past)) (λ k. ap (λ n. n % 2) (shr-shr c.args.others past k))
    c.lowest.result c.lowest.ensures.set c.lowest.ensures.below in
    omega (arith, inside, c.requires.within)
