use Rattle.std.proofs.Common.{◌≡◌, ℕ, ◌+◌, ◌-◌, ◌/◌, ◌^◌, bit_and, cond, subst, arith}
use Rattle.std.specs.Int.{bit_at}
use Rattle.rv_trace.specs.inner.FieldPlaces.{may_stand}
use Rattle.rv_trace.proofs.FieldLemmas.{both-bits, both-within}
use Rattle.rv_trace.proofs.fields.candidates.Goals as goal

pub returns-clause-bits : goal.returns-clause-bits
returns-clause-bits c k inside =
    subst (λ (n : ℕ). bit_at (bit_and c.blank_bits.result c.equals_bits.result / 2 ^ (c.args.place - c.min-start.result)) k ≡ cond (may_stand c.args.fields.now n (c.args.place + k)) 1 0) c.len-size.ensures.len
    (both-bits c.args.fields.now c.len-size.result c.args.place c.min-start.result c.blank_bits.result c.equals_bits.result c.blank_bits.ensures c.equals_bits.ensures
    (omega (arith, c.min-start.ensures)) (omega (arith, c.min-start.ensures)) k (omega (arith, c.min-start.ensures, c.len-size.ensures.len)))

pub returns-clause-within : goal.returns-clause-within
returns-clause-within c k set =
    let inside = both-within c.args.fields.now c.len-size.result c.args.place c.min-start.result c.blank_bits.result c.equals_bits.result c.blank_bits.ensures c.equals_bits.ensures
    (omega (arith, c.min-start.ensures)) (omega (arith, c.min-start.ensures)) k set in
    omega (arith, inside, c.min-start.ensures, c.len-size.ensures.len)
