-- A word has no bit from 64 on.
use Rattle.std.proofs.Common.{◌≡◌, false, refl, arith}
use Rattle.std.proofs.lemmas.Nat.Bits.{bit_at_above}
use Rattle.rv_model.specs.Numbers.{has_bit}
use Rattle.rv_model.proofs.bits.has_bit.Goals as goal

pub returns-else-bit-lt64 : goal.returns-else-bit-lt64
returns-else-bit-lt64 c =
    let none : has_bit c.args.number c.args.bit ≡ false = rw (bit_at_above c.args.number 64 c.args.bit c.ranges.number.fits c.if-bit-lt64.false) refl in
    rw none (grind arith)
