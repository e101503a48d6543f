use Rattle.std.proofs.Common.{arith}
use Rattle.rv_reference.proofs.NumberLemmas.{has_bit-above}
use Rattle.rv_reference.proofs.bits.has_bit.Goals as goal

pub returns-else-bit-lt64 : goal.returns-else-bit-lt64
returns-else-bit-lt64 c = rw (has_bit-above c.args.number 64 c.args.bit (omega arith) c.if-bit-lt64.false) (grind arith)
