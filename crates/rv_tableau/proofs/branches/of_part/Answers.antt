use Rattle.std.proofs.Common.{arith}
use Rattle.rv_tableau.proofs.Capped.{capped_product, capped_sum}
use Rattle.rv_tableau.proofs.branches.of_part.Goals as goal

pub returns-in-And : goal.returns-in-And
returns-in-And c = grind (arith, capped_product)

pub returns-in-Or : goal.returns-in-Or
returns-in-Or c = grind (arith, capped_sum)

pub returns-in-Until : goal.returns-in-Until
returns-in-Until c = grind (arith, capped_sum)

pub returns-in-Release : goal.returns-in-Release
returns-in-Release c = grind (arith, capped_product, capped_sum)
