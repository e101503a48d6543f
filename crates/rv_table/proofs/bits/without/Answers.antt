use Rattle.rv_table.proofs.SharedLemmas.{has_without}
use Rattle.rv_table.proofs.bits.without.Goals as goal

pub returns : goal.returns
returns c = λ member lt. has_without c.args.set c.args.others member c.ranges.others.fits lt
