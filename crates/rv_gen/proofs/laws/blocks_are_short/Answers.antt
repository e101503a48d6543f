use Rattle.rv_gen.proofs.LengthLemmas.{blocks-short}
use Rattle.rv_gen.proofs.laws.blocks_are_short.Goals as goal

pub returns : goal.returns
returns c = blocks-short
