use Rattle.rv_table.proofs.SetLemmas.{set_bit}
use Rattle.rv_table.proofs.bits.with.Goals as goal

pub returns : goal.returns
returns c = λ q h. set_bit _ _ q c.requires
