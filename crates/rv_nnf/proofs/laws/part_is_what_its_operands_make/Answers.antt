use Rattle.rv_nnf.proofs.ByNumber.{part_meaning_is}
use Rattle.rv_nnf.proofs.laws.part_is_what_its_operands_make.Goals as goal

pub returns : goal.returns
returns c parts normal k = part_meaning_is parts normal k
