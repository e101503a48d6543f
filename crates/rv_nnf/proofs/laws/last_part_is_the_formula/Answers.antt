use Rattle.rv_nnf.proofs.RefusedExactly.{normal_of_is, holds_is, refused_is}
use Rattle.rv_nnf.proofs.laws.last_part_is_the_formula.Goals as goal

pub returns : goal.returns
returns c = record {
  normal = λ f parts atoms given. (normal_of_is f parts atoms given).normal;
  holds = λ f parts atoms given view letters. holds_is f parts atoms given view letters;
  refused = refused_is;
}
