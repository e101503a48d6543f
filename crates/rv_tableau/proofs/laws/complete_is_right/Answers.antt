use Rattle.rv_tableau.proofs.CompleteLists.{complete_is_right}
use Rattle.rv_tableau.proofs.laws.complete_is_right.Goals as goal

pub returns : goal.returns
returns c parts normal nodes complete letters = complete_is_right parts normal nodes complete letters
