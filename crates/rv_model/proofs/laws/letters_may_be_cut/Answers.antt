use Rattle.rv_model.proofs.GoodLemmas.{good_letters}
use Rattle.rv_model.proofs.laws.letters_may_be_cut.Goals as goal

pub returns : goal.returns
returns c = good_letters
