use Rattle.rv_dot.proofs.ReadAgain.{read_again}
use Rattle.rv_dot.proofs.canonical.canonical_texts_are_read.Goals as goal

pub returns : goal.returns
returns c = λ a h. read_again a h
