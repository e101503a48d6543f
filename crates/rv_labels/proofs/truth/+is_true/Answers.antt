use Rattle.std.proofs.Common.{arith}
use Rattle.rv_labels.proofs.MeetLemmas.{meets_need}
use Rattle.rv_labels.proofs.truth.+is_true.Goals as goal

pub returns-in-Atom : goal.returns-in-Atom
returns-in-Atom t c = grind (arith, meets_need)
