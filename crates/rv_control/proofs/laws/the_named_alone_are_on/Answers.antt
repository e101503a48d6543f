use Rattle.std.proofs.Common.{false, refl}
use Rattle.rv_control.proofs.ReadBackLemmas.{exactly-named}
use Rattle.rv_control.proofs.laws.the_named_alone_are_on.Goals as goal

pub returns : goal.returns
returns c tree after files path text change writes item leads spelled = exactly-named tree files path text false after change writes item leads refl spelled
