use Rattle.rv_tool.proofs.LoadedLemmas.{load_accepted}
use Rattle.rv_tool.proofs.laws.load_is_accepted.Goals as goal

pub returns : goal.returns
returns c = load_accepted
