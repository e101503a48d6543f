use Rattle.rv_tool.proofs.LoadLemmas.{load_bound}
use Rattle.rv_tool.proofs.laws.load_is_bound.Goals as goal

pub returns : goal.returns
returns c = load_bound
