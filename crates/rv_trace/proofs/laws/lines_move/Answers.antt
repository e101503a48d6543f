use Rattle.rv_trace.proofs.MoveLemmas.{line_of-moved}
use Rattle.rv_trace.proofs.laws.lines_move.Goals as goal

pub returns : goal.returns
returns c text from number = line_of-moved text from number
