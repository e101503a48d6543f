use Rattle.rv_route.proofs.FiredLemmas.{line_by_line}
use Rattle.rv_route.proofs.laws.lines_make_the_whole.Goals as goal

pub returns : goal.returns
returns c = line_by_line
