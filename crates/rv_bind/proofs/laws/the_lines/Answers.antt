use Rattle.rv_bind.proofs.LineLaws.{line_again, line_takes}
use Rattle.rv_bind.proofs.laws.the_lines.Goals as goal

pub returns : goal.returns
returns c words form = (λ h. line_takes words form h, λ h. line_again form words h)
