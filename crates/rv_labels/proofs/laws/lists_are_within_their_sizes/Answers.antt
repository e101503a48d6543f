use Rattle.rv_labels.proofs.SizeLemmas.{cubes_within}
use Rattle.rv_labels.proofs.laws.lists_are_within_their_sizes.Goals as goal

pub returns : goal.returns
returns c = cubes_within
