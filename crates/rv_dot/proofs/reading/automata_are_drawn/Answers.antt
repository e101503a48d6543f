use Rattle.rv_dot.proofs.DrawnSound.{dot_sound}
use Rattle.rv_dot.proofs.DrawnComplete.{dot_complete}
use Rattle.rv_dot.proofs.reading.automata_are_drawn.Goals as goal

pub returns : goal.returns
returns c = λ bytes a. (dot_sound bytes a, dot_complete bytes a)
