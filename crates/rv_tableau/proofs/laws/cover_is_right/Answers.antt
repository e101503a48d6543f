use Rattle.rv_tableau.proofs.CoverSays.{empty_holds, set_says}
use Rattle.rv_tableau.proofs.laws.cover_is_right.Goals as goal

pub returns : goal.returns
returns c = record { letter = set_says; empty = empty_holds }
