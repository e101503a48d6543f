use Rattle.std.proofs.Common.{length, get_or}
use Rattle.rv_model.specs.declared.hit.Letter.TheVariants.{Event}
use Rattle.rv_reference.proofs.PathLemmas.{NoneBefore}
use Rattle.rv_reference.proofs.acceptance.+accepts_from.Given as goal

abbrev pub decreases-accepts_from : goal.decreases-accepts_from
decreases-accepts_from l = length l.letters.now

abbrev pub invariant-loop-edge : goal.invariant-loop-edge
invariant-loop-edge l = NoneBefore l.automaton l.state (get_or l.letters 0 (Event 0)) l.rest l.edge-index
