use Rattle.std.proofs.Common.{ℕ}
use Rattle.rv_control.specs.Sets.{is_chosen}
use Rattle.rv_control.proofs.SetLemmas.{IsSetOf}
use Rattle.rv_control.proofs.control.Control.set.Given as goal

abbrev pub invariant-loop-place : goal.invariant-loop-place
invariant-loop-place l = IsSetOf (is_chosen l.self l.item l.those) l.place l.set l.bit
