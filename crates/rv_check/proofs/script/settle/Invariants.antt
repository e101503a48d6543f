-- No delivery before the place is shown on.
use Rattle.std.proofs.Common.{◌≡◌}
use Rattle.rv_check.proofs.SettleLemmas.{shown_in}
use Rattle.rv_check.proofs.script.settle.Given as goal

abbrev pub invariant-loop-at : goal.invariant-loop-at
invariant-loop-at l = shown_in l.work l.look l.place l.to ≡ shown_in l.work l.look l.at l.to
