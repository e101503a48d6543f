use Rattle.std.proofs.Common.{◌≡◌, ◌++◌}
use Rattle.rv_control.specs.FileTexts.{monitors_in}
use Rattle.rv_control.proofs.control.Control.list_held.Given as goal

abbrev pub invariant-loop-place : goal.invariant-loop-place
invariant-loop-place l = l.listed.items ≡ l.fn.listed.items ++ monitors_in l.self l.container l.place
