use Rattle.std.proofs.Common.{◌≤◌, take}
use Rattle.std.specs.Prelude.{All}
use Rattle.rv_trace.specs.declared.line.TraceLine.{TraceLine}
use Rattle.rv_route.specs.Fitting.{NumbersAscend}
use Rattle.test_machine.proofs.route.ascend.Given as goal

abbrev pub invariant-loop-line : goal.invariant-loop-line
invariant-loop-line l = All (λ (m : TraceLine). m.number ≤ l.last) (take l.line-index l.lines) × NumbersAscend (take l.line-index l.lines)
