use Rattle.rv_control.specs.Opening.{enables}
use Rattle.rv_control.proofs.SetLemmas.{IsSetOf}
use Rattle.rv_control.proofs.opening.opening_switches.Given as goal

abbrev pub invariant-loop-place : goal.invariant-loop-place
invariant-loop-place l = IsSetOf (enables l.monitors) l.place l.switches l.bit
