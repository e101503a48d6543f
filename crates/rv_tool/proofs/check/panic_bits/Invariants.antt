use Rattle.rv_control.proofs.SetLemmas.{IsSetOf}
use Rattle.rv_feed.specs.Lane.{panics_of}
use Rattle.rv_tool.proofs.check.panic_bits.Given as goal

-- the bits so far are those of the first monitors
abbrev pub invariant-loop-place : goal.invariant-loop-place
invariant-loop-place l = IsSetOf (panics_of l.reactors) l.place l.bits l.bit
