use Rattle.std.proofs.Common.{◌≡◌, ◌≤◌, length, ◌-◌}
use Rattle.rv_text.specs.Decimal.{number_of}
use Rattle.rv_text.specs.Places.{between}
use Rattle.rv_text.specs.declared.runs.ByteClass.TheVariants as kinds
use Rattle.rv_trace.proofs.RunLemmas.{AreOf}
use Rattle.rv_trace.proofs.runs.digits_from.Given as goal

abbrev pub invariant-loop-end : goal.invariant-loop-end
invariant-loop-end l =
    (l.from ≤ l.end) × (l.end ≤ length l.text) × AreOf kinds.Digit l.text l.from l.end × (l.number ≡ number_of (between l.text l.from l.end)) × (l.number ≤ 4294967299)

abbrev pub decreases-loop-end : goal.decreases-loop-end
decreases-loop-end l = length l.text - l.end
