use Rattle.std.proofs.Common.{◌≡◌, length}
use Rattle.rv_ltl.specs.Names.{all_name_bytes}
use Rattle.rv_ltl.proofs.names.all_name_bytes.Given as goal

abbrev pub invariant-loop-rest : goal.invariant-loop-rest
invariant-loop-rest l = all_name_bytes l.rest ≡ all_name_bytes l.bytes

abbrev pub decreases-loop-rest : goal.decreases-loop-rest
decreases-loop-rest l = length l.rest
