use Rattle.std.proofs.Common.{◌≡◌, ◌≤◌, length}
use Rattle.rv_ltl.specs.inner.Machine.{defs}
use Rattle.rv_ltl.specs.inner.Collected.{is_free, atoms_from}
use Rattle.rv_ltl.proofs.atoms.atoms.Given as goal

abbrev pub invariant-loop-i : goal.invariant-loop-i
invariant-loop-i l = record {
  few : length l.out.items ≤ 32;
  is : l.out.items ≡ atoms_from (is_free (defs l.definitions)) (defs l.definitions) l.flags l.i;
}
