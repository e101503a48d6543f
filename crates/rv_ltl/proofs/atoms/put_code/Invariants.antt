use Rattle.std.proofs.Common.{◌≡◌, ◌≤◌, length, drop}
use Rattle.rv_ltl.specs.inner.Machine.{defs}
use Rattle.rv_ltl.specs.inner.Collected.{is_free, code_into}
use Rattle.rv_ltl.proofs.atoms.put_code.Given as goal

abbrev pub invariant-code : goal.invariant-code
invariant-code l = record {
  few : length l.out.items ≤ 32;
  is : code_into (is_free (defs l.definitions)) (drop l.step-index l.code) l.out.items ≡ code_into (is_free (defs l.definitions)) l.code l.initial.out.items;
}
