use Rattle.std.proofs.Common.{List, ℕ, subst}
use Rattle.std.specs.Prelude.{IfOk}
use Rattle.rv_ltl.specs.inner.Machine.{defs}
use Rattle.rv_ltl.specs.inner.Collected.{is_free, Puts}
use Rattle.rv_ltl.proofs.Collecting.{def_code}
use Rattle.rv_ltl.proofs.atoms.put_definition.Goals as goal

pub returns-then-flags-i : goal.returns-then-flags-i
returns-then-flags-i c =
    let ds = c.args.definitions.now in
    subst (λ (ys : List ℕ). IfOk c.put_code.result (λ fits. Puts ys c.put_code.new.out.items fits))
    (def_code (is_free (defs ds)) ds c.args.flags.now c.args.i c.index-definitions-i.result c.deref.result.now c.args.out.now.items c.if-flags-i.true c.requires.place c.index-definitions-i.is c.requires.coded c.deref.ensures.value) c.put_code.ensures
