use Rattle.std.proofs.Common.{sym, ap, ◌∙◌}
use Rattle.rv_ltl.specs.File.{Def}
use Rattle.rv_ltl.specs.inner.Machine.{defs}
use Rattle.rv_ltl.specs.inner.Postfix.{code}
use Rattle.rv_ltl.proofs.Elements.{read_def, coded_at}
use Rattle.rv_ltl.proofs.Rows.{uses_more}
use Rattle.rv_ltl.proofs.uses.uses.Goals as goal

pub definitions-preserved : goal.definitions-preserved
definitions-preserved c =
    let ds = c.args.definitions.now in
    let i = c.definitions.definition-index in
    let x = c.definition-item.result in
    let text = c.deref.ensures.value ∙ sym (coded_at ds i x c.definitions-test.true c.definition-item.is c.requires.coded) ∙ sym (ap (λ (d : Def). code d.body) (read_def ds i x c.definitions-test.true c.definition-item.is)) in
    uses_more (defs ds) c.definitions.rows.items c.push.new.self.items i c.in_ok-row.field-0 c.deref.result.now c.in_ok-push.ensures.items text c.in_ok-row.ensures c.definitions.invariant
