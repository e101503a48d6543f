-- An end, a delivery that is passed over, and a letter that is judged.
use Rattle.std.proofs.Common.{◌≡◌, ◌≢◌, List, sym, ap, ◌∙◌, subst}
use Rattle.std.proofs.lemmas.Result.{on_ok_weaker}
use Rattle.rv_model.specs.declared.automaton.Edge.{Edge}
use Rattle.rv_model.specs.declared.entry.Answer.TheVariants.{Passed}
use Rattle.rv_model.specs.declared.record.Delivered.TheVariants.{Done}
use Rattle.rv_reach.specs.inner.Counters.{JudgesLetter}
use Rattle.rv_reach.proofs.RecordLemmas.{record-ended, record-judged, record-passed}
use Rattle.rv_reach.proofs.TurnLemmas.{told-judged, told-passed}
use Rattle.rv_reach.proofs.monitor.MonitorReach.add.Goals as goal

pub returns-then-is_end : goal.returns-then-is_end
returns-then-is_end c =
    on_ok_weaker c.end.result
    (λ ends. record-ended c.args.spec.now c.args.core.now c.args.slot c.args.before c.args.made.now c.args.self.now c.end.new.self (sym c.is_end.ensures ∙ c.if-is_end.true) ends)
    c.end.ensures

pub returns-then-is_passed : goal.returns-then-is_passed
returns-then-is_passed c =
    let passed : c.in-Done.answer ≡ Passed = told-passed c.in-Done.answer (sym c.is_passed.ensures ∙ c.if-is_passed.true) in
    on_ok_weaker c.pass.result
    (λ passes. record-passed c.args.spec.now c.args.core.now c.args.slot c.args.before c.args.made.now c.args.self.now (sym c.is_end.ensures ∙ c.if-is_end.false) c.pass.new.self (c.in-Done.is ∙ ap Done passed) passes)
    c.pass.ensures

pub returns-else-is_passed : goal.returns-else-is_passed
returns-else-is_passed c =
    let some : c.in-Done.answer ≢ Passed = told-judged c.in-Done.answer (sym c.is_passed.ensures ∙ c.if-is_passed.false) in
    on_ok_weaker c.judge.result
    (λ judges. record-judged c.args.spec.now c.args.core.now c.args.slot c.args.before c.args.made.now c.args.self.now (sym c.is_end.ensures ∙ c.if-is_end.false) c.judge.new.self c.in-Done.answer c.judged_of-judged.result c.in-Done.is some c.judged_of-judged.ensures
    (subst (λ (edges : List Edge). JudgesLetter edges c.judged_of-judged.result c.args.self.now c.judge.new.self) c.edges_of.ensures judges))
    c.judge.ensures
