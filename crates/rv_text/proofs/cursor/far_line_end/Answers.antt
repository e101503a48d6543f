use Rattle.std.proofs.Common.{◌<◌, ◌+◌, ◌-◌, length, sym, ◌∙◌, arith}
use Rattle.std.proofs.lemmas.Bool.{eqb-true}
use Rattle.std.proofs.lemmas.List.Edits.{length-between}
use Rattle.rv_text.proofs.TextLineLemmas.{rest-reads, none-before, line_end-is}
use Rattle.rv_text.proofs.cursor.far_line_end.Goals as goal

pub returns-in-Some-clause-value : goal.returns-in-Some-clause-value
returns-in-Some-clause-value c =
    let inside : c.args.from + c.in-Some.offset < length c.args.text.now = omega (arith, c.in-Some.ensures.0.high, length-between c.args.text.now c.args.from (length c.args.text.now) (omega arith)) in
    sym (line_end-is c.args.text.now c.args.from (c.args.from + c.in-Some.offset) (omega arith) (omega arith)
    (none-before c.args.text.now 10 c.args.from c.in-Some.offset (omega arith) c.in-Some.ensures.0.before)
    (λ h. sym (rest-reads c.args.text.now c.args.from c.in-Some.offset inside) ∙ eqb-true _ _ c.in-Some.ensures.1))

pub returns-in-None-clause-value : goal.returns-in-None-clause-value
returns-in-None-clause-value c =
    sym (line_end-is c.args.text.now c.args.from (length c.args.text.now) (omega arith) (omega arith)
    (λ k l h. none-before c.args.text.now 10 c.args.from (length c.args.text.now - c.args.from) (omega arith)
    (λ j m g. c.in-None.ensures j m (omega (arith, length-between c.args.text.now c.args.from (length c.args.text.now) (omega arith)))) k l (omega arith))
    (λ h. absurd (omega arith)))
