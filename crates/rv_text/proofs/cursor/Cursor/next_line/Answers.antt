use Rattle.std.proofs.Common.{arith, sym, ◌∙◌}
use Rattle.rv_text.proofs.TextLineLemmas.{lines_from-next, lines_from-end, start-behind}
use Rattle.rv_text.proofs.cursor.Cursor.next_line.Goals as goal

pub invariant_of-self : goal.invariant_of-self
invariant_of-self c =
    rw (c.past_line_end-end.ensures, c.line_end-to.ensures.value) (omega arith, start-behind c.self.inside.text.now c.self.inside.place (omega (arith, c.self.invariant.0, c.if-from-text.false)))

pub returns-then-from-text-clause-none : goal.returns-then-from-text-clause-none
returns-then-from-text-clause-none c =
    let ended = sym c.self.view_is ∙ lines_from-end c.self.inside.text.now c.self.inside.number c.self.inside.place (omega (arith, c.if-from-text.true)) in
    (ended, ended)

pub returns-clause-some : goal.returns-clause-some
returns-clause-some c =
    rw (c.next_number-self-inside.ensures, c.past_line_end-end.ensures, c.line_end-to.ensures.value)
    (sym c.self.view_is ∙ lines_from-next c.self.inside.text.now c.self.inside.number c.self.inside.place (omega (arith, c.self.invariant.0, c.if-from-text.false)) (c.self.invariant.1 (omega (arith, c.self.invariant.0, c.if-from-text.false))))
