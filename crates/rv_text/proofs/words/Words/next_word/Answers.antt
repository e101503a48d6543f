use Rattle.std.proofs.Common.{◌≡◌, length, arith, sym, ◌∙◌}
use Rattle.rv_text.specs.Places.{run_end}
use Rattle.rv_text.specs.declared.runs.ByteClass.TheVariants as kinds
use Rattle.rv_text.proofs.WordLemmas.{words_from-next, words_from-end, words_from-past, blank-behind}
use Rattle.rv_text.proofs.words.Words.next_word.Goals as goal

pub returns-then-from-text-clause-none : goal.returns-then-from-text-clause-none
returns-then-from-text-clause-none c =
    let all : run_end kinds.Blank c.self.inside.text.now c.self.inside.place ≡ length c.self.inside.text.now = sym c.run_end-from.ensures.value ∙ c.if-from-text.true in (
      sym c.self.view_is ∙ words_from-end c.self.inside.text.now c.self.inside.place (omega (arith, c.self.invariant.0)) all,
      words_from-past c.self.inside.text.now c.run_end-from.result (omega (arith, c.if-from-text.true)),
    )

pub invariant_of-self-2 : goal.invariant_of-self-2
invariant_of-self-2 c =
    rw c.run_end-to.ensures.value (omega arith, blank-behind c.self.inside.text.now c.run_end-from.result (omega arith))

pub returns-clause-some : goal.returns-clause-some
returns-clause-some c =
    rw (c.run_end-to.ensures.value, c.run_end-from.ensures.value)
    (sym c.self.view_is ∙ words_from-next c.self.inside.text.now c.self.inside.place c.self.invariant.0 c.self.invariant.1 (omega (arith, c.if-from-text.false)))
