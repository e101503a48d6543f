-- The word is that of its number, unless a zero stands in front.
use Rattle.std.proofs.Common.{◌≡◌, None, sym, ◌∙◌, arith, rules}
use Rattle.rv_journal.proofs.NumberLemmas.{number_in-zero, number_in-none, number_in-large, number_in-read}
use Rattle.rv_journal.proofs.pieces.number_in.Goals as goal
use Rattle.rv_journal.proofs.pieces.number_in.Goals.{else-word-gt1-via-then-word-gt1+else-word-eq48, else-word-gt1-via-else-word-gt1}

pub returns-then-word-eq48-clause-value : goal.returns-then-word-eq48-clause-value
returns-then-word-eq48-clause-value c = sym (number_in-zero c.args.most c.args.word.now (omega arith) (omega arith))

pub returns-in_err-number-clause-value : goal.returns-in_err-number-clause-value
returns-in_err-number-clause-value c =
    let none : c.from_residual.result ≡ None = search rules in
    none ∙ sym (number_in-none c.args.most c.args.word.now (sym c.in_err-number.ensures))

pub returns-then-number-most-clause-value : goal.returns-then-number-most-clause-value
returns-then-number-most-clause-value c = sym (number_in-large c.args.most c.args.word.now c.in_ok-number.number (sym c.in_ok-number.ensures) (omega arith))

pub returns-clause-value : goal.returns-clause-value
returns-clause-value c =
    sym (number_in-read c.args.most c.args.word.now c.in_ok-number.number (sym c.in_ok-number.ensures) (omega arith)
    (λ zero. elim c.else-word-gt1.branch [ else-word-gt1-via-then-word-gt1+else-word-eq48 w ↦ absurd (omega arith) | else-word-gt1-via-else-word-gt1 w ↦ omega arith ]))
