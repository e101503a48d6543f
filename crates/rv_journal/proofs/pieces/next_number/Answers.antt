use Rattle.std.proofs.Common.{◌≡◌, None, rules}
use Rattle.rv_journal.specs.inner.PieceReadings.{number_in}
use Rattle.rv_journal.proofs.ThenLemmas.{first-none, first-reads}
use Rattle.rv_journal.proofs.pieces.next_number.Goals as goal

pub returns-in_err-word-clause-number : goal.returns-in_err-word-clause-number
returns-in_err-word-clause-number c = let none : c.from_residual.result ≡ None = search rules in first-none (number_in c.args.most) _ _ _ none c.in_err-word.ensures.none.0

pub returns-clause-number : goal.returns-clause-number
returns-clause-number c = first-reads (number_in c.args.most) _ _ _ _ c.in_ok-word.ensures.some c.number_in.ensures.value
