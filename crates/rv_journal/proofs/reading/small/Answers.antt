use Rattle.std.proofs.Common.{◌≡◌, None, rules}
use Rattle.rv_journal.specs.inner.PieceReadings.{number_from, most_32}
use Rattle.rv_journal.proofs.ThenLemmas.{gives-none}
use Rattle.rv_journal.proofs.reading.small.Goals as goal

pub returns-in_err-n : goal.returns-in_err-n
returns-in_err-n c = let none : c.from_residual.result ≡ None = search rules in gives-none (number_from most_32) _ _ _ none c.in_err-n.ensures.number
