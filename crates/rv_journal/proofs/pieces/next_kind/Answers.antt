use Rattle.std.proofs.Common.{◌≡◌, None, rules}
use Rattle.rv_journal.specs.inner.PieceReadings.{kind_in}
use Rattle.rv_journal.proofs.ThenLemmas.{first-none, first-reads}
use Rattle.rv_journal.proofs.pieces.next_kind.Goals as goal

pub returns-in_err-word : goal.returns-in_err-word
returns-in_err-word c = let none : c.from_residual.result ≡ None = search rules in first-none kind_in _ _ _ none c.in_err-word.ensures.none.0

pub returns : goal.returns
returns c = first-reads kind_in _ _ _ _ c.in_ok-word.ensures.some c.kind_in.ensures
