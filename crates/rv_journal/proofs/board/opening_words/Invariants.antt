use Rattle.std.proofs.Common.{◌≡◌, ℕ, ◌<◌}
use Rattle.rv_table.specs.Rows.{IsRows}
use Rattle.rv_core.specs.Setup.{table_at}
use Rattle.rv_journal.proofs.CountedOpeningLemmas.{counted_openings}
use Rattle.rv_journal.proofs.board.opening_words.Given as goal

abbrev pub invariant-loop-slot : goal.invariant-loop-slot
invariant-loop-slot l = record {
  words : l.words.items ≡ counted_openings l.fn.setup l.slot;
  rows : (i : ℕ) → i < l.slot → IsRows (table_at l.fn.setup i);
}
