use Rattle.std.proofs.Common.{ℕ, List, [], sym, subst, rules}
use Rattle.atomic_table.specs.Table.{opening}
use Rattle.rv_model.specs.declared.entry.Act.{Act}
use Rattle.rv_board.specs.inner.Rule.{first_view}
use Rattle.rv_journal.specs.inner.CountedWords.{KeptCounted}
use Rattle.rv_journal.proofs.CountedOpeningLemmas.{opens-by}
use Rattle.rv_journal.proofs.CountedSeatLemmas.{seat-first}
use Rattle.rv_journal.proofs.board.CountedBoard.new.Goals as goal

pub of_words-requires : goal.of_words-requires
of_words-requires c = subst (λ (ws : List ℕ). KeptCounted c.args.setup (opening {S = Act} ws [] (first_view c.args.setup))) (sym c.as_slice.ensures.value) (opens-by c.args.setup _ _ c.in_ok-words.ensures c.in_ok-placed.ensures (search rules))

pub invariant_of-result-2 : goal.invariant_of-result-2
invariant_of-result-2 c = seat-first _ _ c.in_ok-table.ensures.4 c.in_ok-words.ensures.counted
