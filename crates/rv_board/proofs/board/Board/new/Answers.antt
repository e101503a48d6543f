use Rattle.std.proofs.Common.{ℕ, List, [], sym, subst, rules}
use Rattle.atomic_table.specs.Table.{opening}
use Rattle.rv_model.specs.declared.entry.Act.{Act}
use Rattle.rv_board.specs.inner.Rule.{KeptPlainly, first_view}
use Rattle.rv_board.proofs.SplitLemmas.{opens}
use Rattle.rv_board.proofs.WordSteps.{opening-of}
use Rattle.rv_board.proofs.CallLemmas.{usable_first}
use Rattle.rv_board.proofs.board.Board.new.Goals as goal

pub of_words-requires : goal.of_words-requires
of_words-requires c = subst (λ (ws : List ℕ). KeptPlainly c.args.setup (opening {S = Act} ws [] (first_view c.args.setup))) (sym c.as_slice.ensures.value) (opens c.args.setup _ _ (opening-of c.args.setup _ c.in_ok-words.ensures) c.in_ok-placed.ensures (search rules))

pub invariant_of-result-2 : goal.invariant_of-result-2
invariant_of-result-2 c = usable_first _ _ c.in_ok-table.ensures.4
