-- No line yet.
use Rattle.std.proofs.Common.{List, ℕ, sym, ap, subst}
use Rattle.rv_check.specs.Checker.{IsGoodJournal}
use Rattle.rv_check.specs.Run.{RunValue}
use Rattle.rv_check.proofs.JournalLemmas.{good-none}
use Rattle.rv_check.proofs.checker.Checker.new.Goals as goal

pub invariant_of-result : goal.invariant_of-result
invariant_of-result c =
    let r : RunValue = c.in_ok-run.run' in
    subst (λ (lines : List (List ℕ)). IsGoodJournal r lines) (sym c.new-given.ensures) (good-none r (ap (λ (v : RunValue). v.history) c.in_ok-run.ensures) c.assert_invariant.ensures)
