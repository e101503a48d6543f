-- It is good, and each script is played.
use Rattle.std.proofs.Common.{◌≡◌, Bool, true, false, sym, subst}
use Rattle.rv_check.specs.Checker.{CheckerValue, IsWhole, IsGoodJournal, IsChecker}
use Rattle.rv_check.proofs.JournalLemmas.{checker-whole, whole-good, whole-played}
use Rattle.rv_check.proofs.checker.Checker.whole.Goals as goal

pub returns-then-self : goal.returns-then-self
returns-then-self c = λ specs.
    let i = c.self.inside in
    let good : IsGoodJournal i.run i.given = subst (λ (b : Bool). IsChecker i.run b i.given) c.if-self.true c.self.invariant in (
      λ so. subst (λ (v : CheckerValue). IsWhole v specs) c.self.view_is (checker-whole i.run i.given specs good (c.is_whole.ensures.0 so)),
      λ whole. c.is_whole.ensures.1 (whole-played i.run i.given specs good (subst (λ (v : CheckerValue). IsWhole v specs) (sym c.self.view_is) whole)),
    )

pub returns-else-self : goal.returns-else-self
returns-else-self c = λ specs.
    let i = c.self.inside in (
      λ so. absurd (let good : i.good ≡ true = so in let bad : i.good ≡ false = c.if-self.false in let wrong : true ≡ false = cc in cc),
      λ whole. whole-good i.run i.given specs i.good c.self.invariant (subst (λ (v : CheckerValue). IsWhole v specs) (sym c.self.view_is) whole),
    )
