-- The line is judged, and kept.
use Rattle.std.proofs.Common.{◌≡◌, List, [], ◌∷◌, ◌++◌, ℕ, sym, ap, subst, ◌∙◌}
use Rattle.rv_check.specs.Checker.{CheckerValue, IsBegun, IsChecker}
use Rattle.rv_check.specs.Run.{RunValue}
use Rattle.rv_check.proofs.JournalLemmas.{value, checker-begun, begun-checker, begun-before}
use Rattle.rv_check.proofs.checker.Checker.line.Goals as goal

judged : (c : goal.After-push) → IsChecker c.judge-good.new.run c.judge-good.result c.push.new.given
judged c = subst (λ (lines : List (List ℕ)). IsChecker c.judge-good.new.run c.judge-good.result lines) (sym c.push.ensures) (c.judge-good.ensures.judged c.self.inside.given c.self.invariant)

-- the lines are one more, and all else is as before
longer : (c : goal.After-push) → value c.judge-good.new.run c.push.new.given ≡ record c.args.self.now { lines = c.args.self.now.lines ++ c.args.line.now ∷ [] }
longer c =
    let i = c.self.inside in
    ap (λ (r : RunValue). value r c.push.new.given) c.judge-good.ensures.kept
    ∙ ap (value i.run) c.push.ensures
    ∙ ap (λ (v : CheckerValue). record v { lines = v.lines ++ c.args.line.now ∷ [] }) c.self.view_is

pub invariant_of-self : goal.invariant_of-self
invariant_of-self c = judged c

pub returns-clause-lines : goal.returns-clause-lines
returns-clause-lines c = longer c

pub returns-clause-begun : goal.returns-clause-begun
returns-clause-begun c =
    let r : RunValue = c.judge-good.new.run in
    (λ so. checker-begun r c.push.new.given c.judge-good.result (judged c) so, λ b. begun-checker r c.push.new.given c.judge-good.result (judged c) b)

pub returns-clause-front : goal.returns-clause-front
returns-clause-front c = λ b. begun-before c.args.self.now c.args.line.now (subst IsBegun (longer c) b)
