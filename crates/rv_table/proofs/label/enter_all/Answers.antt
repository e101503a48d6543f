-- One more label has its number.
use Rattle.std.proofs.Common.{◌≡◌, ◌+◌, [], ◌∷◌, ◌++◌, map, take, ap, sym, ◌∙◌, subst}
use Rattle.std.proofs.lemmas.List.{map_more}
use Rattle.rv_model.specs.Formulas.{ltl}
use Rattle.rv_table.specs.inner.Numbered.{AreEntered}
use Rattle.rv_table.proofs.NumberedRows.{AreEntered-more}
use Rattle.rv_table.proofs.label.enter_all.Goals as goal

pub loop-label-preserved : goal.loop-label-preserved
loop-label-preserved c =
    let initial = c.args.labels.now.items in
    let old = c.loop-label.labels.items in
    let new = c.enter.new.labels.items in
    let index = c.loop-label.label-index in
    let numbers = c.loop-label.numbers.items in
    let number = c.in_ok-enter.field-0 in
    let wanted = c.args.wanted.now in
    let label = c.label-item.result in
    let made = c.in_ok-enter.ensures in
    let more : map ltl (take (index + 1) wanted) ≡ map ltl (take index wanted) ++ ltl label ∷ [] = map_more ltl wanted index label c.loop-label-test.true ∙ ap (λ f. map ltl (take index wanted) ++ ltl f ∷ []) (sym c.label-item.is) in
    rw c.in_ok-push.ensures.items (subst (λ fs. AreEntered initial new c.args.row fs (numbers ++ number ∷ [])) (sym more)
    (AreEntered-more initial old new c.args.row (map ltl (take index wanted)) numbers number (ltl label) c.loop-label.invariant made.kept made.within made.label made.told))
