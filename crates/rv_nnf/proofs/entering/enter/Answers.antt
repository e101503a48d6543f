use Rattle.std.proofs.Common.{[], ◌∷◌, length, length-append, ap, arith}
use Rattle.std.proofs.lemmas.List.{length-map}
use Rattle.rv_nnf.specs.Views.{part_value, part_values}
use Rattle.rv_nnf.proofs.EnterLemmas.{entered_old, entered_new, entered_full, try_few, try_many, place_most}
use Rattle.rv_nnf.proofs.entering.enter.Goals as goal

pub returns-then-at-len-clause-gives : goal.returns-then-at-len-clause-gives
returns-then-at-len-clause-gives c =
    let e = rw c.deref.ensures.value at c.place-at.ensures in
    try_few (part_values c.args.parts.now.items) (part_value c.args.part) _ (entered_old c.args.parts.now.items (part_value c.args.part) c.place-at.result e (omega arith)) (let m = length-map c.args.parts.now.items part_value in let l = ap length c.deref.ensures.value in omega arith)

pub returns-then-at-eq-MOST_PARTS-clause-gives : goal.returns-then-at-eq-MOST_PARTS-clause-gives
returns-then-at-eq-MOST_PARTS-clause-gives c =
    let e = rw c.deref.ensures.value at c.place-at.ensures in
    try_many (part_values c.args.parts.now.items) (part_value c.args.part) (entered_full c.args.parts.now.items (part_value c.args.part) c.place-at.result e (omega arith) (omega arith))

pub returns-clause-gives : goal.returns-clause-gives
returns-clause-gives c =
    let e = rw c.deref.ensures.value at c.place-at.ensures in
    try_few (part_values c.args.parts.now.items) (part_value c.args.part) _ (entered_new c.args.parts.now.items c.push.new.self.items c.args.part c.place-at.result c.in_ok-push.ensures.items e (omega arith))
    (let k = length-map c.push.new.self.items part_value in let l = ap length c.deref.ensures.value in let m = place_most c.args.parts.now.items (part_value c.args.part) in let n = ap length c.in_ok-push.ensures.items in let a = length-append c.args.parts.now.items (c.args.part ∷ []) in omega arith)
