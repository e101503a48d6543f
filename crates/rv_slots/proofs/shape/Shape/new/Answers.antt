use Rattle.std.proofs.Common.{◌+◌, ◌≤◌, ◌++◌, ◌∷◌, [], ℕ, List, map, take, sym, ap, ◌∙◌, arith, refl}
use Rattle.std.proofs.lemmas.List.{take_all, map_more, length_push}
use Rattle.rv_slots.specs.Shapes.{count_of}
use Rattle.rv_slots.proofs.ShapeLemmas.{first-base, base-more, sum-push, few-slots}
use Rattle.rv_slots.proofs.shape.Shape.new.Goals as goal

pub loop-scope-init : goal.loop-scope-init
loop-scope-init c =
    let none = c.in_ok-counts.ensures.items in
    let one = c.in_ok-push.ensures.items ∙ ap (λ (bases : List ℕ). bases ++ 0 ∷ []) c.in_ok-bases.ensures.items in
    rw (none, one) (record { made = refl; many = refl; few = omega arith; slots = refl; bases = first-base })

pub loop-scope-preserved : goal.loop-scope-preserved
loop-scope-preserved c =
    let i = c.loop-scope.invariant in
    let counts = c.loop-scope.counts.items in
    let count = c.count_of-count.result in
    let most : count ≤ 65536 = rw c.count_of-count.ensures (few-slots c.args.tasks _ c.requires.tasks) in
    let sums = sum-push counts count in
    rw (c.in_ok-push-2.ensures.items, c.in_ok-push-3.ensures.items) (record {
      made = ap (λ (front : List ℕ). front ++ count ∷ []) i.made ∙ ap (λ (n : ℕ). map (count_of c.args.tasks) (take c.loop-scope.scope-index c.args.scopes.now) ++ n ∷ []) c.count_of-count.ensures ∙ sym (map_more (count_of c.args.tasks) c.args.scopes.now c.loop-scope.scope-index _ c.loop-scope-test.true);
      many = length_push counts count ∙ ap (λ (n : ℕ). n + 1) i.many;
      few = let low = i.few in omega (arith, most, sums, low);
      slots = ap (λ (n : ℕ). n + count) i.slots ∙ sym sums;
      bases = base-more counts c.loop-scope.bases.items c.loop-scope.slots count i.slots i.bases;
    })

pub invariant_of-result : goal.invariant_of-result
invariant_of-result c = (omega arith, omega arith, c.loop-scope.invariant.bases)

pub returns : goal.returns
returns c = c.loop-scope.invariant.made ∙ ap (map (count_of c.args.tasks)) (take_all c.loop-scope.scope-index c.args.scopes.now c.loop-scope-test.false)
