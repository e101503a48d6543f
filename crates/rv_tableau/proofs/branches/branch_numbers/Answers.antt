use Rattle.std.proofs.Common.{◌≡◌, ℕ, ◌<◌, min, length, refl, sym, ap, ◌∙◌, subst, arith}
use Rattle.std.specs.Prelude.{slice_index}
use Rattle.rv_nnf.specs.Parts.{OperandsBelow}
use Rattle.rv_nnf.specs.Views.{part_value, part_values}
use Rattle.rv_tableau.specs.Branches.{part_branches}
use Rattle.rv_tableau.proofs.PartAt.{operands_at}
use Rattle.rv_tableau.proofs.BranchCount.{capped_part, push_each}
use Rattle.rv_tableau.proofs.branches.branch_numbers.Goals as goal

pub of_part-next-requires-clause-operands : goal.of_part-next-requires-clause-operands
of_part-next-requires-clause-operands c =
    let e : c.loop-part.part-index ≡ length c.deref.result.now = sym (ap length c.deref.ensures.value ∙ c.loop-part.invariant.0) in
    subst (λ n. OperandsBelow n (part_value c.part-item.result)) e
    (operands_at c.args.parts.now c.loop-part.part-index c.part-item.result c.part-item.result c.part-item.is refl c.loop-part-test.true c.requires)

pub loop-part-preserved : goal.loop-part-preserved
loop-part-preserved c =
    let v = c.deref.ensures.value in
    let l = ap length v ∙ c.loop-part.invariant.0 in
    let each : (i : ℕ) → i < length c.deref.result.now → slice_index c.deref.result.now i ≡ min (part_branches (part_values c.args.parts.now) i) 4097 =
    λ i s. ap (λ xs. slice_index xs i) v ∙ c.loop-part.invariant.1 i (let a = ap length v in omega arith) in
    let r = capped_part c.args.parts.now c.deref.result.now c.loop-part.part-index c.of_part-next.result c.part-item.result c.part-item.is c.loop-part-test.true c.requires l each c.of_part-next.ensures in
    push_each c.loop-part.out.items c.push.new.self.items c.of_part-next.result c.loop-part.part-index (λ i. min (part_branches (part_values c.args.parts.now) i) 4097) c.in_ok-push.ensures.items c.loop-part.invariant.0 c.loop-part.invariant.1 r
