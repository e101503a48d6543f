use Rattle.std.proofs.Common.{◌≡◌, ◌+◌, ◌-◌, ◌≤◌, ℕ, true, false, leb, length, arith, rules, sym, subst}
use Rattle.std.specs.List.Sorted.{IsPartitionPoint}
use Rattle.std.proofs.lemmas.List.Sorted.{IsPartitionPoint-from_clause}
use Rattle.rv_slots.specs.Shapes.{AreBases}
use Rattle.rv_slots.proofs.ShapeLemmas.{parted, some-before, not-behind, begins-before, ends-behind}
use Rattle.rv_slots.proofs.shape.Shape.monitor.Goals as goal

module _ (c : goal.After-partition_point-after) where
  are : AreBases c.args.self.now c.deref.result.now
  are = subst (AreBases c.args.self.now) (sym c.deref.ensures.value) (rw (← c.self.view_is) c.self.invariant.2)

  point : IsPartitionPoint (λ (base : ℕ). leb base c.args.slot ≡ true) (λ base. leb base c.args.slot ≡ false) c.deref.result.now c.partition_point-after.result
  point = IsPartitionPoint-from_clause (λ base. leb base c.args.slot) _ _ c.partition_point-after.ensures.partitioned (parted c.args.self.now c.deref.result.now are c.args.slot) (λ a r q k. search rules)

  some : 1 ≤ c.partition_point-after.result
  some = some-before c.args.self.now c.deref.result.now are c.args.slot c.requires c.partition_point-after.result point

  there : c.partition_point-after.result ≤ length c.args.self.now
  there = not-behind c.args.self.now c.deref.result.now are c.args.slot c.requires c.partition_point-after.result point

pub overflow_sub-result : goal.overflow_sub-result
overflow_sub-result c = some c

pub overflow_cast-result : goal.overflow_cast-result
overflow_cast-result c =
    let few : length c.args.self.now ≤ 32 = rw (← c.self.view_is) c.self.invariant.0 in
    let within = there c in
    grind (arith, few, within)

pub returns-clause-monitors : goal.returns-clause-monitors
returns-clause-monitors c = let within = there c in let first = some c in omega (arith, within, first)

pub returns-clause-first : goal.returns-clause-first
returns-clause-first c = begins-before c.args.self.now c.deref.result.now (are c) c.args.slot c.requires c.partition_point-after.result (point c) (some c)

pub returns-clause-last : goal.returns-clause-last
returns-clause-last c =
    let first = some c in
    let same : (c.partition_point-after.result - 1) + 1 ≡ c.partition_point-after.result = omega (arith, first) in
    rw same (ends-behind c.args.self.now c.deref.result.now (are c) c.args.slot c.requires c.partition_point-after.result (point c))
