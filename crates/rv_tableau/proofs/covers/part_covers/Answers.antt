-- One cover more.
use Rattle.std.proofs.Common.{◌≡◌, ℕ, ◌+◌, List, [], ◌∷◌, ◌++◌, length, arith}
use Rattle.std.specs.Prelude.{Vec}
use Rattle.std.specs.declared.alloc.Global.{Global}
use Rattle.std.proofs.lemmas.Grind.{common_steps}
use Rattle.rv_nnf.specs.Parts.{PartValue}
use Rattle.rv_nnf.specs.Views.{part_values}
use Rattle.rv_tableau.specs.declared.pairs.Pair.{Pair}
use Rattle.rv_tableau.specs.inner.Covering.{IsCover, AreCovers}
use Rattle.rv_tableau.proofs.covers.part_covers.Goals as goal

-- the covers with that of the next part at their end
pushed : (ps : List PartValue) (numbers : List ℕ) (most k : ℕ) (covers all : List (Vec Pair Global)) (v : Vec Pair Global) → all ≡ covers ++ v ∷ [] → length covers ≡ k → AreCovers ps numbers most covers → IsCover ps numbers most k v.items → (length all ≡ k + 1) × AreCovers ps numbers most all
pushed ps numbers most k covers all v e l are own = grind (arith, common_steps)

pub loop-k-preserved : goal.loop-k-preserved
loop-k-preserved c = pushed (part_values c.args.parts.now) c.args.numbers.now c.args.most c.loop-k.k c.loop-k.covers.items c.push.new.self.items c.in_ok-next.next c.in_ok-push.ensures.items c.loop-k.invariant.0 c.loop-k.invariant.1 c.in_ok-next.ensures
