use Rattle.std.proofs.Common.{◌≡◌, length}
use Rattle.rv_nnf.specs.Views.{part_values}
use Rattle.rv_tableau.specs.inner.Covering.{AreCovers}
use Rattle.rv_tableau.proofs.covers.part_covers.Given as goal

abbrev pub invariant-loop-k : goal.invariant-loop-k
invariant-loop-k l = (length l.covers.items ≡ l.k) × AreCovers (part_values l.parts) l.numbers l.most l.covers.items
