use Rattle.std.proofs.Common.{◌≡◌, ℕ, ◌<◌, ◌&&◌, take}
use Rattle.rv_model.specs.Numbers.{has_bit}
use Rattle.rv_table.specs.inner.Numbered.{row_passes}
use Rattle.rv_table.proofs.filtering.filter_all.Given as goal

abbrev pub invariant-loop-label : goal.invariant-loop-label
invariant-loop-label l = (q : ℕ) → q < 32 → has_bit l.left q ≡ (has_bit l.rows q && row_passes (take l.label-index l.labels) q l.letter)
