use Rattle.std.proofs.Common.{◌≡◌, take}
use Rattle.std.specs.Prelude.{flat_map}
use Rattle.rv_control.specs.FileTexts.{with_held}
use Rattle.rv_control.proofs.control.Control.listed.Given as goal

abbrev pub invariant-loop-item : goal.invariant-loop-item
invariant-loop-item l = l.listed.items ≡ flat_map (with_held l.self) (take l.item-index l.item-items)
