use Rattle.std.proofs.Common.{◌≡◌, ◌++◌, take}
use Rattle.std.specs.Prelude.{flat_map}
use Rattle.rv_control.specs.FileTexts.{name_line}
use Rattle.rv_control.proofs.control.Control.names.Given as goal

abbrev pub invariant-loop-item : goal.invariant-loop-item
invariant-loop-item l = l.out ≡ l.fn.out ++ flat_map (name_line l.self l.enabled) (take l.item-index l.item-items)
