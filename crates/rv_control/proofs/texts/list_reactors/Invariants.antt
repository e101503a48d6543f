use Rattle.std.proofs.Common.{◌≡◌, ◌++◌, take}
use Rattle.std.specs.Prelude.{flat_map}
use Rattle.rv_control.specs.FileTexts.{reactor_line}
use Rattle.rv_control.proofs.texts.list_reactors.Given as goal

abbrev pub invariant-loop-reactor : goal.invariant-loop-reactor
invariant-loop-reactor l = l.out ≡ l.fn.out ++ flat_map (reactor_line l.chosen) (take l.reactor-index l.reactors)
