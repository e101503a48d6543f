-- What is left, without those that are to come, is what is left of all.
use Rattle.std.proofs.Common.{◌≡◌, ◌-◌, drop, map}
use Rattle.std.specs.Prelude.{sum}
use Rattle.rv_facts.specs.Facts.{other_lines}
use Rattle.rv_facts.proofs.facts.other_lines.Given as goal

abbrev pub invariant-told : goal.invariant-told
invariant-told l = l.left - sum (map (λ name. name.lines) (drop l.name-index l.told)) ≡ other_lines l.told l.c
