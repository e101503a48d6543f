-- The lines so far and those that are to come are the whole.
use Rattle.std.proofs.Common.{◌≡◌, ◌++◌, drop}
use Rattle.rv_facts.specs.BindingLines.{begin_lines}
use Rattle.rv_findings.proofs.spec_findings.add_begin_lines.Given as goal

abbrev pub invariant-lines : goal.invariant-lines
invariant-lines l = l.found.items ++ begin_lines l.called l.atom (drop l.line-index l.lines) ≡ l.initial.found.items ++ begin_lines l.called l.atom l.lines
