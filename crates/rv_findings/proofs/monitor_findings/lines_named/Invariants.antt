-- The lines so far and those that are to come are the whole.
use Rattle.std.proofs.Common.{◌≡◌, ◌++◌, drop}
use Rattle.rv_facts.specs.BindingLines.{lines_named}
use Rattle.rv_findings.proofs.monitor_findings.lines_named.Given as goal

abbrev pub invariant-lines : goal.invariant-lines
invariant-lines l = l.found.items ++ lines_named l.name (drop l.line-index l.lines) ≡ lines_named l.name l.lines
