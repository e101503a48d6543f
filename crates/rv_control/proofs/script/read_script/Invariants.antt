use Rattle.std.proofs.Common.{◌≡◌, length}
use Rattle.rv_control.specs.Scripts.{commands_of_lines, script_of}
use Rattle.rv_text.specs.Readings.{onto}
use Rattle.rv_control.proofs.script.read_script.Given as goal

abbrev pub invariant-loop-line : goal.invariant-loop-line
invariant-loop-line l = script_of l.bytes ≡ onto l.commands.items (commands_of_lines l.lines)

abbrev pub decreases-loop-line : goal.decreases-loop-line
decreases-loop-line l = length l.lines
