-- The texts so far and those of the later commands are the script's.
use Rattle.rv_tool.proofs.SessionLemmas.{RanSoFar}
use Rattle.rv_tool.proofs.control.run_commands.Given as goal

abbrev pub invariant-commands : goal.invariant-commands
invariant-commands l = RanSoFar l.script l.initial.control l.commands l.numbered-index l.control l.out l.is_refused
