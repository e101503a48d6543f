use Rattle.rv_tool.proofs.ChangesLemmas.{AskedSoFar}
use Rattle.rv_tool.proofs.feed_beside.ask_all.Given as goal

-- the changes so far and those of the later commands are the script's
abbrev pub invariant-loop-numbered : goal.invariant-loop-numbered
invariant-loop-numbered l = AskedSoFar l.initial.control l.commands l.numbered-index l.control l.changes.items
