use Rattle.std.specs.List.{AllZip}
use Rattle.rv_journal.specs.Enabled.{IsEnabledWork}
use Rattle.rv_journal.proofs.enabled.enabled_works.Given as goal

-- what was taken so far was shown
abbrev pub invariant-loop-work : goal.invariant-loop-work
invariant-loop-work l = AllZip (IsEnabledWork l.switches) l.yielded l.shown.items
