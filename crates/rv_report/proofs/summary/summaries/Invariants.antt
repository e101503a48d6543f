-- The lines so far.
use Rattle.std.proofs.Common.{◌≡◌, ◌++◌, List, take}
use Rattle.rv_model.specs.declared.record.Record.{Record}
use Rattle.rv_model.specs.declared.record.Task.{Task}
use Rattle.rv_model.specs.Reports.{summaries_text}
use Rattle.rv_report.specs.Reported.{reported_of}
use Rattle.rv_report.specs.Tallies.{AreTallies}
use Rattle.rv_report.proofs.summary.summaries.Given as goal

abbrev pub invariant-loop-place : goal.invariant-loop-place
invariant-loop-place l = (tasks : List Task) (rs : List Record) → AreTallies (reported_of l.bindings) tasks rs l.tallies → l.out ≡ l.fn.out ++ summaries_text tasks rs 0 (take l.place (reported_of l.bindings))
