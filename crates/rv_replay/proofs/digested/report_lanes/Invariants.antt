-- The records of the lanes so far are found.
use Rattle.std.proofs.Common.{take}
use Rattle.rv_feed.specs.Lane.{lane_records}
use Rattle.rv_report.specs.Reported.{reported_of}
use Rattle.rv_report.specs.Tallies.{IsFound}
use Rattle.rv_replay.proofs.digested.report_lanes.Given as goal

abbrev pub invariant-loop-lane : goal.invariant-loop-lane
invariant-loop-lane l = IsFound (reported_of l.bindings) l.tasks (lane_records (take l.lane-index l.lanes)) l.found
