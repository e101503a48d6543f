use Rattle.std.proofs.Common.{◌≡◌, drop}
use Rattle.rv_tool.specs.CountsFit.{monitors_fit_counts}
use Rattle.rv_tool.proofs.counts_fit.monitors_fit_counts.Given as goal

-- all are narrow where those from here on are
abbrev pub invariant-loop-place : goal.invariant-loop-place
invariant-loop-place l = monitors_fit_counts l.monitors l.tables ≡ monitors_fit_counts (drop l.place l.monitors) (drop l.place l.tables)
