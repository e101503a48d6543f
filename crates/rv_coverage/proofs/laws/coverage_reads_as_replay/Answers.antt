use Rattle.rv_coverage.proofs.ReplayReadsLemmas.{told_alike, untold_alike}
use Rattle.rv_coverage.proofs.laws.coverage_reads_as_replay.Goals as goal

pub returns : goal.returns
returns c = record { told = told_alike; untold = untold_alike }
