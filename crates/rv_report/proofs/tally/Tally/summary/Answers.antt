-- The marks are counted.
use Rattle.std.proofs.Common.{refl}
use Rattle.rv_report.proofs.TallyLemmas.{summary-is}
use Rattle.rv_report.proofs.tally.Tally.summary.Goals as goal

pub returns : goal.returns
returns c = λ tasks rs monitor m is. summary-is tasks rs monitor m c.args.self.now _ c.instances.ensures refl refl refl is
