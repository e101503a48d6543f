-- Each monitor has its table.
use Rattle.rv_bind.specs.BoundViews.{bound_value}
use Rattle.rv_findings.proofs.FormedLemmas.{tables_enough}
use Rattle.rv_findings.proofs.coverage.coverage_text.Goals as goal

pub put_facts-requires : goal.put_facts-requires
put_facts-requires c = tables_enough (bound_value c.args.told.now.bound.now) c.requires
