use Rattle.rv_model.proofs.MeansLemmas.{table_means, judged_by_spec}
use Rattle.rv_model.proofs.laws.tables_mean.Goals as goal

pub returns-clause-mean : goal.returns-clause-mean
returns-clause-mean c = table_means

pub returns-clause-judge : goal.returns-clause-judge
returns-clause-judge c = judged_by_spec
