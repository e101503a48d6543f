use Rattle.rv_tableau.proofs.TableMeans.{table_means}
use Rattle.rv_tableau.proofs.laws.table_means_rule.Goals as goal

pub returns : goal.returns
returns c rule is parts table normal given = table_means rule is parts table normal given
