use Rattle.rv_model.proofs.JudgeLemmas.{judges_are_one}
use Rattle.rv_model.proofs.TableJudgeLemmas.{every_table_is_judged}
use Rattle.rv_model.proofs.laws.tables_are_judged.Goals as goal

pub returns-clause-some : goal.returns-clause-some
returns-clause-some c = every_table_is_judged

pub returns-clause-one : goal.returns-clause-one
returns-clause-one c = judges_are_one
