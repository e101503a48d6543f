use Rattle.rv_core.proofs.TableLemmas.{tables_are_judges}
use Rattle.rv_core.proofs.laws.tables_are_judges.Goals as goal

pub returns : goal.returns
returns c = tables_are_judges
