use Rattle.rv_model.proofs.SortLemmas.{sort_records-is}
use Rattle.rv_model.proofs.laws.records_ascend.Goals as goal

pub returns : goal.returns
returns c = sort_records-is
