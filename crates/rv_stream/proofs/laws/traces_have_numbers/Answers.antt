use Rattle.rv_stream.proofs.RefusedLemmas.{trace_refused_by}
use Rattle.rv_stream.proofs.laws.traces_have_numbers.Goals as goal

pub returns : goal.returns
returns c = trace_refused_by
