use Rattle.rv_trace.proofs.AscendLemmas.{trace_ascends}
use Rattle.rv_trace.proofs.laws.traces_ascend.Goals as goal

pub returns : goal.returns
returns c text lines is = trace_ascends text lines is
