use Rattle.rv_findings.proofs.TraceZeros.{trace_zeros}
use Rattle.rv_findings.proofs.ZerosLemmas.{bindings_zeros}
use Rattle.rv_findings.proofs.laws.findings_are_zeros.Goals as goal

pub returns-clause-bindings : goal.returns-clause-bindings
returns-clause-bindings c = bindings_zeros

pub returns-clause-trace : goal.returns-clause-trace
returns-clause-trace c = trace_zeros
