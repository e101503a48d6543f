use Rattle.std.proofs.Common.{◌≡◌, false, subst}
use Rattle.std.specs.Prelude.{IfOk}
use Rattle.rv_check.specs.Verdicts.{Journal}
use Rattle.rv_tool.proofs.JudgedLemmas.{begins_judged}
use Rattle.rv_tool.proofs.check.reader.Goals as goal

pub returns-clause-begins : goal.returns-clause-begins
returns-clause-begins c =
    subst (λ (j : Journal). IfOk c.reader_of.result (λ r. r ≡ record { journal = j; stopped = false }))
    (begins_judged c.args.ready c.requires c.as_slice.result.now c.panic_bits-panics.result c.as_slice.ensures.value c.panic_bits-panics.ensures) c.reader_of.ensures.begins
