use Rattle.std.proofs.Common.{List, ℕ, subst}
use Rattle.rv_bind.specs.BoundViews.{bound_value}
use Rattle.rv_stream.specs.inner.Faults.{IsOutcome}
use Rattle.rv_tool.specs.inner.SessionValues.{session_value}
use Rattle.rv_tool.specs.Sessions.{session_text}
use Rattle.rv_tool.proofs.FrontReads.{session_reads}
use Rattle.rv_tool.proofs.control.run_script.Goals as goal

pub returns-clause-reads : goal.returns-clause-reads
returns-clause-reads g c =
    let file = c.args.script.now in
    let bound = bound_value c.args.bound.now in
    let tells = subst (λ (text : List ℕ). IsOutcome session_value c.run_text.result (session_text file bound text)) c.as_slice.ensures.value c.run_text.ensures in
    session_reads _ _ _ _ file c.in_ok-text.text c.in_ok-text.ensures.reads session_value bound c.run_text.result tells
