use Rattle.std.proofs.Common.{◌+◌, sym, ◌∙◌, arith}
use Rattle.rv_text.proofs.LeastLemmas.{run_end-is}
use Rattle.rv_trace.proofs.RunLemmas.{run_end-on, AreOf-then}
use Rattle.rv_trace.proofs.runs.wide_end.Goals as goal

pub loop-place-preserved : goal.loop-place-preserved
loop-place-preserved c =
    let kept = c.loop-place.invariant in
    let run = c.run_in-run.ensures in (
      omega arith,
      omega (arith, run.most),
      AreOf-then c.args.kind c.args.text.now c.args.from c.loop-place.place (c.loop-place.place + c.run_in-run.result) kept.2 run.each,
    )

pub returns-then-run-lt-WIDTH-clause-value : goal.returns-then-run-lt-WIDTH-clause-value
returns-then-run-lt-WIDTH-clause-value c =
    let kept = c.loop-place.invariant in
    let run = c.run_in-run.ensures in
    sym (run_end-is c.args.kind c.args.text.now c.args.from (c.loop-place.place + c.run_in-run.result) (omega arith) (omega (arith, run.most))
    (AreOf-then c.args.kind c.args.text.now c.args.from c.loop-place.place (c.loop-place.place + c.run_in-run.result) kept.2 run.each)
    (λ _. run.stop c.if-run-lt-WIDTH.true))

pub returns-clause-value : goal.returns-clause-value
returns-clause-value c =
    let kept = c.loop-place.invariant in
    c.tail_end.ensures.value ∙ sym (run_end-on c.args.kind c.args.text.now c.args.from c.loop-place.place kept.0 kept.1 kept.2)
