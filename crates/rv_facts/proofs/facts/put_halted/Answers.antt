-- One text after another.
use Rattle.std.proofs.Common.{◌++◌}
use Rattle.std.specs.Prelude.{codes}
use Rattle.std.proofs.lemmas.Result.{on_ok_weaker}
use Rattle.rv_model.specs.Reports.{line_end}
use Rattle.rv_report.proofs.ChainLemmas.{after}
use Rattle.rv_facts.specs.Shown.{numbered}
use Rattle.rv_facts.proofs.facts.put_halted.Goals as goal

pub returns : goal.returns
returns c =
    let line = numbered (codes "the run: halted on line") c.args.line in
    let undelivered = numbered (codes ", not delivered") c.args.undelivered in
    on_ok_weaker c.text.result
    (λ last. after c.args.out.now (line ++ undelivered) line_end (after c.args.out.now line undelivered c.in_ok-put_number.ensures c.in_ok-put_number-2.ensures) last)
    c.text.ensures.ok
