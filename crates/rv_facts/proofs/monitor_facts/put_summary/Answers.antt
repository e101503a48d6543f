-- One text after another.
use Rattle.std.proofs.lemmas.Result.{on_ok_weaker}
use Rattle.rv_report.proofs.ChainLemmas.{count-is}
use Rattle.rv_facts.proofs.monitor_facts.put_summary.Goals as goal

pub returns : goal.returns
returns c =
    let n = c.args.c.now in
    on_ok_weaker c.text-6.result
    (λ last. count-is c.args.out.now c.args.name.now n.instances n.deliveries n.failures n.stopped c.in_ok-text.ensures.ok c.in_ok-text-2.ensures.ok c.in_ok-number.ensures.ok c.in_ok-text-3.ensures.ok c.in_ok-number-2.ensures.ok
    c.in_ok-text-4.ensures.ok c.in_ok-number-3.ensures.ok c.in_ok-text-5.ensures.ok c.in_ok-number-4.ensures.ok last)
    c.text-6.ensures.ok
