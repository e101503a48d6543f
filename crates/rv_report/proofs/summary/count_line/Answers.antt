-- One text after another.
use Rattle.std.proofs.Common.{refl}
use Rattle.std.proofs.lemmas.Result.{on_ok_weaker}
use Rattle.rv_report.specs.Reported.{reported}
use Rattle.rv_report.proofs.ChainLemmas.{count-is}
use Rattle.rv_report.proofs.summary.count_line.Goals as goal

pub returns : goal.returns
returns c =
    let m = c.args.monitor.now in
    let s = c.args.summary.now in
    let shown = (reported c.args.containers.now m).display_name in
    on_ok_weaker c.text.result
    (λ last. count-is c.args.out.now shown s.instances s.deliveries s.failures s.stopped c.in_ok-display_name.ensures
    refl c.in_ok-put_text_number.ensures refl c.in_ok-put_text_number-2.ensures refl c.in_ok-put_text_number-3.ensures refl c.in_ok-put_text_number-4.ensures last)
    c.text.ensures.ok
