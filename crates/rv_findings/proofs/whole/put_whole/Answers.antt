-- One share after another.
use Rattle.std.proofs.Common.{List, ℕ, ◌++◌}
use Rattle.std.specs.Prelude.{codes}
use Rattle.std.proofs.lemmas.Result.{on_ok_weaker}
use Rattle.rv_model.specs.Reports.{line_end}
use Rattle.rv_report.proofs.ChainLemmas.{after}
use Rattle.rv_facts.specs.declared.monitor_facts.Share.{Share}
use Rattle.rv_facts.specs.declared.monitor_facts.Share.TheVariants.{States, Edges, Rows, Atoms}
use Rattle.rv_facts.specs.Shown.{numbered}
use Rattle.rv_findings.specs.Whole.{all_numbers, share_text, watched_text, whole_text}
use Rattle.rv_findings.proofs.whole.put_whole.Goals as goal

pub returns : goal.returns
unfolding whole_text
returns c =
    let o = c.args.out.now in
    let numbers : Share → List ℕ = λ share. all_numbers share c.args.monitors.now c.args.counts.now.monitors.items in
    let w = watched_text c.args.counts.now in
    let s = share_text (codes ", states reached") (numbers States) in
    let e = share_text (codes ", edges taken") (numbers Edges) in
    let r = share_text (codes ", rows reached") (numbers Rows) in
    let a = share_text (codes ", atoms true") (numbers Atoms) in
    let f = numbered (codes ", findings") c.args.findings in
    let one = after o w s c.in_ok-put_watched.ensures c.in_ok-put_all.ensures in
    let two = after o (w ++ s) e one c.in_ok-put_all-2.ensures in
    let three = after o (w ++ s ++ e) r two c.in_ok-put_all-3.ensures in
    let four = after o (w ++ s ++ e ++ r) a three c.in_ok-put_all-4.ensures in
    let five = after o (w ++ s ++ e ++ r ++ a) f four c.in_ok-put_number.ensures in
    on_ok_weaker c.text.result (λ last. after o (w ++ s ++ e ++ r ++ a ++ f) line_end five last) c.text.ensures.ok
