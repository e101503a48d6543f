-- One text after another.
use Rattle.std.proofs.Common.{ℕ, ◌++◌, flat_map, ap, ◌∙◌}
use Rattle.std.specs.Prelude.{codes}
use Rattle.std.proofs.lemmas.Result.{on_ok_weaker}
use Rattle.rv_report.proofs.ChainLemmas.{after}
use Rattle.rv_facts.specs.Facts.{unnamed_facts, other_lines}
use Rattle.rv_facts.specs.RuleFacts.{other_fact}
use Rattle.rv_facts.specs.Shown.{counted_fact}
use Rattle.rv_facts.proofs.facts.put_unnamed.Goals as goal

pub returns : goal.returns
unfolding unnamed_facts
returns c =
    on_ok_weaker c.put_other.result
    (λ last. after c.args.out.now (flat_map (counted_fact (codes "the trace: no rule names ")) c.args.told.now) (other_fact (codes "the trace: no rule names other events") (other_lines c.args.told.now c.args.c.now)) c.in_ok-put_all_counted.ensures
    (last ∙ ap (λ (n : ℕ). c.put_all_counted.new.out ++ other_fact (codes "the trace: no rule names other events") n) c.other_lines.ensures))
    c.put_other.ensures
