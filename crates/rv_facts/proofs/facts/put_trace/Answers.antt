-- One text after another.
use Rattle.std.proofs.Common.{List, ◌++◌, ap, ◌∙◌}
use Rattle.std.proofs.lemmas.Result.{on_ok_weaker}
use Rattle.rv_report.proofs.ChainLemmas.{after}
use Rattle.rv_facts.specs.declared.counts.Counted.{Counted}
use Rattle.rv_facts.specs.Facts.{trace_facts, counts_fact, unnamed, unnamed_facts}
use Rattle.rv_facts.proofs.facts.put_trace.Goals as goal

pub returns : goal.returns
unfolding trace_facts
returns c =
    on_ok_weaker c.put_unnamed.result
    (λ last. after c.args.out.now (counts_fact c.args.c.now) (unnamed_facts (unnamed c.args.rules.now c.args.c.now) c.args.c.now) c.in_ok-put_counts.ensures
    (last ∙ ap (λ (us : List Counted). c.put_counts.new.out ++ unnamed_facts us c.args.c.now) (c.deref.ensures.value ∙ c.in_ok-told.ensures)))
    c.put_unnamed.ensures
