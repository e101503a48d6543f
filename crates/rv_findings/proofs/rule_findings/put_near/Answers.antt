-- The name is told.
use Rattle.std.proofs.Common.{List, ℕ, ◌++◌, ap, ◌∙◌}
use Rattle.std.specs.Prelude.{codes}
use Rattle.std.proofs.lemmas.Result.{on_ok_weaker}
use Rattle.rv_facts.specs.Shown.{worded}
use Rattle.rv_findings.proofs.rule_findings.put_near.Goals as goal

pub returns : goal.returns
returns c = on_ok_weaker c.put_word.result (λ last. last ∙ ap (λ (word : List ℕ). c.args.out.now ++ worded (codes ", and the nearest that it has is ") word) c.bytes-word.ensures) c.put_word.ensures
