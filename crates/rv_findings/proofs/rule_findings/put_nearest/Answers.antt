-- The first name is told.
use Rattle.std.proofs.Common.{◌<◌, List, ℕ, ◌++◌, length, arith, sym, ap, ◌∙◌}
use Rattle.std.proofs.lemmas.Result.{on_ok_weaker}
use Rattle.rv_findings.proofs.NeverLemmas.{nearest_is}
use Rattle.rv_findings.proofs.rule_findings.put_nearest.Goals as goal

pub returns-in-len1-up : goal.returns-in-len1-up
returns-in-len1-up c =
    let some : 0 < length c.args.near.now = omega arith in
    on_ok_weaker c.put_near.result (λ last. last ∙ ap (λ (text : List ℕ). c.args.out.now ++ text) (sym (nearest_is c.args.near.now c.first-item.result some c.first-item.is))) c.put_near.ensures
