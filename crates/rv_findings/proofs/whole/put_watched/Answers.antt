-- One share after another.
use Rattle.std.proofs.Common.{◌≡◌, List, ℕ, ◌++◌, map, ap, ◌∙◌}
use Rattle.std.specs.Prelude.{codes}
use Rattle.std.proofs.lemmas.Result.{on_ok_weaker}
use Rattle.rv_report.proofs.ChainLemmas.{after}
use Rattle.rv_facts.specs.declared.counts.MonitorCounts.{MonitorCounts}
use Rattle.rv_facts.specs.declared.counts.RuleCounts.{RuleCounts}
use Rattle.rv_findings.specs.Whole.{share_text, watched_text}
use Rattle.rv_findings.proofs.whole.put_watched.Goals as goal

pub returns : goal.returns
unfolding watched_text
returns c =
    let fires : List ℕ = map (λ (r : RuleCounts). r.fires) c.args.counts.now.rules.items in
    let started : List ℕ = map (λ (m : MonitorCounts). m.instances_started) c.args.counts.now.monitors.items in
    let fires_are : c.deref-2.result.now ≡ fires = c.deref-2.ensures.value ∙ c.in_ok-fires.ensures ∙ ap (map (λ (r : RuleCounts). r.fires)) c.deref.ensures.value in
    let started_are : c.deref-4.result.now ≡ started = c.deref-4.ensures.value ∙ c.in_ok-started.ensures ∙ ap (map (λ (m : MonitorCounts). m.instances_started)) c.deref-3.ensures.value in
    on_ok_weaker c.put_share-2.result
    (λ last. after c.args.out.now (share_text (codes "all monitors: rules fired") fires) (share_text (codes ", monitors started") started)
    (c.in_ok-put_share.ensures ∙ ap (λ (ns : List ℕ). c.args.out.now ++ share_text (codes "all monitors: rules fired") ns) fires_are)
    (last ∙ ap (λ (ns : List ℕ). c.put_share.new.out ++ share_text (codes ", monitors started") ns) started_are))
    c.put_share-2.ensures
