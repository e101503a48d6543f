use Rattle.std.proofs.Common.{ℕ, ◌+◌, List, Bool, false, length, ap, ◌∙◌}
use Rattle.std.proofs.lemmas.List.{length_push}
use Rattle.rv_ltl.specs.inner.Reached.{flag_at}
use Rattle.rv_ltl.proofs.Elements.{push-default}
use Rattle.rv_ltl.proofs.uses.all_false.Goals as goal

pub loop-preserved : goal.loop-preserved
loop-preserved c =
    let pushed = c.in_ok-push.ensures.items in
    let none = c.loop.invariant in
    (ap length pushed ∙ length_push c.loop.flags.items false ∙ ap (λ (n : ℕ). n + 1) none.0, λ i. ap (λ (fs : List Bool). flag_at fs i) pushed ∙ push-default c.loop.flags.items false i ∙ none.1 i)
