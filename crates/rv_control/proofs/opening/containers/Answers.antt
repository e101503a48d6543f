use Rattle.std.proofs.Common.{List, ℕ, [], ◌∷◌, ◌++◌, take, sym, ap, ◌∙◌}
use Rattle.rv_control.proofs.TextLemmas.{taken-more}
use Rattle.rv_control.proofs.opening.containers.Goals as goal

pub loop-place-preserved : goal.loop-place-preserved
loop-place-preserved c =
    c.in_ok-push.ensures.items
    ∙ ap (λ (list : List (List ℕ)). list ++ c.in_ok-name.name ∷ []) c.loop-place.invariant
    ∙ ap (λ (name : List ℕ). take c.loop-place.place c.args.names.now ++ name ∷ []) (c.in_ok-name.ensures ∙ c.bytes.ensures)
    ∙ taken-more c.args.names.now c.loop-place.place c.get.result.now c.get.ensures
