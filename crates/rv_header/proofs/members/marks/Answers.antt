use Rattle.std.proofs.Common.{◌++◌, ◌%◌, List, ℕ, [], ◌∷◌, ap, ◌∙◌, refl}
use Rattle.std.specs.Prelude.{◌==◌}
use Rattle.rv_dot.specs.Canonical.{State}
use Rattle.rv_header.specs.HeaderText.{mark_text}
use Rattle.rv_header.proofs.ListSteps.{marks_more}
use Rattle.rv_header.proofs.members.marks.Goals as goal

pub states-preserved : goal.states-preserved
states-preserved c =
    marks_more (λ (s : State). mark_text s.is_marked) c.args.states.now c.states.place c.states.bits c.states.made c.push.new.self _ (mark_text (c.states.bits % 2 == 1))
    (rw (← c.len.ensures) c.states-test.true) (λ _. refl) c.states.invariant
    (c.in_ok-push.ensures.ok ∙ ap (λ (z : List ℕ). c.states.made ++ z ∷ []) (c.in_ok-new.ensures ∙ c.mark.ensures))
