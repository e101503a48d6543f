use Rattle.std.proofs.Common.{◌≡◌, ◌++◌, List, ℕ, [], ◌∷◌, ap, ◌∙◌, sym}
use Rattle.std.specs.Prelude.{Some}
use Rattle.rv_dot.specs.Canonical.{quoted}
use Rattle.rv_header.proofs.ListSteps.{mapped_more}
use Rattle.rv_header.proofs.members.quoted.Goals as goal

pub names-preserved : goal.names-preserved
names-preserved c =
    let made : c.in_ok-new.field-0 ≡ quoted c.bytes.result.now = c.in_ok-new.ensures ∙ c.bytes-in-names.ensures ∙ c.in_ok-put_quoted.ensures ∙ ap (λ (z : List ℕ). z ++ quoted c.bytes.result.now) c.new-text.ensures in
    mapped_more quoted c.args.names.now c.names.place c.bytes.result.now c.names.made c.push.new.self _
    (rw (← c.len.ensures) c.names-test.true) (c.get.ensures ∙ ap Some (sym c.bytes.ensures)) c.names.invariant
    (c.in_ok-push.ensures.ok ∙ ap (λ (z : List ℕ). c.names.made ++ z ∷ []) made)
