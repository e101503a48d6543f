use Rattle.std.proofs.Common.{◌≡◌, ◌++◌, List, refl, sym, ap, ◌∙◌}
use Rattle.std.proofs.lemmas.List.{append-nil, take_all}
use Rattle.std.specs.List.{filter_map}
use Rattle.std.specs.Option.{option_to_list}
use Rattle.rv_dot.specs.declared.saying.Saying.{Saying}
use Rattle.rv_dot.specs.inner.Held.{sayings_claims}
use Rattle.rv_dot.specs.inner.Gathering.{gathered_by}
use Rattle.rv_dot.proofs.Gathering.{one_more}
use Rattle.rv_dot.proofs.gather.names_in.Goals as goal
use Rattle.rv_dot.proofs.gather.names_in.Goals.{in-Some+in_ok-push, in_default}

pub sayings-preserved : goal.sayings-preserved
sayings-preserved c =
    let grown : c.match-gathered_by.found.items ≡ c.sayings.found.items ++ option_to_list c.gathered_by.result =
    elim c.match-gathered_by.branch [
      | in-Some+in_ok-push w ↦ rw (w.found-is, w.in_ok-push.ensures.items, w.in-Some.is) refl
      | in_default w ↦ rw (w.found-is, w.in_default.is) (sym (append-nil c.sayings.found.items))
    ] in
    one_more (gathered_by c.args.kind) c.args.said.now c.sayings.saying-index c.saying-item.result c.sayings.found.items c.match-gathered_by.found.items c.gathered_by.result c.sayings-test.true c.sayings.invariant (rw (← c.saying-item.is) c.gathered_by.ensures) grown

pub returns : goal.returns
returns c = c.sayings.invariant ∙ ap (λ (said : List Saying). filter_map (gathered_by c.args.kind) (sayings_claims said)) (take_all c.sayings.saying-index c.args.said.now c.sayings-test.false)
