use Rattle.std.proofs.Common.{ap, ◌∙◌, map, sym, subst}
use Rattle.std.specs.Prelude.{All}
use Rattle.std.proofs.lemmas.List.{take_all}
use Rattle.std.proofs.lemmas.List.Elements.{All-push}
use Rattle.rv_trace.specs.Fields.{field_of}
use Rattle.rv_trace.specs.FoundFields.{IsInside}
use Rattle.rv_route.proofs.MappedLemmas.{mapped-more, inside_from}
use Rattle.rv_route.proofs.asking.look_up.Goals as goal

pub loop-name-preserved : goal.loop-name-preserved
loop-name-preserved c =
    let fields = c.args.fields.now in
    let found = c.held_field.result in (
      mapped-more (field_of fields) c.args.names.now c.loop-name.name-index c.name-item.result found c.loop-name.found.items c.push.new.self.items c.loop-name-test.true c.name-item.is c.held_field.ensures.value c.loop-name.invariant.0 c.in_ok-push.ensures.items,
      subst (All (IsInside fields)) (sym c.in_ok-push.ensures.items) (All-push (IsInside fields) c.loop-name.found.items found c.loop-name.invariant.1 (inside_from fields found c.held_field.ensures.order c.held_field.ensures.inside)),
    )

pub returns-clause-found : goal.returns-clause-found
returns-clause-found c = c.loop-name.invariant.0 ∙ ap (map (field_of c.args.fields.now)) (take_all c.loop-name.name-index c.args.names.now c.loop-name-test.false)
