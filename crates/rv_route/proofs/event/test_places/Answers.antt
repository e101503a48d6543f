use Rattle.std.proofs.Common.{◌≡◌, map, Some, ap, ◌∙◌, sym, take, arith}
use Rattle.std.specs.Prelude.{slice_get}
use Rattle.rv_route.specs.Events.{tested_field, tested_fields}
use Rattle.rv_route.proofs.EventLemmas.{places-more, extends-then, names-more}
use Rattle.rv_route.proofs.event.test_places.Goals as goal

pub loop-test-preserved : goal.loop-test-preserved
loop-test-preserved c =
    let tests = c.args.tests.now in
    let i = c.loop-test.test-index in
    let old = c.loop-test.names in
    let new = c.place.new.self in
    let named : c.bytes.result.now ≡ tested_field c.test-item.result = c.bytes.ensures ∙ c.tested_field.ensures in
    let grown = c.in_ok-place.ensures.grown in (
      ap (map (slice_get new)) c.in_ok-push.ensures.items
          ∙ places-more old new grown c.loop-test.places.items (tested_fields (take i tests)) c.in_ok-place.field-0 c.bytes.result.now c.loop-test.invariant.0 c.in_ok-place.ensures.place
          ∙ ap (map Some) (sym (names-more tests i c.test-item.result c.bytes.result.now (omega arith) c.test-item.is named)),
      extends-then c.args.names.now old new c.loop-test.invariant.1 grown,
    )
