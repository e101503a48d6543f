use Rattle.std.proofs.Common.{◌≡◌, length, ◌<◌, get_or, sym, ap, ◌∙◌, arith}
use Rattle.std.proofs.lemmas.List.{get_or_default}
use Rattle.std.proofs.lemmas.Result.{on_ok_weaker}
use Rattle.rv_route.specs.declared.field_tests.FieldTest.{FieldTest}
use Rattle.rv_route.proofs.FieldTestLemmas.{narrowed-more}
use Rattle.rv_route.proofs.field_tests.add.Goals as goal

pub returns-then-index-place : goal.returns-then-index-place
returns-then-index-place c =
    let list = c.args.list.now.items in
    let at = c.match-get.at in
    let inside : at < length list = omega (arith, c.if-at-len.true) in
    let same : get_or list at c.index_mut.result.now ≡ c.index.result.now = get_or_default list at c.index_mut.result.now c.index.result.now inside ∙ sym c.index.ensures in
    let here : (get_or list at c.index_mut.result.now).place ≡ c.args.place = ap (λ (o : FieldTest). o.place) same ∙ c.if-index-place.true in
    on_ok_weaker c.narrow.result (narrowed-more list at c.args.place c.args.test.now c.index_mut.result.now c.narrow.new.self inside c.index_mut.ensures.value here) c.narrow.ensures
