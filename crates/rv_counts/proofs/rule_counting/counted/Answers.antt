use Rattle.std.proofs.Common.{◌≡◌, ◌<◌, List, [], ◌∷◌, ◌++◌, length, get_or, map, Some, sym, ap, ap₂, ◌∙◌, subst, arith}
use Rattle.std.specs.Prelude.{IfSome, slice_get}
use Rattle.std.proofs.lemmas.List.{map_push, take_more}
use Rattle.std.proofs.lemmas.Option.{slice_get-get_or}
use Rattle.rv_matches.specs.Words.{Counted}
use Rattle.rv_counts.specs.RuleTold.{counted_told}
use Rattle.rv_counts.proofs.rule_counting.counted.Goals as goal

pub loop-place-preserved : goal.loop-place-preserved
loop-place-preserved c =
    let words = c.args.words.now.words in
    let place = c.loop-place.place in
    let inside : place < length words = omega (arith, c.len.ensures, c.len-place-end.ensures) in
    let none : Counted = ([], 0) in
    let counted : Counted = get_or words place none in
    let at : slice_get words place ≡ Some counted = slice_get-get_or words place none inside in
    let word : c.word.result.now ≡ counted.0 = subst (λ o. IfSome o (λ n. c.word.result.now ≡ n.0)) at c.word.ensures in
    let lines : c.count.result ≡ counted.1 = subst (λ o. IfSome o (λ n. c.count.result ≡ n.1)) at c.count.ensures in
    let told : ◌≡◌ {A = Counted} (c.in_ok-new.field-0, c.count.result) counted = λ i. ((c.in_ok-new.ensures ∙ word) i, lines i) in
    ap (map counted_told) c.in_ok-push.ensures.items
    ∙ map_push counted_told c.loop-place.list.items (record { word = c.in_ok-new.field-0; lines = c.count.result })
    ∙ ap₂ (λ (ws : List Counted) (w : Counted). ws ++ w ∷ []) c.loop-place.invariant told
    ∙ sym (take_more words place none inside)
