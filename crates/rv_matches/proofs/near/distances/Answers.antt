use Rattle.std.proofs.Common.{◌≡◌, ◌<◌, ℕ, List, [], ◌∷◌, ◌++◌, length, get_or, map, min, take, Some, sym, ap, ap₂, ◌∙◌, subst, arith}
use Rattle.std.specs.Prelude.{IfSome, slice_get}
use Rattle.std.proofs.lemmas.List.{map_push, take_more}
use Rattle.std.proofs.lemmas.Option.{slice_get-get_or}
use Rattle.rv_matches.specs.Nearest.{distance}
use Rattle.rv_matches.specs.Words.{Counted}
use Rattle.rv_matches.proofs.near.distances.Goals as goal

pub loop-place-preserved : goal.loop-place-preserved
loop-place-preserved c =
    let words = c.args.names.now.words in
    let event = c.args.event.now in
    let place = c.loop-place.place in
    let inside : place < length words = omega (arith, c.len.ensures, c.len-place-end.ensures) in
    let none : Counted = ([], 0) in
    let counted : Counted = get_or words place none in
    let at : slice_get words place ≡ Some counted = slice_get-get_or words place none inside in
    let named : c.word.result.now ≡ counted.0 = subst (λ o. IfSome o (λ n. c.word.result.now ≡ n.0)) at c.word.ensures in
    let value : min c.in_ok-distance.field-0 c.args.far ≡ min (distance event counted.0) c.args.far = sym c.in_ok-distance.ensures ∙ ap (λ (n : List ℕ). min (distance event n) c.args.far) named in
    ap (map (λ d. min d c.args.far)) c.in_ok-push.ensures.items
    ∙ map_push (λ d. min d c.args.far) c.loop-place.list.items c.in_ok-distance.field-0
    ∙ ap₂ (λ (ds : List ℕ) (d : ℕ). ds ++ d ∷ []) c.loop-place.invariant value
    ∙ sym (ap (map (λ (n : Counted). min (distance event n.0) c.args.far)) (take_more words place none inside) ∙ map_push (λ (n : Counted). min (distance event n.0) c.args.far) (take place words) counted)
