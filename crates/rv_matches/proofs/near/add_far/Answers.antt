use Rattle.std.proofs.Common.{◌≡◌, ◌<◌, [], ◌++◌, length, get_or, min, take, Some, sym, ap, ◌∙◌, subst, arith}
use Rattle.std.specs.Prelude.{IfSome, slice_get}
use Rattle.std.proofs.lemmas.List.{get_or-map}
use Rattle.std.proofs.lemmas.Option.{slice_get-get_or}
use Rattle.rv_matches.specs.declared.near.TheConstants.{MOST_NEAR}
use Rattle.rv_matches.specs.Nearest.{distance}
use Rattle.rv_matches.specs.inner.NamesNear.{near_at}
use Rattle.rv_matches.specs.Words.{Counted}
use Rattle.rv_matches.proofs.FarLemmas.{same_near}
use Rattle.rv_matches.proofs.NearLemmas.{found_more}
use Rattle.rv_matches.proofs.near.add_far.Goals as goal

pub loop-place-preserved : goal.loop-place-preserved
loop-place-preserved c =
    let words = c.args.names.now.words in
    let place = c.loop-place.place in
    let inside : place < length words = omega (arith, c.requires.many) in
    let some : place < length c.args.distances.now = omega (arith, c.requires.many) in
    let none : Counted = ([], 0) in
    let counted : Counted = get_or words place none in
    let dist = get_or c.args.distances.now place 0 in
    let at : slice_get words place ≡ Some counted = slice_get-get_or words place none inside in
    let one = subst (λ o. IfSome o (λ counted. c.add_near.new.found.items ≡ take MOST_NEAR (c.loop-place.found.items ++ near_at counted dist c.args.far))) at c.in_ok-add_near.ensures.added in
    record {
      few = c.in_ok-add_near.ensures.few;
      added = λ event least within are.
          let near : min dist least ≡ min (distance event counted.0) least =
          sym (get_or-map (λ d. min d least) c.args.distances.now place 0 0 some) ∙ ap (λ ds. get_or ds place 0) are ∙ get_or-map (λ (n : Counted). min (distance event n.0) least) words place none 0 inside in
          found_more event words c.args.far place dist counted c.args.found.now.items c.loop-place.found.items c.add_near.new.found.items at (same_near counted dist (distance event counted.0) c.args.far least within near)
          (c.loop-place.invariant.added event least within are) one;
    }
