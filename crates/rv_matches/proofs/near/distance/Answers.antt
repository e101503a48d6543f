use Rattle.std.proofs.Common.{◌≡◌, List, ℕ, min, sym, ap₂, ◌∙◌, subst}
use Rattle.rv_matches.specs.Nearest.{distance, edits, own_name}
use Rattle.rv_matches.specs.inner.NamesNear.{IsAsNear}
use Rattle.rv_matches.proofs.FarLemmas.{least_near}
use Rattle.rv_matches.proofs.near.distance.Goals as goal

pub returns : goal.returns
returns c =
    let far = c.args.far in
    let one = c.args.one.now in
    let other = c.args.other.now in
    let first = c.in_ok-near_edits.field-0 in
    let second = c.in_ok-near_edits-2.field-0 in
    let third = c.in_ok-near_edits-3.field-0 in
    let its : c.own_name-its.result.now ≡ own_name other = c.own_name-its.ensures in
    let by_its : IsAsNear far (edits one (own_name other)) first = subst (λ (n : List ℕ). IsAsNear far (edits one n) first) its c.in_ok-near_edits.ensures in
    let by_own : IsAsNear far (edits (own_name one) other) second = subst (λ (n : List ℕ). IsAsNear far (edits n other) second) c.requires c.in_ok-near_edits-2.ensures in
    let by_both : IsAsNear far (edits (own_name one) (own_name other)) third =
    subst (λ (n : List ℕ). IsAsNear far (edits n (own_name other)) third) c.requires (subst (λ (n : List ℕ). IsAsNear far (edits c.args.own.now n) third) its c.in_ok-near_edits-3.ensures) in
    subst (IsAsNear far (distance one other)) (sym (c.min.ensures ∙ ap₂ min c.min-whole.ensures c.min-part.ensures))
    (least_near far _ _ _ _ (least_near far _ _ _ _ c.in_ok-whole.ensures by_its) (least_near far _ _ _ _ by_own by_both))
