use Rattle.std.proofs.Common.{◌≡◌, List, ℕ, sym, ap, ◌∙◌, Some, None}
use Rattle.std.specs.Prelude.{slice_get, option_copied}
use Rattle.rv_trace.specs.FieldNames.{place_in}
use Rattle.rv_trace.proofs.field_names.FieldNames.place.Goals as goal

pub returns-in-Some-clause-place : goal.returns-in-Some-clause-place
returns-in-Some-clause-place c =
    ap (λ (names : List (List ℕ)). slice_get names c.in-Some.place.now) (sym c.self.view_is) ∙ c.self.invariant.0.each c.in-Some.place.now c.args.name.now (sym c.get.ensures.value ∙ ap option_copied c.in-Some.is)

pub add-requires : goal.add-requires
add-requires c place is =
    let new : place_in c.self.inside.places c.args.name.now ≡ None = sym c.get.ensures.value ∙ ap option_copied c.in_default.is in
    let there : slice_get c.self.inside.names.items place ≡ Some c.args.name.now = ap (λ (names : List (List ℕ)). slice_get names place) c.self.view_is ∙ is in
    let placed = c.self.invariant.0.has place c.args.name.now there in cc
