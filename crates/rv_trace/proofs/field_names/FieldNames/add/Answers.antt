use Rattle.std.proofs.Common.{◌≡◌, List, [], ◌∷◌, ◌++◌, length, Bool, ◌&&◌, cond, rules, ℕ, sym, ap, ap₂, ◌∙◌, Some, None}
use Rattle.std.specs.Prelude.{slice_get, bytes_eq}
use Rattle.std.specs.List.{list_all}
use Rattle.rv_trace.specs.FieldNames.{place_in, is_plain_byte}
use Rattle.rv_trace.proofs.OrderedLemmas.{map-put}
use Rattle.rv_trace.proofs.NamingLemmas.{not-placed, places-more, plain-more, get-front, get-last}
use Rattle.rv_trace.proofs.field_names.FieldNames.add.Goals.{then-self, else-self}
use Rattle.rv_trace.proofs.field_names.FieldNames.add.Goals as goal

pub invariant_of-self-2 : goal.invariant_of-self-2
invariant_of-self-2 c =
    let name = c.args.name.now in
    let names = c.self.inside.names.items in
    let places = c.self.inside.places in
    let new : place_in places name ≡ None = not-placed names name places c.self.invariant.0 (rw (← c.self.view_is) at c.requires) in
    let key : c.in_ok-key.key.items ≡ name = c.in_ok-key.ensures.items in
    let last : c.len-place.result ≡ length names = search rules in
    let put : (other : List ℕ) → place_in c.insert.new.self other ≡ cond (bytes_eq name other) (Some (length names)) (place_in places other) =
    λ other. map-put c.in_ok-key.key.items places c.insert.new.self (Some c.len-place.result) c.in_ok-insert.ensures.updates other
    ∙ ap₂ (λ (k : List ℕ) (n : ℕ). cond (bytes_eq k other) (Some n) (place_in places other)) key last in
    let longer : c.push.new.self.items ≡ names ++ name ∷ [] = c.in-Ok.ensures.items ∙ ap₂ (λ (xs : List (List ℕ)) (x : List ℕ). xs ++ x ∷ []) c.reserve.ensures.items c.in_ok-owned.ensures in
    let plain : c.if-self.plain ≡ (c.self.inside.plain && list_all is_plain_byte name) =
    elim c.if-self.branch [
      | then-self w ↦ w.plain-is ∙ w.is_plain-plain.ensures ∙ ap (λ (b : Bool). b && list_all is_plain_byte name) (sym w.if-self.true)
      | else-self w ↦ w.plain-is ∙ w.if-self.false ∙ ap (λ (b : Bool). b && list_all is_plain_byte name) (sym w.if-self.false)
    ] in
    rw longer (
      places-more names name places c.insert.new.self c.self.invariant.0 new put,
      plain-more c.self.inside.plain c.if-self.plain names name c.self.invariant.1 plain,
    )

pub returns-clause-place : goal.returns-clause-place
returns-clause-place c =
    let names = c.self.inside.names.items in
    let last : c.len-place.result ≡ length names = search rules in
    let longer : c.push.new.self.items ≡ names ++ c.args.name.now ∷ [] = c.in-Ok.ensures.items ∙ ap₂ (λ (xs : List (List ℕ)) (x : List ℕ). xs ++ x ∷ []) c.reserve.ensures.items c.in_ok-owned.ensures in
    rw (longer, last) (get-last names c.args.name.now)

pub returns-clause-grown : goal.returns-clause-grown
returns-clause-grown c place name is =
    let longer : c.push.new.self.items ≡ c.self.inside.names.items ++ c.args.name.now ∷ [] = c.in-Ok.ensures.items ∙ ap₂ (λ (xs : List (List ℕ)) (x : List ℕ). xs ++ x ∷ []) c.reserve.ensures.items c.in_ok-owned.ensures in
    let there : slice_get c.self.inside.names.items place ≡ Some name = ap (λ (names : List (List ℕ)). slice_get names place) c.self.view_is ∙ is in
    ap (λ (names : List (List ℕ)). slice_get names place) longer ∙ get-front c.self.inside.names.items c.args.name.now place name there
