-- Rules keep their places while names come in, and a line's rules are those of its event.
use Rattle.std.proofs.Common.{◌≡◌, ℕ, zero, suc, ◌+◌, ◌<◌, Bool, true, cond, List, [], ◌∷◌, ◌++◌, length, get_or, take, map, Option, Some, None, refl, sym, ap, ap₂, ◌∙◌, subst, arith}
use Rattle.std.specs.Prelude.{filter, option_map, bytes_eq, slice_get}
use Rattle.std.specs.List.{AllZip}
use Rattle.std.proofs.lemmas.List.{append_assoc, append-nil, length-take, map_push, take_more}
use Rattle.std.proofs.lemmas.List.Elements.{filter_more}
use Rattle.std.proofs.lemmas.Option.{slice_get-map, get_or_from_slice_get}
use Rattle.std.proofs.lemmas.Slice.Eq.{bytes_eq-Decides}
use Rattle.rv_trace.specs.Fields.{field_of}
use Rattle.rv_trace.specs.declared.line.Span.{Span}
use Rattle.rv_bind.specs.declared.bindings.Test.{Test}
use Rattle.rv_bind.specs.RuleValues.{OnValue}
use Rattle.rv_route.specs.declared.event.Asked.{Asked}
use Rattle.rv_route.specs.Events.{HasFields, IsAsked, tested_field, tested_fields, is_on_event, places_on, HasFound}
use Rattle.rv_trace.specs.FoundFields.{Extends, found_at, AreFound}

-- equal bytes are equal
pub same_bytes : (a b : List ℕ) → bytes_eq a b ≡ true → a ≡ b
same_bytes a b is = (bytes_eq-Decides a b).0 is

-- bytes are found equal to themselves
pub itself : (a : List ℕ) → bytes_eq a a ≡ true
itself a = (bytes_eq-Decides a a).1 refl

-- ---- names that come in

-- names that keep their places in two steps keep them in both together
pub extends-then : (a b c : List (List ℕ)) → Extends a b → Extends b c → Extends a c
extends-then a b c first next place name is = next place name (first place name is)

module _ (old new : List (List ℕ)) (grown : Extends old new) where
  -- places that hold these names hold them still when more names have come in
  pub places-grown : (places : List ℕ) (names : List (List ℕ)) → map (slice_get old) places ≡ map Some names → map (slice_get new) places ≡ map Some names
  places-grown [] [] is = refl
  places-grown [] (name ∷ names) is = cc
  places-grown (place ∷ places) [] is = cc
  places-grown (place ∷ places) (name ∷ names) is =
      let first : slice_get old place ≡ Some name = cc in
      let rest : map (slice_get old) places ≡ map Some names = cc in
      ap₂ (λ (o : Option (List ℕ)) (os : List (Option (List ℕ))). o ∷ os) (grown place name first) (places-grown places names rest)

  -- and so does the place of a rule's own field, if it has one
  pub by-grown : (by : Option ℕ) (name : Option (List ℕ)) → option_map (slice_get old) by ≡ option_map Some name → option_map (slice_get new) by ≡ option_map Some name
  by-grown None None is = refl
  by-grown None (Some name) is = cc
  by-grown (Some place) None is = cc
  by-grown (Some place) (Some name) is = let there : slice_get old place ≡ Some name = cc in ap Some (grown place name there)

  -- a rule keeps its places
  pub asked-grown : (rules : List OnValue) (asked : Asked) (rule : OnValue) → IsAsked rules old asked rule → IsAsked rules new asked rule
  asked-grown rules asked rule is = record {
    there = is.there;
    fields = record { tests = places-grown asked.tests.items (tested_fields rule.tests) is.fields.tests; by_field = is.fields.by_field; by = by-grown asked.by rule.by is.fields.by };
  }

  -- all rules of an event keep their places
  pub all-grown : (all : List OnValue) (list : List Asked) (rules : List OnValue) → AllZip (IsAsked all old) list rules → AllZip (IsAsked all new) list rules
  all-grown all [] [] are = tt
  all-grown all [] (rule ∷ rules) are = are
  all-grown all (asked ∷ list) [] are = are
  all-grown all (asked ∷ list) (rule ∷ rules) are = (asked-grown all asked rule are.0, all-grown all list rules are.1)

  -- one more test
  pub places-more : (places : List ℕ) (names : List (List ℕ)) (place : ℕ) (name : List ℕ) → map (slice_get old) places ≡ map Some names → slice_get new place ≡ Some name → map (slice_get new) (places ++ place ∷ []) ≡ map Some (names ++ name ∷ [])
  places-more [] [] place name is there = ap (λ (o : Option (List ℕ)). o ∷ []) there
  places-more [] (n ∷ names) place name is there = cc
  places-more (p ∷ places) [] place name is there = cc
  places-more (p ∷ places) (n ∷ names) place name is there =
      let first : slice_get old p ≡ Some n = cc in
      let rest : map (slice_get old) places ≡ map Some names = cc in
      ap₂ (λ (o : Option (List ℕ)) (os : List (Option (List ℕ))). o ∷ os) (grown p n first) (places-more places names place name rest there)

-- ---- rules that are asked

-- two lists that fit pair by pair still do with one more pair that fits
zip-push : {A B : Type 0} (R : A → B → Type 0) (xs : List A) (ys : List B) (x : A) (y : B) → AllZip R xs ys → R x y → AllZip R (xs ++ x ∷ []) (ys ++ y ∷ [])
zip-push R [] [] x y all one = (one, tt)
zip-push R [] (b ∷ ys) x y all one = absurd all
zip-push R (a ∷ xs) [] x y all one = absurd all
zip-push R (a ∷ xs) (b ∷ ys) x y all one = (all.0, zip-push R xs ys x y all.1 one)

-- one more rule on the event
pub asked-more : (all : List OnValue) (old new : List (List ℕ)) (list : List Asked) (rules : List OnValue) (asked : Asked) (rule : OnValue) → Extends old new → AllZip (IsAsked all old) list rules → IsAsked all new asked rule → AllZip (IsAsked all new) (list ++ asked ∷ []) (rules ++ rule ∷ [])
asked-more all old new list rules asked rule grown are is = zip-push (IsAsked all new) list rules asked rule (all-grown old new grown all list rules are) is

-- a rule that is asked, at its place
pub record At (all : List OnValue) (names : List (List ℕ)) (rules : List OnValue) (place : ℕ) (asked : Asked) : Type 0 where
  pub rule : OnValue
  pub inside : place < length rules
  pub is : rule ≡ get_or rules place rule
  pub asks : IsAsked all names asked rule

-- each rule that is asked stands among the rules at the same place
pub asked_at : (all : List OnValue) (names : List (List ℕ)) (list : List Asked) (rules : List OnValue) (place : ℕ) (asked : Asked) → AllZip (IsAsked all names) list rules → place < length list → asked ≡ get_or list place asked → At all names rules place asked
asked_at all names [] rules place asked are inside is = absurd (omega arith)
asked_at all names (a ∷ list) [] place asked are inside is = absurd are
asked_at all names (a ∷ list) (rule ∷ rules) zero asked are inside is = record { rule = rule; inside = omega arith; is = refl; asks = subst (λ (b : Asked). IsAsked all names b rule) (sym is) are.0 }
asked_at all names (a ∷ list) (rule ∷ rules) (suc place) asked are inside is =
    let at = asked_at all names list rules place asked are.1 (omega arith) is in record { rule = at.rule; inside = let i = at.inside in omega arith; is = at.is; asks = at.asks }

-- as many rules are asked as there are
pub asked-many : (all : List OnValue) (names : List (List ℕ)) (list : List Asked) (rules : List OnValue) → AllZip (IsAsked all names) list rules → length list ≡ length rules
asked-many all names [] [] are = refl
asked-many all names [] (rule ∷ rules) are = absurd are
asked-many all names (asked ∷ list) [] are = absurd are
asked-many all names (asked ∷ list) (rule ∷ rules) are = let rest = asked-many all names list rules are.1 in omega arith

-- ---- fields that were looked up

module _ (fields : List ℕ) (names : List (List ℕ)) (found : List (Option Span)) (are : AreFound fields names found) where
  -- what was found at the places of several names are the fields of these names
  found-tests : (places : List ℕ) (wanted : List (List ℕ)) → map (slice_get names) places ≡ map Some wanted → map (found_at found) places ≡ map (field_of fields) wanted
  found-tests [] [] is = refl
  found-tests [] (name ∷ wanted) is = cc
  found-tests (place ∷ places) [] is = cc
  found-tests (place ∷ places) (name ∷ wanted) is =
      let first : slice_get names place ≡ Some name = cc in
      let rest : map (slice_get names) places ≡ map Some wanted = cc in
      ap₂ (λ (o : Option Span) (os : List (Option Span)). o ∷ os) (are place name first) (found-tests places wanted rest)

  -- what was found at the place of a rule's own field, if it has one, is that field
  found-by : (by : Option ℕ) (name : Option (List ℕ)) → option_map (slice_get names) by ≡ option_map Some name → option_map (found_at found) by ≡ option_map (field_of fields) name
  found-by None None is = refl
  found-by None (Some name) is = cc
  found-by (Some place) None is = cc
  found-by (Some place) (Some name) is = let there : slice_get names place ≡ Some name = cc in ap Some (are place name there)

  -- the fields of a rule are found where its names stand
  pub has_found : (asked : Asked) (rule : OnValue) → HasFields names asked rule → HasFound fields found asked rule
  has_found asked rule is = record { tests = found-tests asked.tests.items (tested_fields rule.tests) is.tests; by_field = is.by_field; by = found-by asked.by rule.by is.by }

-- each of a list's names is found at its place
pub listed-found : (fields : List ℕ) (names : List (List ℕ)) (found : List (Option Span)) → found ≡ map (field_of fields) names → AreFound fields names found
listed-found fields names found are place name there =
    ap (λ (f : List (Option Span)). found_at f place) are ∙ get_or_from_slice_get (map (field_of fields) names) place (field_of fields name) None (slice_get-map (field_of fields) names place ∙ ap (option_map (field_of fields)) there)

-- the field of one more test
pub names-more : (tests : List Test) (i : ℕ) (test : Test) (name : List ℕ) → i < length tests → test ≡ get_or tests i test → name ≡ tested_field test → tested_fields (take (i + 1) tests) ≡ tested_fields (take i tests) ++ name ∷ []
names-more tests i test name inside is named =
    ap tested_fields (take_more tests i test inside) ∙ map_push tested_field (take i tests) (get_or tests i test) ∙ ap (λ (n : List ℕ). tested_fields (take i tests) ++ n ∷ []) (sym (named ∙ ap tested_field is))

-- one more rule is on the event, or is not
pub on-more : (all : List OnValue) (event name : List ℕ) (i : ℕ) (rule : OnValue) (on : Bool) → i < length all → rule ≡ get_or all i rule → name ≡ rule.event → on ≡ bytes_eq event name
    → filter (is_on_event event) (take (i + 1) all) ≡ filter (is_on_event event) (take i all) ++ cond on (rule ∷ []) []
on-more all event name i rule on inside is named on_is =
    let here : is_on_event event rule ≡ on = sym (on_is ∙ ap (bytes_eq event) named) in
    filter_more (is_on_event event) all i rule inside ∙ ap (λ (r : OnValue). filter (is_on_event event) (take i all) ++ cond (is_on_event event r) (r ∷ []) []) (sym is) ∙ ap (λ (b : Bool). filter (is_on_event event) (take i all) ++ cond b (rule ∷ []) []) here

-- one more rule stands at the place behind the others
placed-push : (event : List ℕ) (place : ℕ) (rules : List OnValue) (rule : OnValue) → places_on event place (rules ++ rule ∷ []) ≡ places_on event place rules ++ cond (is_on_event event rule) ((place + length rules) ∷ []) []
placed-push event place [] rule =
    let same : place ≡ place + 0 = omega arith in
    append-nil (cond (is_on_event event rule) (place ∷ []) []) ∙ ap (λ (p : ℕ). cond (is_on_event event rule) (p ∷ []) []) same
placed-push event place (first ∷ rules) rule =
    let here : List ℕ = cond (is_on_event event first) (place ∷ []) [] in
    let same : place + 1 + length rules ≡ place + length (first ∷ rules) = omega arith in
    ap (λ (ps : List ℕ). here ++ ps) (placed-push event (place + 1) rules rule ∙ ap (λ (p : ℕ). places_on event (place + 1) rules ++ cond (is_on_event event rule) (p ∷ []) []) same)
    ∙ sym (append_assoc here (places_on event (place + 1) rules) (cond (is_on_event event rule) ((place + length (first ∷ rules)) ∷ []) []))

-- the place of one more rule is among those on the event, or is not
pub placed-more : (all : List OnValue) (event name : List ℕ) (i : ℕ) (rule : OnValue) (on : Bool) → i < length all → rule ≡ get_or all i rule → name ≡ rule.event → on ≡ bytes_eq event name
    → places_on event 0 (take (i + 1) all) ≡ places_on event 0 (take i all) ++ cond on (i ∷ []) []
placed-more all event name i rule on inside is named on_is =
    let here : is_on_event event rule ≡ on = sym (on_is ∙ ap (bytes_eq event) named) in
    let last : 0 + length (take i all) ≡ i = omega (arith, length-take i all) in
    ap (places_on event 0) (take_more all i rule inside ∙ ap (λ (r : OnValue). take i all ++ r ∷ []) (sym is))
    ∙ placed-push event 0 (take i all) rule
    ∙ ap₂ (λ (b : Bool) (p : ℕ). places_on event 0 (take i all) ++ cond b (p ∷ []) []) here last
