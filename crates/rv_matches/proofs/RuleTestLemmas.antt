-- How often tests hold and what fields have, as one more line comes: place by place.
use Rattle.std.proofs.Common.{◌≡◌, ℕ, zero, suc, ◌+◌, ◌<◌, Bool, cond, List, [], ◌∷◌, ◌++◌, length, get_or, map, set, Option, Some, refl, sym, ap, ◌∙◌, arith}
use Rattle.std.specs.Prelude.{option_map, slice_get}
use Rattle.std.proofs.lemmas.List.{get_or-map, length-map, map-set}
use Rattle.std.proofs.lemmas.List.Sums.{sum_by_push}
use Rattle.std.proofs.lemmas.Option.{slice_get_within}
use Rattle.rv_trace.specs.Fields.{field_of}
use Rattle.rv_trace.specs.FoundFields.{found_at}
use Rattle.rv_trace.specs.declared.line.Span.{Span}
use Rattle.rv_bind.specs.declared.bindings.Test.{Test}
use Rattle.rv_route.specs.Asking.{holds, text_at, value_found}
use Rattle.rv_route.specs.Events.{tested_fields}
use Rattle.rv_matches.specs.declared.rule_lines.FieldLines.{FieldLines}
use Rattle.rv_matches.specs.LineEvents.{LineEvent, value_on}
use Rattle.rv_matches.specs.RuleLines.{FieldCounts, HasTest, field_counts, field_told, held}
use Rattle.rv_matches.proofs.MixedLemmas.{length-mixed, mixed, mixed_at, mixed_more}

-- what stands at a place is the same whatever stands behind the end
pub at_any : {X : Type 0} (xs : List X) (i : ℕ) (d e : X) → i < length xs → get_or xs i d ≡ get_or xs i e
at_any [] i d e within = absurd (omega arith)
at_any (x ∷ xs) zero d e within = refl
at_any (x ∷ xs) (suc i) d e within = at_any xs i d e (omega arith)

-- ---- tests

-- a test holds on one more line, or not
held_more : (fields : List ℕ) (lines : List LineEvent) (line : LineEvent) (test : Test) (here : Bool) → line.fields ≡ fields → holds fields test ≡ here → held lines test + cond here 1 0 ≡ held (lines ++ line ∷ []) test
held_more fields lines line test here is holds_is =
    sym (sum_by_push (λ l. cond (holds l.fields test) 1 0) lines line ∙ ap (λ b. held lines test + cond b 1 0) (ap (λ f. holds f test) is ∙ holds_is))

-- the count of one more test is that of all lines
pub tests_more : (fields : List ℕ) (lines : List LineEvent) (line : LineEvent) (tests : List Test) (place : ℕ) (test : Test) (counts : List ℕ) (old count : ℕ) (here : Bool)
    → line.fields ≡ fields → counts ≡ mixed (held lines) (held (lines ++ line ∷ [])) tests place → place < length tests → test ≡ get_or tests place test → old ≡ get_or counts place old
    → count ≡ old + cond here 1 0 → holds fields test ≡ here
    → set counts place count ≡ mixed (held lines) (held (lines ++ line ∷ [])) tests (place + 1)
tests_more fields lines line tests place test counts old count here is so_far within test_is old_is count_is holds_is =
    let was : old ≡ held lines test = old_is ∙ ap (λ (ns : List ℕ). get_or ns place old) so_far ∙ mixed_at (held lines) (held (lines ++ line ∷ [])) tests place test old within ∙ ap (held lines) (sym test_is) in
    let now : count ≡ held (lines ++ line ∷ []) (get_or tests place test) = count_is ∙ ap (λ n. n + cond here 1 0) was ∙ held_more fields lines line test here is holds_is ∙ ap (held (lines ++ line ∷ [])) test_is in
    ap (λ (ns : List ℕ). set ns place count) so_far ∙ mixed_more (held lines) (held (lines ++ line ∷ [])) tests place test count within now

-- ---- fields

-- what was looked up for a test is its field
found_field : (fields : List ℕ) (found : List (Option Span)) (places : List ℕ) (names : List (List ℕ)) (i d : ℕ) (name : List ℕ) → map (found_at found) places ≡ map (field_of fields) names → slice_get names i ≡ Some name
    → found_at found (get_or places i d) ≡ field_of fields name
found_field fields found places [] i d name are at = cc
found_field fields found [] (n ∷ names) i d name are at = cc
found_field fields found (place ∷ places) (n ∷ names) zero d name are at =
    let first : found_at found place ≡ field_of fields n = cc in
    let same : n ≡ name = cc in
    first ∙ ap (field_of fields) same
found_field fields found (place ∷ places) (n ∷ names) (suc i) d name are at =
    let rest : map (found_at found) places ≡ map (field_of fields) names = cc in
    found_field fields found places names i d name rest at

module _ (fields : List ℕ) (found : List (Option Span)) (places : List ℕ) (tests : List Test) (are : map (found_at found) places ≡ map (field_of fields) (tested_fields tests)) (f : FieldLines) (has : HasTest tests f) where
  -- the test of a field has its place
  pub test_within : f.test < length places
  test_within =
      let within : f.test < length (tested_fields tests) = slice_get_within (tested_fields tests) f.test f.field has.field in
      let many : length (map (found_at found) places) ≡ length (map (field_of fields) (tested_fields tests)) = ap length are in
      omega (arith, length-map places (found_at found), length-map (tested_fields tests) (field_of fields))

  -- what was looked up there is what the field has
  pub value_there : (place : ℕ) (line : LineEvent) → place ≡ get_or places f.test place → line.fields ≡ fields → value_on f.field line ≡ value_found fields found place
  value_there place line place_is is =
      ap (λ (fs : List ℕ). option_map (text_at fs) (field_of fs f.field)) is
      ∙ ap (option_map (text_at fields)) (sym (ap (found_at found) place_is ∙ found_field fields found places (tested_fields tests) f.test place f.field are has.field))

-- what one more field has is that of all lines
pub fields_more : (lines : List LineEvent) (line : LineEvent) (names : List (List ℕ)) (list : List FieldLines) (place : ℕ) (old new : FieldLines)
    → map field_told list ≡ mixed (field_counts lines) (field_counts (lines ++ line ∷ [])) names place → place < length list → old ≡ get_or list place old
    → (field_told old ≡ field_counts lines old.field → field_told new ≡ field_counts (lines ++ line ∷ []) old.field)
    → map field_told (set list place new) ≡ mixed (field_counts lines) (field_counts (lines ++ line ∷ [])) names (place + 1)
fields_more lines line names list place old new so_far within old_is counts =
    let later : List LineEvent = lines ++ line ∷ [] in
    let many : length list ≡ length names = sym (length-map list field_told) ∙ ap length so_far ∙ length-mixed (field_counts lines) (field_counts later) names place in
    let inside : place < length names = omega arith in
    let name : List ℕ = get_or names place [] in
    let was : field_told old ≡ field_counts lines name =
    ap field_told old_is ∙ sym (get_or-map field_told list place old (field_told old) within) ∙ ap (λ (cs : List FieldCounts). get_or cs place (field_told old)) so_far
    ∙ mixed_at (field_counts lines) (field_counts later) names place [] (field_told old) inside in
    let named : old.field ≡ name = ap (λ (c : FieldCounts). c.field) was in
    let now : field_told new ≡ field_counts later name = counts (was ∙ ap (field_counts lines) (sym named)) ∙ ap (field_counts later) named in
    map-set field_told list place new
    ∙ ap (λ (cs : List FieldCounts). set cs place (field_told new)) so_far
    ∙ mixed_more (field_counts lines) (field_counts later) names place [] (field_told new) inside now
