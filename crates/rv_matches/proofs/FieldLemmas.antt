-- The fields that tests name, as one more test comes, and what a field has with one more value or one more line without it.
use Rattle.std.proofs.Common.{◌≡◌, ℕ, ◌+◌, ◌<◌, ◌≤◌, inl, inr, true, false, cond, List, [], ◌∷◌, ◌++◌, length, map, take, Option, Some, None, refl, sym, ap, ap₂, ◌∙◌, arith}
use Rattle.std.specs.Prelude.{count_by, is_none}
use Rattle.std.specs.List.{cons_option}
use Rattle.std.proofs.lemmas.Bool.{cases_Bool, cond-true, cond-false, cond_both}
use Rattle.std.proofs.lemmas.List.{append-nil, length-append, length-take, take_all}
use Rattle.std.proofs.lemmas.List.Elements.{filter_map-append}
use Rattle.std.proofs.lemmas.List.Sums.{sum_by_push}
use Rattle.rv_matches.specs.declared.rule_lines.FieldLines.{FieldLines}
use Rattle.rv_matches.specs.declared.rule_lines.TheConstants.{MOST_VALUES}
use Rattle.rv_matches.specs.LineEvents.{LineEvent, value_on}
use Rattle.rv_matches.specs.RuleLines.{FieldCounts, field_counts, field_told, field_values}
use Rattle.rv_matches.specs.inner.RuleSteps.{field_name}
use Rattle.rv_matches.specs.Words.{CountsWord, counted_value, is_kept_among, with_word}
use Rattle.rv_matches.proofs.NearLemmas.{front_full, front_room}
use Rattle.rv_matches.proofs.WordLemmas.{among_taken}

-- ---- the fields that are kept

-- fields that are told of are those of the names
pub told_names : (lines : List LineEvent) (fields : List FieldLines) (names : List (List ℕ)) → map field_told fields ≡ map (field_counts lines) names → map field_name fields ≡ names
told_names lines [] [] is = refl
told_names lines [] (n ∷ names) is = cc
told_names lines (f ∷ fields) [] is = cc
told_names lines (f ∷ fields) (n ∷ names) is =
    let rest : map field_told fields ≡ map (field_counts lines) names = cc in
    let first : field_told f ≡ field_counts lines n = cc in
    ap₂ (λ (m : List ℕ) (ms : List (List ℕ)). m ∷ ms) (ap (λ (c : FieldCounts). c.field) first) (told_names lines fields names rest)

module _ (most : ℕ) (names : List (List ℕ)) (name : List ℕ) where
  -- a name that is kept was there
  was_there : is_kept_among (take most names) name ≡ true → is_kept_among names name ≡ true
  was_there among =
      elim (cases_Bool (is_kept_among names name)) [
        | inl so_it_is ↦ so_it_is
        | inr it_is_not ↦ let none : is_kept_among (take most names) name ≡ false = among_taken most names name it_is_not in cc
      ]

  -- a name that is kept, or comes when all places are taken, changes nothing
  pub front_stays : is_kept_among (take most names) name ≡ true → take most (with_word names name) ≡ take most names
  front_stays among = ap (take most) (cond-true (is_kept_among names name) names (names ++ name ∷ []) (was_there among))

  pub front_taken : most ≤ length (take most names) → take most (with_word names name) ≡ take most names
  front_taken full =
      cond_both (is_kept_among names name) names (names ++ name ∷ []) (λ (ns : List (List ℕ)). take most ns ≡ take most names)
      (λ so_it_is. refl) (λ it_is_not. front_full most names (name ∷ []) full)

  -- another comes last
  pub front_grows : is_kept_among (take most names) name ≡ false → length (take most names) < most → take most (with_word names name) ≡ take most names ++ name ∷ []
  front_grows none room =
      let whole : take most names ≡ names = take_all most names (omega (arith, length-take most names)) in
      let new : is_kept_among names name ≡ false = ap (λ (ns : List (List ℕ)). is_kept_among ns name) (sym whole) ∙ none in
      ap (take most) (cond-false (is_kept_among names name) names (names ++ name ∷ []) new)
      ∙ front_room most names (name ∷ []) (omega (arith, length-append (take most names) (name ∷ []))) room

-- ---- what a field has

module _ (lines : List LineEvent) (line : LineEvent) (name : List ℕ) where
  -- one more value, or none
  values_push : field_values (lines ++ line ∷ []) name ≡ field_values lines name ++ cons_option (value_on name line) []
  values_push = filter_map-append (value_on name) lines (line ∷ [])

  missing_push : count_by (λ l. is_none (value_on name l)) (lines ++ line ∷ []) ≡ count_by (λ l. is_none (value_on name l)) lines + cond (is_none (value_on name line)) 1 0
  missing_push = sum_by_push (λ l. cond (is_none (value_on name l)) 1 0) lines line

  -- what a field has, by its values and how many lines lack it
  abbrev counts_by : List (List ℕ) → ℕ → FieldCounts
  counts_by values missing = record { field = name; values = (counted_value MOST_VALUES values).words; other = (counted_value MOST_VALUES values).others; missing = missing }

  module _ (old new : FieldLines) (named : new.field ≡ name) (was : field_told old ≡ field_counts lines name) (most : old.values.most ≡ MOST_VALUES) where
    -- what is kept of the values is what is counted of them
    old_values : old.values ≡ counted_value MOST_VALUES (field_values lines name)
    old_values = λ j. record { most = most j; words = (was j).values; others = (was j).other }

    -- one more value
    pub value_counted : (value : List ℕ) → value_on name line ≡ Some value → CountsWord value old.values new.values → new.missing ≡ old.missing → field_told new ≡ field_counts (lines ++ line ∷ []) name
    value_counted value is counts same =
        let now : new.values ≡ counted_value MOST_VALUES (field_values lines name ++ value ∷ []) = counts MOST_VALUES (field_values lines name) old_values in
        let values : field_values (lines ++ line ∷ []) name ≡ field_values lines name ++ value ∷ [] = values_push ∙ ap (λ (o : Option (List ℕ)). field_values lines name ++ cons_option o []) is in
        let missing : new.missing ≡ count_by (λ l. is_none (value_on name l)) (lines ++ line ∷ []) = same ∙ ap (λ (c : FieldCounts). c.missing) was ∙ sym (missing_push ∙ (let e : count_by (λ l. is_none (value_on name l)) lines + cond (is_none (value_on name line)) 1 0 ≡ count_by (λ l. is_none (value_on name l)) lines = ap (λ (o : Option (List ℕ)). count_by (λ l. is_none (value_on name l)) lines + cond (is_none o) 1 0) is ∙ omega arith in e)) in
        (λ j. record { field = named j; values = (now j).words; other = (now j).others; missing = new.missing })
        ∙ ap₂ counts_by (sym values) missing

    -- one more line without it
    pub missing_counted : value_on name line ≡ None → new.values ≡ old.values → new.missing ≡ old.missing + 1 → field_told new ≡ field_counts (lines ++ line ∷ []) name
    missing_counted is same more =
        let values : field_values (lines ++ line ∷ []) name ≡ field_values lines name = values_push ∙ ap (λ (o : Option (List ℕ)). field_values lines name ++ cons_option o []) is ∙ append-nil (field_values lines name) in
        let missing : new.missing ≡ count_by (λ l. is_none (value_on name l)) (lines ++ line ∷ []) = more ∙ ap (λ (c : FieldCounts). c.missing + 1) was ∙ sym (missing_push ∙ ap (λ (o : Option (List ℕ)). count_by (λ l. is_none (value_on name l)) lines + cond (is_none o) 1 0) is) in
        let kept : new.values ≡ counted_value MOST_VALUES (field_values lines name) = same ∙ old_values in
        (λ j. record { field = named j; values = (kept j).words; other = (kept j).others; missing = new.missing })
        ∙ ap₂ counts_by (sym values) missing
