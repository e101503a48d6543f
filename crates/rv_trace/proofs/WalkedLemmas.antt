-- What was found of fields on the way through a line, and at its end.
use Rattle.std.proofs.Common.{◌≡◌, ℕ, ◌+◌, ◌<◌, ◌≤◌, inl, inr, Bool, true, false, eqb, List, [], length, Option, Some, None, refl, sym, ◌∙◌, ap, subst, arith}
use Rattle.std.specs.Prelude.{slice_get, All, if◌then◌else◌}
use Rattle.std.specs.Option.{option_or}
use Rattle.std.proofs.lemmas.Bool.{cases_Bool, cases_lt, eqb-true, eqb-false, ne_eqb}
use Rattle.std.proofs.lemmas.List.Elements.{All-from_get_or}
use Rattle.std.proofs.lemmas.Option.{slice_get_within}
use Rattle.rv_text.specs.Places.{run_end}
use Rattle.rv_text.specs.declared.runs.ByteClass.TheVariants as kinds
use Rattle.rv_trace.specs.declared.line.Span.{Span}
use Rattle.rv_trace.specs.Fields.{is_open, is_named, value_from, field_of}
use Rattle.rv_trace.specs.FoundFields.{found_at, IsInside, AreFound}
use Rattle.rv_trace.specs.inner.Noting.{AllInside, HasNothing, IsNotedAt}
use Rattle.rv_trace.specs.inner.Naming.{TakesWord, IsFoundBefore, HasWalked, HasSearched}
use Rattle.rv_trace.proofs.WalkLemmas.{some-same}
use Rattle.rv_trace.proofs.FieldLemmas.{field-some, field-none, stands-first, stands-more, stands-nowhere, open-next}

-- below the next number is below this one, or is this one
below-next : (i count : ℕ) → i < count + 1 → (i ≡ count → ⊥) → i < count
below-next i count h apart = elim (cases_lt i count) [
  | inl below ↦ below
  | inr past ↦ absurd (apart (omega (arith, h, past)))
]

-- what lies in the fields at each place does so as a list
pub all-inside : (fields : List ℕ) (found : List (Option Span)) → AllInside fields found → All (IsInside fields) found
all-inside fields found inside = All-from_get_or (IsInside fields) found None (λ i h. inside i)

-- nothing lies outside the fields where nothing was found
nothing-inside : (fields : List ℕ) (found : List (Option Span)) → HasNothing found → AllInside fields found
nothing-inside fields found nothing i = subst (λ (o : Option Span). IsInside fields o) (sym (nothing i)) tt

module _ (fields : List ℕ) (names : List (List ℕ)) where
  -- before the first word
  pub walk-start : (found : List (Option Span)) → HasNothing found → length names ≤ length found → HasWalked fields names 0 found
  walk-start found nothing many = record {
    before = λ i name there. subst (λ (o : Option Span). IsFoundBefore fields name 0 o) (sym (nothing i)) (λ k h. absurd (omega (arith, h)));
    inside = nothing-inside fields found nothing;
    many = many;
    starts = λ h. refl;
  }

  -- one word more, of one name
  word-step : (place : ℕ) (name : List ℕ) (o : Option Span) (named : Bool) → place < length fields → is_open fields place ≡ true → is_named fields name place ≡ named → IsFoundBefore fields name place o
      → IsFoundBefore fields name (run_end kinds.Word fields place + 1) (option_or o (if named then Some (value_from fields (place + length name + 1)) else None))
  word-step place name None true here starts is before = record { place = place; below = here; first = stands-first fields name place starts is before; is = refl }
  word-step place name None false here starts is before = stands-more fields name place before is
  word-step place name (Some span) named here starts is before = before

  -- and of all
  pub walk-step : (place : ℕ) (old new : List (Option Span)) → place < length fields → HasWalked fields names place old → TakesWord fields names place old new → HasWalked fields names (run_end kinds.Word fields place + 1) new
  walk-step place old new here walked takes = record {
    before = λ i name there. subst (λ (o : Option Span). IsFoundBefore fields name (run_end kinds.Word fields place + 1) o) (sym (takes.step i name there))
        (word-step place name (found_at old i) (is_named fields name place) here (walked.starts here) refl (walked.before i name there));
    inside = takes.inside walked.inside;
    many = omega (arith, walked.many, takes.many);
    starts = λ h. open-next fields [] place (omega (arith, here)) h;
  }

  -- at the end of the fields
  pub walk-end : (place : ℕ) (found : List (Option Span)) → HasWalked fields names place found → length fields ≤ place → AreFound fields names found
  walk-end place found walked past i name there = go (found_at found i) (walked.before i name there)
    where
      go : (o : Option Span) → IsFoundBefore fields name place o → o ≡ field_of fields name
      go None before = sym (field-none fields name (stands-nowhere fields name (λ k h. before k (omega (arith, h, past)))))
      go (Some span) first = ap Some first.is ∙ sym (field-some fields name first.place first.below first.first)

  -- before the first name
  pub search-start : (found : List (Option Span)) → HasNothing found → length names ≤ length found → HasSearched fields names 0 found
  search-start found nothing many = record {
    before = λ i name there h. absurd (omega (arith, h));
    behind = λ i h. nothing i;
    inside = nothing-inside fields found nothing;
    many = many;
  }

  -- one name more, which was not found
  pub search-none : (count : ℕ) (name : List ℕ) (found : List (Option Span)) → HasSearched fields names count found → slice_get names count ≡ Some name → field_of fields name ≡ None → HasSearched fields names (count + 1) found
  search-none count name found searched this none = record {
    before = λ i other there h. elim (cases_Bool (eqb i count)) [
      | inl same ↦
          (let at_count = eqb-true i count same in
          let named : other ≡ name = some-same (sym there ∙ ap (slice_get names) at_count ∙ this) in searched.behind i (omega (arith, at_count)) ∙ sym (ap (field_of fields) named ∙ none))
      | inr apart ↦ searched.before i other there (below-next i count h (eqb-false i count apart))
    ];
    behind = λ i h. searched.behind i (omega (arith, h));
    inside = searched.inside;
    many = searched.many;
  }

  -- one name more, which was found
  pub search-some : (count : ℕ) (name : List ℕ) (span : Span) (old new : List (Option Span)) → HasSearched fields names count old → slice_get names count ≡ Some name → field_of fields name ≡ Some span → IsInside fields (Some span) → IsNotedAt old count span new → HasSearched fields names (count + 1) new
  search-some count name span old new searched this some inside noted =
      let nothing : found_at old count ≡ None = searched.behind count (omega arith) in
      let here : found_at new count ≡ Some span = noted.here ∙ ap (λ (o : Option Span). option_or o (Some span)) nothing in
      record {
        before = λ i other there h. elim (cases_Bool (eqb i count)) [
          | inl same ↦
              (let at_count = eqb-true i count same in
              let named : other ≡ name = some-same (sym there ∙ ap (slice_get names) at_count ∙ this) in ap (found_at new) at_count ∙ here ∙ sym (ap (field_of fields) named ∙ some))
          | inr apart ↦ noted.others i apart ∙ searched.before i other there (below-next i count h (eqb-false i count apart))
        ];
        behind = λ i h. noted.others i (ne_eqb i count (λ same. absurd (omega (arith, h, same)))) ∙ searched.behind i (omega (arith, h));
        inside = λ i. elim (cases_Bool (eqb i count)) [
          | inl same ↦ subst (λ (o : Option Span). IsInside fields o) (sym (ap (found_at new) (eqb-true i count same) ∙ here)) inside
          | inr apart ↦ subst (λ (o : Option Span). IsInside fields o) (sym (noted.others i apart)) (searched.inside i)
        ];
        many = omega (arith, searched.many, noted.many);
      }

  -- all names
  pub search-end : (found : List (Option Span)) → HasSearched fields names (length names) found → AreFound fields names found
  search-end found searched i name there = searched.before i name there (slice_get_within names i name there)
