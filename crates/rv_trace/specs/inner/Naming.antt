-- Names of fields with their places, and what a word of a line tells of them.
use Rattle.std.specs.Prelude.{◌≡◌, ◌≤◌, ◌<◌, ℕ, ◌+◌, true, List, length, Option, Some, None, slice_get, if◌then◌else◌}
use Rattle.std.specs.Option.{option_or}
use Rattle.rv_trace.specs.declared.line.Span.{Span}
use Rattle.rv_trace.specs.Fields.{is_open, is_named, value_from, field_of}
use Rattle.rv_trace.specs.FoundFields.{found_at}
use Rattle.rv_trace.specs.inner.Noting.{AllInside}
use Rattle.rv_trace.specs.inner.FieldPlaces.{StandsNot, StandsFirst}

-- the field's value, if the word that begins here is the field
abbrev pub word_field : List ℕ → List ℕ → ℕ → Option Span
word_field fields name place = if is_named fields name place then Some (value_from fields (place + length name + 1)) else None

-- the word that begins at a place was looked at: it counts for a name that was not found before
pub record TakesWord (fields : List ℕ) (names : List (List ℕ)) (place : ℕ) (old new : List (Option Span)) : Type 0 where
  pub step : (at : ℕ) (name : List ℕ) → slice_get names at ≡ Some name → found_at new at ≡ option_or (found_at old at) (word_field fields name place)
  pub inside : AllInside fields old → AllInside fields new
  pub many : length new ≡ length old

-- the span is the value of the field's first place
pub record IsFirstValue (fields name : List ℕ) (span : Span) : Type 0 where
  pub place : ℕ
  pub below : place < length fields
  pub first : StandsFirst fields name place
  pub is : span ≡ value_from fields (place + length name + 1)

-- what was found of a field before a place
abbrev pub IsFoundBefore : List ℕ → List ℕ → ℕ → Option Span → Type 0
IsFoundBefore fields name place None = StandsNot fields name place
IsFoundBefore fields name place (Some span) = IsFirstValue fields name span

-- all words before a place were looked at, and here one may begin
pub record HasWalked (fields : List ℕ) (names : List (List ℕ)) (place : ℕ) (found : List (Option Span)) : Type 0 where
  pub before : (at : ℕ) (name : List ℕ) → slice_get names at ≡ Some name → IsFoundBefore fields name place (found_at found at)
  pub inside : AllInside fields found
  pub many : length names ≤ length found
  pub starts : place < length fields → is_open fields place ≡ true

-- the first names were looked up, one by one, and nothing is found of others
pub record HasSearched (fields : List ℕ) (names : List (List ℕ)) (count : ℕ) (found : List (Option Span)) : Type 0 where
  pub before : (at : ℕ) (name : List ℕ) → slice_get names at ≡ Some name → at < count → found_at found at ≡ field_of fields name
  pub behind : (at : ℕ) → count ≤ at → found_at found at ≡ None
  pub inside : AllInside fields found
  pub many : length names ≤ length found
