-- What was found of fields, by places.
use Rattle.std.specs.Prelude.{◌≡◌, ◌≤◌, ◌==◌, false, ℕ, List, length, Option, Some, None, IfSome, slice_get, slice_index_or}
use Rattle.std.specs.List.{list_any}
use Rattle.rv_trace.specs.declared.line.Span.{Span}
use Rattle.rv_trace.specs.Fields.{field_of}

-- what was found at a place
abbrev pub found_at : List (Option Span) → ℕ → Option Span
found_at found place = slice_index_or found place None

-- the span lies in the fields
abbrev pub IsInside : List ℕ → Option Span → Type 0
IsInside fields found = IfSome found (λ span. (span.from ≤ span.to) × (span.to ≤ length fields))

-- at the place of each name stands its field
abbrev pub AreFound : List ℕ → List (List ℕ) → List (Option Span) → Type 0
AreFound fields names found = (place : ℕ) (name : List ℕ) → slice_get names place ≡ Some name → found_at found place ≡ field_of fields name

-- each name stands where it stood
abbrev pub Extends : List (List ℕ) → List (List ℕ) → Type 0
Extends old new = (place : ℕ) (name : List ℕ) → slice_get old place ≡ Some name → slice_get new place ≡ Some name

-- nothing is found but at these places
abbrev pub HasNoOther : List ℕ → List (Option Span) → Type 0
HasNoOther noted found = (place : ℕ) → list_any (λ other. other == place) noted ≡ false → found_at found place ≡ None
