-- How what was found is noted.
use Rattle.std.specs.Prelude.{◌≡◌, ℕ, false, ◌==◌, List, length, Option, Some, None}
use Rattle.std.specs.Option.{option_or}
use Rattle.rv_trace.specs.declared.line.Span.{Span}
use Rattle.rv_trace.specs.FoundFields.{found_at, IsInside}

-- nothing was found anywhere
abbrev pub HasNothing : List (Option Span) → Type 0
HasNothing found = (place : ℕ) → found_at found place ≡ None

-- what was found lies in the fields
abbrev pub AllInside : List ℕ → List (Option Span) → Type 0
AllInside fields found = (place : ℕ) → IsInside fields (found_at found place)

-- the span was noted at a place, unless something was found there before
pub record IsNotedAt (old : List (Option Span)) (place : ℕ) (span : Span) (new : List (Option Span)) : Type 0 where
  pub many : length new ≡ length old
  pub here : found_at new place ≡ option_or (found_at old place) (Some span)
  pub others : (other : ℕ) → (other == place) ≡ false → found_at new other ≡ found_at old other
