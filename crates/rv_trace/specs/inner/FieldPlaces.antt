-- Where a field stands, and where it does not.
use Rattle.std.specs.Prelude.{◌≡◌, ◌<◌, true, false, ℕ, ◌+◌, ◌-◌, Bool, ◌&&◌, ◌==◌, List, slice_index}
use Rattle.rv_text.specs.Places.{is_blank}
use Rattle.rv_trace.specs.Fields.{is_open, is_named}

-- a field with a name of this length may stand here, behind a blank
abbrev pub may_stand : List ℕ → ℕ → ℕ → Bool
may_stand fields size place = is_blank (slice_index fields (place - 1)) && slice_index fields (place + size) == 61

-- the field does not stand before this place
abbrev pub StandsNot : List ℕ → List ℕ → ℕ → Type 0
StandsNot fields name place = (k : ℕ) → k < place → (is_open fields k && is_named fields name k) ≡ false

-- the field stands here, and nowhere before
pub record StandsFirst (fields name : List ℕ) (place : ℕ) : Type 0 where
  pub starts : is_open fields place ≡ true
  pub named : is_named fields name place ≡ true
  pub before : StandsNot fields name place

-- the field stands nowhere
abbrev pub StandsNowhere : List ℕ → List ℕ → Type 0
StandsNowhere fields name = (k : ℕ) → (is_open fields k && is_named fields name k) ≡ false
