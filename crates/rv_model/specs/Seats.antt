-- What a seat of a board knows, and how its list grows.
use Rattle.std.specs.Prelude.{◌≡◌, ◌⊎◌, ℕ, Bool, ◌&&◌, ◌||◌, ◌==◌, nat_le, nat_lt, List, [], ◌∷◌, ◌++◌, filter, All}
use Rattle.std.specs.List.{list_any}
use Rattle.rv_model.specs.declared.entry.Entry.{Entry}
use Rattle.rv_model.specs.Judging.{Judge}
use Rattle.rv_model.specs.Setups.{Setup}
use Rattle.rv_model.specs.Histories.{IsSound}

-- a seat: its number, the first number that it may not hand on, the numbers that were joined into it, and the entries that it has seen
pub record Seat : Type 0 where
  pub number : ℕ
  pub end : ℕ
  pub joined_in : List ℕ
  pub seen : List Entry

-- the number is from one up to another
unfoldable pub is_within : ℕ → ℕ → ℕ → Bool
is_within first end n = nat_le first n && nat_lt n end

-- the number is among these
unfoldable pub is_among : List ℕ → ℕ → Bool
is_among numbers n = list_any (λ m. m == n) numbers

-- what a seat knows: the numbers from its own up to its end, and those that were joined into it
unfoldable pub known_of : Seat → ℕ → Bool
known_of seat n = is_within seat.number seat.end n || is_among seat.joined_in n

-- the entries of the seats whose number is known
abbrev pub entries_of : (ℕ → Bool) → List Entry → List Entry
entries_of known h = filter (λ e. known e.seat) h

-- no entry, or the last one is the list's last one
abbrev pub EndsWith : List Entry → List Entry → Type 0
EndsWith own h = (own ≡ []) ⊎ ((e : Entry) × (a : List Entry) × (b : List Entry) × (own ≡ a ++ e ∷ []) × (h ≡ b ++ e ∷ []))

-- the list goes on, and of what comes exactly these entries are the seat's own, the last one at its end; the whole is sound, and all else stays
pub record Grows (s : Setup) (js : List Judge) (old new : Seat) (own : List Entry) : Type 0 where
  pub rest : List Entry
  pub list : new.seen ≡ old.seen ++ rest
  pub known : entries_of (known_of old) rest ≡ own
  pub seats : All (λ e. e.seat ≡ old.number) own
  pub ends : EndsWith own rest
  pub sound : IsSound s js new.seen
  pub number : new.number ≡ old.number
  pub end : new.end ≡ old.end
  pub joined_in : new.joined_in ≡ old.joined_in
