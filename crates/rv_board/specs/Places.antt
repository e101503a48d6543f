-- Where the words of a board stand: in cache lines of their own where the slots are few (this project's choice: docs/DECISIONS.md, "Few words stand in cache lines of their own").
use Rattle.std.specs.Prelude.{◌≡◌, ◌≢◌, ◌⊎◌, ℕ, suc, ◌+◌, ◌*◌, ◌<◌, ◌≤◌, nat_lt, if◌then◌else◌, List, length, slice_index}
use Rattle.rv_board.specs.declared.spacing.TheConstants.{LINE_WORDS, SPREAD_SLOTS}

-- how many words lie from one to the next: those of a cache line where the slots are few
abbrev pub stride_of : ℕ → ℕ
stride_of slots = if nat_lt SPREAD_SLOTS slots then 1 else LINE_WORDS

-- the place of the word of an index: the switches have index 0, and slot n has n + 1
abbrev pub place_of : ℕ → ℕ → ℕ
place_of slots index = stride_of slots * index

-- how many words there is room for: the places of all indexes, and what lies between them
abbrev pub room_of : ℕ → ℕ
room_of slots = place_of slots (suc slots)

-- each other index has its word a cache line away, at least
abbrev pub AreLinesApart : ℕ → ℕ → Type 0
AreLinesApart slots index = (other : ℕ) → other ≢ index → (place_of slots other + LINE_WORDS ≤ place_of slots index) ⊎ (place_of slots index + LINE_WORDS ≤ place_of slots other)

-- `placed` has all words at their places
pub record ArePlaced (slots : ℕ) (words placed : List ℕ) : Type 0 where
  pub room : length placed ≡ room_of slots
  pub each : (index : ℕ) → index < length words → slice_index placed (place_of slots index) ≡ slice_index words index
