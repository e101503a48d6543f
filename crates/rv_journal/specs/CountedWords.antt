-- Words with a count, in which an instance's word takes 32 bits (this project's choice: docs/DECISIONS.md, "Counted
-- words").
use Rattle.std.specs.Prelude.{ℕ, ◌-◌, ◌^◌, ◌<◌, ◌≤◌, ◌==◌, Bool, true, false, ◌&&◌, List, length, filter, reverse, sum}
use Rattle.rv_model.specs.declared.entry.Act.{Act}
use Rattle.rv_model.specs.declared.entry.Act.TheVariants.{Deliver}
use Rattle.rv_model.specs.declared.entry.Entry.{Entry}
use Rattle.rv_model.specs.declared.hit.What.{What}
use Rattle.rv_model.specs.declared.hit.What.TheVariants.{Da, Ltl, Nothing}
use Rattle.rv_model.specs.Setups.{Setup}
use Rattle.rv_model.specs.SharedWords.{word_of}
use Rattle.rv_model.specs.Histories.{changed}
use Rattle.rv_model.specs.Seats.{entries_of}
use Rattle.rv_model.specs.Table.{first_row}
use Rattle.rv_table.specs.Rows.{IsRows, row_count}
use Rattle.rv_word.specs.Words.{set_in, atoms_in}
use Rattle.rv_core.specs.Setup.{table_at, judges_of}

-- ---- words

-- an instance's word takes 32 bits: `wide` of them for its set of rows, and the others for its levels
pub record FitsCountedWord (wide word : ℕ) : Type 0 where
  pub set : set_in word < 2 ^ wide
  pub levels : atoms_in word < 2 ^ (32 - wide)

-- ---- histories

-- whether the act is a delivery
abbrev pub is_deliver : Act → Bool
is_deliver (Deliver slot hit) = true
is_deliver _ = false

-- whether the entry is a delivery on the slot that changed its word
abbrev pub counts : ℕ → Entry → Bool
counts slot e = is_deliver e.act && changed slot e

-- how many deliveries on the slot changed its word
abbrev pub count_on : ℕ → List Entry → ℕ
count_on slot history = length (filter (counts slot) history)

-- how many rows the table of a slot has, row 0 too
abbrev pub rows_at : Setup → ℕ → ℕ
rows_at s slot = row_count (table_at s slot)

-- how many entries a seat number has
abbrev pub entries_by : ℕ → List Entry → ℕ
entries_by n history = length (entries_of (λ m. m == n) history)

-- the most entries that one seat number may have
abbrev pub most_entries : ℕ
most_entries = 4000000

-- each slot's word takes 32 bits, and no number has more entries than it may, so no count is too large
pub record FitsCounts (s : Setup) (history : List Entry) : Type 0 where
  pub rows : (slot : ℕ) → slot < sum s.shape → IsRows (table_at s slot)
  pub begins : (slot : ℕ) → slot < sum s.shape → first_row (table_at s slot) < rows_at s slot
  pub narrow_words : (slot : ℕ) → slot < sum s.shape → FitsCountedWord (rows_at s slot) (word_of s (judges_of s) (reverse history) slot)
  pub few : (n : ℕ) → entries_by n history ≤ most_entries

-- ---- hits

-- the atoms that a hit turns on, turns off or pulses are among the first `levels`
abbrev pub IsBelow : ℕ → What → Type 0
IsBelow levels (Da event) = Unit {0}
IsBelow levels (Ltl on off pulse) = (on < 2 ^ levels) × (off < 2 ^ levels) × (pulse < 2 ^ levels)
IsBelow levels Nothing = Unit {0}
