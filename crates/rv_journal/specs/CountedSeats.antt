-- Seats of a counted board as plain data, the widths of its words, and what a counted delivery observes.
use Rattle.std.specs.Prelude.{◌≡◌, ℕ, suc, ◌+◌, ◌<◌, ◌≤◌, ◌^◌, List, [], ◌∷◌, ◌++◌, filter, length, slice_index, slice_index_or}
use Rattle.std.specs.Coded.{Coded, code_by, coded×, coded_ℕ}
use Rattle.std.proofs.Common.{refl}
use Rattle.atomic_table.specs.Table.{Me}
use Rattle.rv_model.specs.declared.entry.Act.{Act}
use Rattle.rv_model.specs.declared.entry.Entry.{Entry}
use Rattle.rv_model.specs.declared.record.Delivered.TheVariants.{Racing}
use Rattle.rv_model.specs.Histories.{changed}
use Rattle.rv_model.specs.Seats.{is_within, known_of, entries_of}
use Rattle.rv_model.specs.Setups.{Setup}
use Rattle.rv_model.specs.Table.{Table, first_row}
use Rattle.rv_table.specs.Rows.{row_count}
use Rattle.rv_core.specs.Setup.{no_table}
use Rattle.rv_board.specs.declared.view.View.{View}
use Rattle.rv_board.specs.Seats.{SeatValue, coded_seat, IsUsable}
use Rattle.rv_journal.specs.declared.counted.Counted.{Counted}
use Rattle.rv_journal.specs.declared.words.Width.{Width}
use Rattle.rv_journal.specs.CountedWords.{count_on, entries_by, most_entries, FitsCounts}

-- what contracts see of a counted seat: what it knows, and how many entries it may still make
pub record CountedValue : Type 0 where
  pub seat : SeatValue
  pub left : ℕ

-- a counted seat as a pair, by a code of entries
abbrev pub coded_counted : Coded Entry → Coded CountedValue
coded_counted entry = code_by (SeatValue × ℕ) (coded× (coded_seat entry) coded_ℕ) (λ s. (s.seat, s.left)) (λ p. record { seat = p.0; left = p.1 }) (λ _. refl)

-- a counted seat from what it knows and how many entries it may still make
abbrev pub counted_value : SeatValue → ℕ → CountedValue
counted_value seat left = record { seat = seat; left = left }

-- between two calls a counted seat is as one without counts; besides, what it has seen fits counts, its number has room
-- for the entries that are left, and the numbers to be handed on have no entry
pub record IsCountedSeat (number end left : ℕ) (me : Me Act View) : Type 0 where
  pub usable : IsUsable number end me
  pub counted : FitsCounts me.0.setup me.0.part.seen
  pub room : entries_by me.0.part.number me.0.part.seen + left ≤ most_entries
  pub unused : entries_of (is_within (suc me.0.part.number) me.0.part.end) me.0.part.seen ≡ []

-- ---- widths

-- the width without a bit
abbrev pub no_width : Width
no_width = record { rows = 0; atoms = 0 }

-- the rows are those of the table, they and the levels take 32 bits together, and the start row is one of them
pub record IsWidth (t : Table) (start : ℕ) (w : Width) : Type 0 where
  pub wide : w.rows ≡ row_count t
  pub begins : first_row t < row_count t
  pub fits : w.rows + w.atoms ≤ 32
  pub levels : start < 2 ^ w.atoms

-- there is one width for each monitor, which fits its table and its starting levels
pub record AreWidths (s : Setup) (widths : List Width) : Type 0 where
  pub many : length widths ≡ length s.tables
  pub each : (m : ℕ) → m < length s.tables → IsWidth (slice_index_or s.tables m no_table) (slice_index s.starts m) (slice_index_or widths m no_width)

-- ---- deliveries

-- the list grows by what was there at the call's first load, by what came since, and by the call's entry; `first` is
-- the slot's count before what came since, and `count` that after it
pub record Counts (old new : SeatValue) (slot : ℕ) (observed : Counted) : Type 0 where
  pub earlier : List Entry
  pub since : List Entry
  pub list : new.part.seen ≡ ((old.part.seen ++ earlier) ++ since) ++ observed.entry ∷ []
  pub others : entries_of (known_of old.part) (earlier ++ since) ≡ []
  pub first : observed.first ≡ count_on slot (old.part.seen ++ earlier)
  pub count : observed.count ≡ count_on slot ((old.part.seen ++ earlier) ++ since)
  -- where the instance was stopped, three entries changed its slot's word since the first load
  pub racing : observed.outcome ≡ Racing → 3 ≤ length (filter (changed slot) since)
