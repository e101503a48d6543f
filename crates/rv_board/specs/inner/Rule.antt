-- The rule that the shared words keep between any two steps: one sound history gives them, and each seat has seen a
-- beginning of it.
use Rattle.std.specs.Prelude.{◌≡◌, ◌≢◌, ℕ, zero, suc, ◌/◌, ◌<◌, true, false, List, [], length, reverse, sum, slice_index}
use mathlib.Core.Option.{some}
use lib.ListN.{get_elem?}
use Rattle.atomic_table.specs.Table.{State}
use Rattle.rv_model.specs.declared.entry.Act.{Act}
use Rattle.rv_model.specs.declared.entry.Entry.{Entry}
use Rattle.rv_model.specs.Setups.{Setup}
use Rattle.rv_model.specs.SharedWords.{switches_of, word_of}
use Rattle.rv_model.specs.Histories.{IsSound}
use Rattle.rv_model.specs.Stepping.{table_judge}
use Rattle.rv_model.specs.Seats.{is_within, is_among, entries_of}
use Rattle.rv_core.specs.Setup.{IsSetup, judges_of, table_at}
use Rattle.rv_core.specs.Core.{IsLive, slot_phase}
use Rattle.rv_board.specs.declared.view.View.{View}
use Rattle.rv_board.specs.Known.{part, blank}
use Rattle.rv_board.specs.Places.{stride_of, place_of, room_of}
use Rattle.rv_board.specs.inner.Known.{knows, Begun, with_list}
use Rattle.rv_board.specs.Rule.{view}

-- the word at an index, as a history gives it: the switches at 0, and the word of slot n at n + 1
abbrev pub word_at : Setup → List Entry → ℕ → ℕ
word_at s history zero = switches_of s.switches (reverse history)
word_at s history (suc slot) = word_of s (judges_of s) (reverse history) slot

-- how many words a board has: the switches, and a word for each slot
abbrev pub width : Setup → ℕ
width s = suc (sum s.shape)

-- the index of the word at a place
abbrev pub index_at : ℕ → ℕ → ℕ
index_at slots place = place / stride_of slots

-- the place of the word of an index
abbrev pub place_in : Setup → ℕ → ℕ
place_in s = place_of (sum s.shape)

-- the setup is well formed, and each instance that runs after the history is in some row of its table
pub record IsMachine (s : Setup) (history : List Entry) : Type 0 where
  pub is_setup : IsSetup s
  pub live : (i : ℕ) → i < sum s.shape → IsLive (table_judge (table_at s i)) (slot_phase s (reverse history) i)

-- the words that a board opens with, one behind another, are those of an empty history
pub record IsOpening (s : Setup) (words : List ℕ) : Type 0 where
  pub is_setup : IsSetup s
  pub wide : length words ≡ width s
  pub each : (i : ℕ) → i < width s → slice_index words i ≡ word_at s [] i

-- a view fits the history: what its seat has seen is a beginning of it, and the numbers to be handed on are unused
pub record Fits (history : List Entry) (v : View) : Type 0 where
  pub begun : Begun history v.part
  -- what both seats of a join had seen, between its two loads
  pub left : Begun history v.left
  pub right : Begun history v.right
  pub left_within : (n : ℕ) → knows v.left n ≡ true → knows v.part n ≡ true
  pub right_within : (n : ℕ) → knows v.right n ≡ true → knows v.part n ≡ true
  -- no number that may still be handed on was joined in
  pub distinct : (n : ℕ) → is_within v.part.number v.part.end n ≡ true → is_among v.part.joined_in n ≡ false
  -- no number that may still be handed on has an entry
  pub unused : entries_of (is_within (suc v.part.number) v.part.end) history ≡ []

-- there is one sound history, which gives the words at their places by `code`; each seat has seen a beginning of it, no two seats know
-- one number, and `also` holds of the history and the views.
pub record Kept (code : Setup → List Entry → ℕ → ℕ) (also : List Entry → List View → Type 0) (s : Setup) (t : State Act View) : Type 0 where
  pub history : List Entry
  pub wide : length t.words ≡ room_of (sum s.shape)
  pub words : (i : ℕ) → i < width s → slice_index t.words (place_in s i) ≡ code s history i
  pub machine : IsMachine s history
  pub sound : IsSound s (judges_of s) history
  pub fits : (j : ℕ) (v : View) → get_elem? t.views j ≡ some v → Fits history v
  pub apart : (i j : ℕ) (v w : View) → get_elem? t.views i ≡ some v → get_elem? t.views j ≡ some w → i ≢ j → (n : ℕ) → knows v.part n ≡ true → knows w.part n ≡ true → ⊥
  pub further : also history t.views

-- no further fact: the `also` of a board whose words hold no more than the history gives
abbrev pub nothing_else : List Entry → List View → Type 0
nothing_else history views = Unit {0}

-- the rule of a board without counts: each word is the one that the history gives
abbrev pub KeptPlainly : Setup → State Act View → Type 0
KeptPlainly = Kept word_at nothing_else

-- ---- views

-- the view of a board's first seat: it has all numbers and has seen nothing
abbrev pub first_view : Setup → View
first_view s = view (part 0 67 [] []) blank blank s

-- the view whose seat has seen the list `history`, with the numbers of `v` and no join under way
abbrev pub with_seen : View → List Entry → View
with_seen v history = view (with_list v.part history) blank blank v.setup
