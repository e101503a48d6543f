-- A call's seat and its board meet: they have one table and one setup.
use Rattle.std.proofs.Common.{◌≡◌, ℕ, ◌+◌, ◌*◌, ◌^◌, ◌<◌, sum, ap, sym, ◌∙◌, subst, arith}
use Rattle.atomic_table.specs.Seated.{TableId}
use Rattle.rv_model.specs.Seats.{Seat}
use Rattle.rv_model.specs.Setups.{Setup, start_of}
use Rattle.rv_word.specs.Words.{packed}
use Rattle.rv_board.specs.Places.{place_of, room_of}
use Rattle.rv_board.specs.Seats.{BoardId, SeatValue, seat_value}
use Rattle.rv_board.specs.inner.Rule.{place_in}
use Rattle.rv_board.specs.inner.Seats.{board_id}
use Rattle.rv_board.proofs.SpacingLemmas.{front-below, place-below}

-- a slot of the setup that the words are ruled by has its word at this place of the table
pub record StandsAt (table : TableId) (key : Setup) (slot place : ℕ) : Type 0 where
  pub low : slot < sum key.shape
  pub below : place < table.words
  pub at : place ≡ place_in key (slot + 1)

-- the seat's table is the board's, and the seat's setup and the one that the words are ruled by are the one that contracts see
pub record Meet (mine theirs : TableId) (own key setup : Setup) (spacing : ℕ) : Type 0 where
  pub table_is : mine ≡ theirs
  pub setup_is : own ≡ key
  pub key_is : key ≡ setup
  -- the switches have a word
  pub front : 0 < theirs.words
  -- so has each slot, at the place that the spacing gives it
  pub stands : {slot place : ℕ} → slot < sum setup.shape → place ≡ place_of spacing (slot + 1) → StandsAt theirs key slot place

-- where contracts see the seat on the board
pub meets : {mine theirs : TableId} {seat : Seat} {own key setup : Setup} {spacing : ℕ} {old : SeatValue} {board : BoardId} → seat_value seat (board_id mine own) ≡ old → old.board ≡ board → board_id theirs setup ≡ board → (key ≡ setup) × (theirs.words ≡ room_of (sum setup.shape)) × (spacing ≡ sum setup.shape)
    → Meet mine theirs own key board.setup spacing
meets {mine} {theirs} {seat} {own} {key} {setup} {spacing} {old} {board} seen of is kept =
    let same : board_id mine own ≡ board_id theirs setup = ap (λ (f : SeatValue). f.board) seen ∙ of ∙ sym is in
    let all : key ≡ board.setup = kept.0 ∙ ap (λ (b : BoardId). b.setup) is in
    let room : theirs.words ≡ room_of (sum key.shape) = kept.1 ∙ ap (λ (s : Setup). room_of (sum s.shape)) (sym kept.0) in
    let slots : spacing ≡ sum key.shape = kept.2 ∙ ap (λ (s : Setup). sum s.shape) (sym kept.0) in
    record {
      table_is = ap (λ (b : BoardId). b.table) same;
      setup_is = ap (λ (b : BoardId). b.setup) same ∙ sym kept.0;
      key_is = all;
      front = subst (λ (n : ℕ). 0 < n) (sym room) (front-below (sum key.shape));
      stands = λ {slot} {place} low at.
          let inside : slot < sum key.shape = subst (λ (s : Setup). slot < sum s.shape) (sym all) low in
          let here : place ≡ place_in key (slot + 1) = at ∙ ap (λ (n : ℕ). place_of n (slot + 1)) slots in
          record { low = inside; below = subst (λ (z : ℕ × ℕ). z.0 < z.1) (λ j. (sym here j, sym room j)) (place-below (sum key.shape) (slot + 1) (omega arith)); at = here };
    }

-- a slot's opening word, as the setup that the words are ruled by has it
pub opening_at : {key setup : Setup} (slot word : ℕ) → key ≡ setup → start_of setup slot < 2 ^ 32 → word ≡ 1 * 2 ^ 32 + start_of setup slot → (start_of key slot < 2 ^ 32) × (word ≡ packed 1 (start_of key slot))
opening_at slot word same low is = (subst (λ (s : Setup). start_of s slot < 2 ^ 32) (sym same) low, is ∙ ap (λ (s : Setup). 1 * 2 ^ 32 + start_of s slot) (sym same))

-- where contracts see a number between the seat's own and its end, it is between those that the seat has
pub cut_range : {mine : Seat} {on : BoardId} {old : SeatValue} {number : ℕ} → seat_value mine on ≡ old → (old.part.number < number) × (number < old.part.end) → (mine.number < number) × (number < mine.end)
cut_range {mine} {on} {old} {number} seen range = subst (λ (f : SeatValue). (f.part.number < number) × (number < f.part.end)) (sym seen) range
