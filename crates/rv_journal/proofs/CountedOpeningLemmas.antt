-- The opening words of a counted board are those of an empty history, and take 32 bits.
use Rattle.std.proofs.Common.{pow_mono, ◌≡◌, ℕ, zero, suc, ◌+◌, ◌-◌, ◌^◌, ◌<◌, ◌≤◌, List, [], ◌∷◌, ◌++◌, arith, refl, sym, ap, ◌∙◌, subst, add-one, sum}
use Rattle.std.specs.Prelude.{slice_index, slice_index_or}
use Rattle.atomic_table.specs.Table.{opening}
use Rattle.rv_model.specs.declared.entry.Act.{Act}
use Rattle.rv_model.specs.Numbers.{list_of}
use Rattle.rv_model.specs.Setups.{Setup, monitor_of, start_of}
use Rattle.rv_model.specs.SharedWords.{word_of}
use Rattle.rv_model.proofs.FoundLemmas.{length-list_of, get_or-list_of}
use Rattle.rv_model.proofs.NumberLemmas.{number_of-bits}
use Rattle.rv_table.specs.Rows.{IsRows}
use Rattle.rv_word.specs.Words.{packed}
use Rattle.rv_core.specs.Setup.{IsSetup, FitsShape, table_at, judges_of}
use Rattle.rv_core.proofs.OpeningLemmas as plain
use Rattle.rv_core.proofs.PlaceLemmas.{monitor_of-lt}
use Rattle.rv_board.specs.Places.{ArePlaced}
use Rattle.rv_board.specs.inner.Rule.{first_view, width}
use Rattle.rv_board.proofs.SplitLemmas.{opens_with}
use Rattle.rv_board.proofs.WordSteps.{opening-is}
use Rattle.rv_journal.specs.declared.words.Width.{Width}
use Rattle.rv_journal.specs.CountedWords.{FitsCountedWord, rows_at}
use Rattle.rv_journal.specs.inner.CountedWords.{counted_word, counted_at, also_counted, KeptCounted}
use Rattle.rv_journal.specs.CountedSeats.{no_width, IsWidth, AreWidths}
use Rattle.rv_journal.specs.inner.Openings.{OpensCounted}
use Rattle.rv_journal.proofs.WidthLemmas.{one-below, packed-narrow}

-- the opening word of a slot, by its starting levels
abbrev pub counted_opening : Setup → ℕ → ℕ
counted_opening s slot = counted_word (rows_at s slot) (packed 1 (start_of s slot)) 0

-- the switches, and then n opening words
abbrev pub counted_openings : Setup → ℕ → List ℕ
counted_openings s n = s.switches ∷ list_of (counted_opening s) n

-- no slot
pub counted-opens-none : (s : Setup) → s.switches ∷ [] ≡ counted_openings s 0
unfolding list_of
counted-opens-none s = refl

-- one more slot
pub counted-opens-more : (s : Setup) (slot : ℕ) (words : List ℕ) → words ≡ counted_openings s slot → words ++ counted_opening s slot ∷ [] ≡ counted_openings s (slot + 1)
unfolding list_of
counted-opens-more s slot words is = ap (λ (xs : List ℕ). xs ++ counted_opening s slot ∷ []) is ∙ ap (counted_openings s) (sym (add-one slot))

module _ (s : Setup) (widths : List Width) (fits : FitsShape s) (are : AreWidths s widths) (slot : ℕ) (low : slot < sum s.shape) where
  -- the width of a slot's monitor is that of its table
  pub width-at : IsWidth (table_at s slot) (start_of s slot) (slice_index_or widths (monitor_of s.shape slot) no_width)
  width-at = are.each (monitor_of s.shape slot) (let m = monitor_of-lt s.shape slot low in let tables = fits.many in omega arith)

  -- so its rows and starting levels take 32 bits
  pub start-fits : start_of s slot < 2 ^ (32 - rows_at s slot)
  start-fits =
      let w = width-at in
      let all = w.fits in
      let rows = w.wide in
      let levels = w.levels in
      let more = pow_mono {i = (slice_index_or widths (monitor_of s.shape slot) no_width).atoms} {j = 32 - rows_at s slot} (omega arith) in
      omega arith

  -- the rows of the slot's table are at most 32
  pub rows-fit : rows_at s slot ≤ 32
  rows-fit = let w = width-at in let all = w.fits in let rows = w.wide in omega arith

  -- a row is left for what waits
  pub some-rows : 0 < rows_at s slot
  some-rows = let w = width-at in let begins = w.begins in omega arith

  -- the opening word takes 32 bits
  pub opening-narrow : FitsCountedWord (rows_at s slot) (packed 1 (start_of s slot))
  opening-narrow = packed-narrow (rows_at s slot) 1 (start_of s slot) (one-below (rows_at s slot) some-rows) start-fits

  -- it is the word of an empty history
  pub opening-word : IsSetup s → word_of s (judges_of s) [] slot ≡ packed 1 (start_of s slot)
  opening-word k =
      let small : 2 ^ (32 - rows_at s slot) ≤ 2 ^ 32 = pow_mono {i = 32 - rows_at s slot} {j = 32} (let l : 32 - rows_at s slot ≤ 32 = omega arith in l) in
      let start = start-fits in
      sym ((opening-is s k).each (suc slot) (omega arith)) ∙ get_or-list_of (plain.opening s) (sum s.shape) slot 0 low ∙ ap (λ (n : ℕ). 2 ^ 32 + n) (number_of-bits (start_of s slot) 32 (omega arith))

-- the counted board opens so
pub opens-counted : (s : Setup) (widths : List Width) → IsSetup s → AreWidths s widths → ((slot : ℕ) → slot < sum s.shape → IsRows (table_at s slot)) → OpensCounted s (counted_openings s (sum s.shape))
opens-counted s widths k are rows = record {
  is_setup = k;
  wide = let n = length-list_of (counted_opening s) (sum s.shape) in omega arith;
  each = each;
  counted = record {
    rows = rows;
    begins = λ slot low. (width-at s widths k.fits are slot low).begins;
    narrow_words = λ slot low. subst (FitsCountedWord (rows_at s slot)) (sym (opening-word s widths k.fits are slot low k)) (opening-narrow s widths k.fits are slot low);
    few = λ n. omega arith;
  };
}
  where
    each : (i : ℕ) → i < width s → slice_index (counted_openings s (sum s.shape)) i ≡ counted_at s [] i
    each zero low = (opening-is s k).each zero low
    each (suc slot) low =
        let inside : slot < sum s.shape = omega arith in
        get_or-list_of (counted_opening s) (sum s.shape) slot 0 inside ∙ ap (λ (n : ℕ). counted_word (rows_at s slot) n 0) (sym (opening-word s widths k.fits are slot inside k))

-- the table of a counted board at the start
pub opens-by : (k : Setup) (words placed : List ℕ) → OpensCounted k words → {slots : ℕ} → ArePlaced slots words placed → slots ≡ sum k.shape → KeptCounted k (opening {S = Act} placed [] (first_view k))
opens-by k words placed o {slots} at many = opens_with counted_at (also_counted k) k words placed o.is_setup o.wide o.each (subst (λ (n : ℕ). ArePlaced n words placed) many at) o.counted
