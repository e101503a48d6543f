-- What a try of a counted delivery owes: its next word takes 32 bits, and its count fits.
use Rattle.std.proofs.Common.{◌≡◌, ℕ, ◌+◌, ◌-◌, ◌^◌, ◌<◌, ◌≤◌, ◌==◌, sum, ap, sym, ◌∙◌, subst, arith}
use mathlib.Core.Option.{some, none}
use prog.Atomic.{either}
use Rattle.std.specs.Prelude.{bit_and}
use Rattle.atomic_table.specs.Table.{step, Allows}
use Rattle.rv_model.specs.declared.entry.Act.TheVariants.{Deliver}
use Rattle.rv_model.specs.declared.hit.Hit.{Hit}
use Rattle.rv_model.specs.Setups.{Setup}
use Rattle.rv_model.specs.Histories.{IsSound}
use Rattle.rv_core.specs.Setup.{table_at, judges_of}
use Rattle.rv_core.specs.Advance.{FitsTable, WhatFits, advanced}
use Rattle.rv_board.specs.declared.view.View.{View}
use Rattle.rv_board.specs.inner.Rule.{place_in, width}
use Rattle.rv_board.specs.inner.Steps.{Ours}
use Rattle.rv_board.proofs.CallLemmas.{may}
use Rattle.rv_board.proofs.RaceLemmas.{raced}
use Rattle.rv_journal.specs.CountedWords.{FitsCountedWord, IsBelow, rows_at, FitsCounts}
use Rattle.rv_journal.specs.inner.CountedWords.{count_in, counted_at, KeptCounted}
use Rattle.rv_journal.specs.inner.CountedSteps.{IsCountedLoad, IsCountedExchange, IsCountedStop, next_word, next_counted}
use Rattle.rv_journal.specs.CountedSeats.{IsCountedSeat}
use Rattle.rv_journal.proofs.CountLemmas.{count-fits}
use Rattle.rv_journal.proofs.WidthLemmas.{rows-few}
use Rattle.rv_journal.proofs.CountedWordLemmas.{found-word, found-count, hit-narrow}
use Rattle.rv_journal.proofs.CountedStepLemmas.{sees, tries, stops}
use Rattle.rv_journal.proofs.CountedRaceLemmas.{LostCounted}

module _ {k : Setup} {u w : View} {slot lost raw : ℕ} (l : LostCounted u w slot lost raw) (setup : u.setup ≡ k) (low : slot < sum k.shape) where
  -- what the seat has seen is counted, sound, and gives the word
  counted : FitsCounts k w.part.seen
  counted = subst (λ (z : Setup). FitsCounts z w.part.seen) setup l.counted

  -- what it has seen is sound
  sound : IsSound k (judges_of k) w.part.seen
  sound = subst (λ (z : Setup). IsSound z (judges_of z) w.part.seen) setup l.plain.sound

  -- the word that was found is the one that it gives
  raw-is : raw ≡ counted_at k w.part.seen (slot + 1)
  raw-is = l.raw_is ∙ ap (λ (z : Setup). counted_at z w.part.seen (slot + 1)) setup

  -- the rows take 32 bits at most
  pub few-rows : rows_at k slot ≤ 32
  few-rows = rows-few (table_at k slot) (counted.rows slot low)

  -- the next word takes 32 bits
  pub next-narrow : (hit : Hit) → IsBelow (32 - rows_at k slot) hit.what → FitsCountedWord (rows_at k slot) (next_word (table_at k slot) (rows_at k slot) raw hit)
  next-narrow hit below = subst (λ (n : ℕ). FitsCountedWord (rows_at k slot) (advanced (table_at k slot) n hit).1) (sym (found-word k w.part.seen 0 slot counted low raw sound raw-is)) (hit-narrow k w.part.seen 0 slot counted low hit below)

  -- the count may grow by one
  pub next-fits : count_in raw + 1 < 2 ^ 32
  next-fits = let fits = count-fits k (judges_of k) w.part.seen slot sound counted.few in let is = found-count k w.part.seen 0 slot counted low raw sound raw-is in omega arith

module _ {k : Setup} (slots id : ℕ) {number end left : ℕ} {me : Ours} (c : IsCountedSeat number end left me) (setup : me.0.setup ≡ k) where
  -- a load
  pub counted-loads : (i : ℕ) {place : ℕ} → place ≡ place_in k i → i < width k → Allows (KeptCounted k) slots id me place (λ n. n) (IsCountedLoad (step slots place 0 0 none) me)
  counted-loads i at inside = sees k slots id me i at inside setup c.usable.has

  -- a compare-exchange to the next word
  pub counted-exchanges : (slot old : ℕ) {new place : ℕ} (hit : Hit) → place ≡ place_in k (slot + 1) → 0 < left → slot < sum k.shape → FitsTable (table_at k slot) hit → WhatFits hit.what → IsBelow (32 - rows_at k slot) hit.what → new ≡ next_counted (table_at k slot) (rows_at k slot) old hit
      → Allows (KeptCounted k) slots id me place (λ n. either (n == old) new n) (IsCountedExchange (step slots place old new (some (Deliver slot hit))) me)
  counted-exchanges slot old {new} hit at some_left low fits bits below is =
      let room = c.room in tries k slots id me slot old new hit at low (may k number end me (Deliver slot hit) c.usable setup (low, fits) bits tt tt) (omega arith) below is

  -- a stop, which three lost tries justify
  pub counted-stops : {u : View} (slot : ℕ) {lost raw place : ℕ} → place ≡ place_in k (slot + 1) → 0 < left → slot < sum k.shape → u.part.number < u.part.end → 3 ≤ lost → LostCounted u me.0 slot lost raw
      → Allows (KeptCounted k) slots id me place (λ n. bit_and n 4294967295) (IsCountedStop (step slots place 4294967295 0 none) me)
  counted-stops {u} slot {lost} {raw} at some_left low has three l =
      let room = c.room in
      stops k slots id me slot at low record { setup = setup; has = c.usable.has; small = c.usable.small; fits = low; bits = tt; permitted = tt; justified = raced has three l.plain } (omega arith)
