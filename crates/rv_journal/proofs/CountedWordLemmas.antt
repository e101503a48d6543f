-- What an act makes of the counted words.
use Rattle.std.proofs.Common.{pow_mono, ◌≡◌, ◌≢◌, ℕ, zero, suc, ◌+◌, ◌-◌, ◌*◌, ◌^◌, ◌<◌, ◌≤◌, ◌==◌, not, Bool, true, false, List, [], ◌∷◌, ◌++◌, reverse, sum, refl, sym, ap, ◌∙◌, subst, arith, add-one, if◌then◌else◌}
use mathlib.Core.Logic.{dite}
use native.Mathlib.Decide.{ℕ_discrete}
use Rattle.std.proofs.lemmas.Bool.Decides.{nat_tests}
use Rattle.std.proofs.lemmas.Nat.{pow_pos}
use Rattle.rv_model.specs.declared.entry.Act.{Act}
use Rattle.rv_model.specs.declared.entry.Act.TheVariants.{Deliver, Stop}
use Rattle.rv_model.specs.declared.entry.Entry.{Entry}
use Rattle.rv_model.specs.declared.hit.Hit.{Hit}
use Rattle.rv_model.specs.Setups.{Setup}
use Rattle.rv_model.specs.SharedWords.{word_of}
use Rattle.rv_model.specs.Histories.{IsSound}
use Rattle.rv_word.specs.Words.{set_in, atoms_in}
use Rattle.rv_core.specs.Setup.{word_index, table_at, judges_of}
use Rattle.rv_core.specs.Advance.{advanced}
use Rattle.rv_board.specs.inner.Rule.{word_at}
use Rattle.rv_board.specs.inner.Steps.{made_after}
use Rattle.rv_board.proofs.WordSteps.{Acted}
use Rattle.rv_journal.specs.CountedWords.{FitsCountedWord, IsBelow, counts, count_on, rows_at, entries_by, most_entries, FitsCounts}
use Rattle.rv_journal.specs.inner.CountedWords.{counted_word, word_in, count_in, counted_at}
use Rattle.rv_journal.specs.inner.CountedSteps.{next_counted}
use Rattle.rv_journal.proofs.CountsFitLemmas.{word_in_32-zero, halves-back, count-back, word-back}
use Rattle.rv_journal.proofs.WidthLemmas.{advanced-narrow}
use Rattle.rv_journal.proofs.CountLemmas.{count-snoc, counts-other, counts-deliver, few-snoc, count-fits}

-- the counted word of a slot, at its place
pub at-slot : (s : Setup) (h : List Entry) (slot : ℕ) → counted_at s h (slot + 1) ≡ counted_word (rows_at s slot) (word_at s h (slot + 1)) (count_on slot h)
at-slot s h slot = subst (λ (i : ℕ). counted_at s h i ≡ counted_word (rows_at s slot) (word_at s h i) (count_on slot h)) (sym (add-one slot)) refl

-- the word of a slot, at its place
pub slot-word : (s : Setup) (h : List Entry) (slot : ℕ) → word_at s h (slot + 1) ≡ word_of s (judges_of s) (reverse h) slot
slot-word s h slot = ap (word_at s h) (add-one slot)

-- an act leaves the other words
pub counted-elsewhere : (s : Setup) (h : List Entry) (e : Entry) (i : ℕ) → word_index e.act ≢ i → word_at s (h ++ e ∷ []) i ≡ word_at s h i → counted_at s (h ++ e ∷ []) i ≡ counted_at s h i
counted-elsewhere s h e zero ne same = same
counted-elsewhere s h e (suc slot) ne same =
    let calm : counts slot e ≡ false = counts-other slot e ne in
    let c : count_on slot (h ++ e ∷ []) ≡ count_on slot h = count-snoc slot h e ∙ rw calm (omega arith) in
    λ i. counted_word (rows_at s slot) (same i) (c i)

-- a word in 32 bits is a word
pub narrow-small : (wide word : ℕ) → wide ≤ 32 → FitsCountedWord wide word → word < 2 ^ 64
narrow-small wide word low is =
    let a : 2 ^ wide ≤ 2 ^ 32 = pow_mono {i = wide} {j = 32} low in
    let b : 2 ^ (32 - wide) ≤ 2 ^ 32 = pow_mono {i = 32 - wide} {j = 32} (let l : 32 - wide ≤ 32 = omega arith in l) in
    let set = is.set in
    let levels = is.levels in
    let whole : set_in word * 2 ^ 32 + atoms_in word ≡ word = halves-back word in
    omega arith

-- the stopped word takes 32 bits
pub zero-narrow : (wide : ℕ) → FitsCountedWord wide 0
zero-narrow wide = record { set = let p = pow_pos wide in omega arith; levels = let p = pow_pos (32 - wide) in omega arith }

module _ (s : Setup) (h : List Entry) (seat slot : ℕ) (c : FitsCounts s h) (low : slot < sum s.shape) where
  -- the slot's word before an act takes 32 bits
  pub found-narrow : FitsCountedWord (rows_at s slot) (word_at s h (slot + 1))
  found-narrow = subst (FitsCountedWord (rows_at s slot)) (sym (slot-word s h slot)) (c.narrow_words slot low)

  -- it is the word of the counted word
  pub found-word : (raw : ℕ) → IsSound s (judges_of s) h → raw ≡ counted_at s h (slot + 1) → word_in (rows_at s slot) raw ≡ word_at s h (slot + 1)
  found-word raw sound is =
      let fits = count-fits s (judges_of s) h slot sound c.few in
      ap (word_in (rows_at s slot)) (is ∙ at-slot s h slot) ∙ word-back (rows_at s slot) (word_at s h (slot + 1)) (count_on slot h) found-narrow (omega arith)

  -- and its count is the slot's
  pub found-count : (raw : ℕ) → IsSound s (judges_of s) h → raw ≡ counted_at s h (slot + 1) → count_in raw ≡ count_on slot h
  found-count raw sound is =
      let fits = count-fits s (judges_of s) h slot sound c.few in
      ap count_in (is ∙ at-slot s h slot) ∙ count-back (rows_at s slot) (word_at s h (slot + 1)) (count_on slot h) found-narrow (omega arith)

  -- the word that a hit leaves takes 32 bits
  pub hit-narrow : (hit : Hit) → IsBelow (32 - rows_at s slot) hit.what → FitsCountedWord (rows_at s slot) (made_after s seat (Deliver slot hit) h).after
  hit-narrow hit below = advanced-narrow (table_at s slot) (c.rows slot low) (c.begins slot low) (word_at s h (slot + 1)) hit below found-narrow

  -- the count after a delivery
  counted-hit : (hit : Hit) → count_on slot (h ++ made_after s seat (Deliver slot hit) h ∷ []) ≡ count_on slot h + (if word_at s h (slot + 1) == (made_after s seat (Deliver slot hit) h).after then 0 else 1)
  counted-hit hit =
      let x : Entry = made_after s seat (Deliver slot hit) h in
      let here : (slot == slot) ≡ true = grind (arith, nat_tests) in
      count-snoc slot h x ∙ rw (counts-deliver slot x refl here) (on (x.before == x.after))
    where
      on : (b : Bool) → count_on slot h + (if not b then 1 else 0) ≡ count_on slot h + (if b then 0 else 1)
      on true = refl
      on false = refl

  -- a delivery leaves the counted word that is computed from the one before
  pub hit-leaves : (hit : Hit) (raw : ℕ) → IsSound s (judges_of s) h → raw ≡ counted_at s h (slot + 1) → Acted s h seat (Deliver slot hit) → next_counted (table_at s slot) (rows_at s slot) raw hit ≡ counted_at s (h ++ made_after s seat (Deliver slot hit) h ∷ []) (slot + 1)
  hit-leaves hit raw sound is does =
      let x : Entry = made_after s seat (Deliver slot hit) h in
      let w = found-word raw sound is in
      let n = found-count raw sound is in
      (λ i. counted_word (rows_at s slot) (advanced (table_at s slot) (w i) hit).1 (n i + (if w i == (advanced (table_at s slot) (w i) hit).1 then 0 else 1)))
      ∙ (λ i. counted_word (rows_at s slot) (sym does.here i) (sym (counted-hit hit) i))
      ∙ sym (at-slot s (h ++ x ∷ []) slot)

  -- a stop leaves the count
  pub stop-leaves : (raw : ℕ) → IsSound s (judges_of s) h → raw ≡ counted_at s h (slot + 1) → Acted s h seat (Stop slot) → count_in raw ≡ counted_at s (h ++ made_after s seat (Stop slot) h ∷ []) (slot + 1)
  stop-leaves raw sound is does =
      let x : Entry = made_after s seat (Stop slot) h in
      let same : count_on slot (h ++ x ∷ []) ≡ count_on slot h = count-snoc slot h x ∙ omega arith in
      let none : counted_word (rows_at s slot) 0 (count_on slot h) ≡ count_on slot h = let z = word_in_32-zero (rows_at s slot) in omega arith in
      found-count raw sound is ∙ sym none ∙ (λ i. counted_word (rows_at s slot) (sym does.here i) (sym same i)) ∙ sym (at-slot s (h ++ x ∷ []) slot)

-- a history stays counted by an act whose word takes 32 bits
pub counted-made : (s : Setup) (h : List Entry) (seat slot : ℕ) (act : Act) → word_index act ≡ slot + 1 → FitsCounts s h → Acted s h seat act → entries_by seat h < most_entries → FitsCountedWord (rows_at s slot) (made_after s seat act h).after → FitsCounts s (h ++ made_after s seat act h ∷ [])
counted-made s h seat slot act at c does room is = record {
  rows = c.rows;
  begins = c.begins;
  narrow_words = each;
  few = few-snoc h x room c.few;
}
  where
    x : Entry
    x = made_after s seat act h

    each : (other : ℕ) → other < sum s.shape → FitsCountedWord (rows_at s other) (word_of s (judges_of s) (reverse (h ++ x ∷ [])) other)
    each other low = dite (ℕ_discrete other slot)
        (λ same. let here : word_at s (h ++ x ∷ []) (slot + 1) ≡ x.after = ap (word_at s (h ++ x ∷ [])) (sym at) ∙ does.here in
        subst (λ (z : ℕ). FitsCountedWord (rows_at s z) (word_of s (judges_of s) (reverse (h ++ x ∷ [])) z)) (sym same) (subst (FitsCountedWord (rows_at s slot)) (sym here ∙ slot-word s (h ++ x ∷ []) slot) is))
        (λ ne. let away : other + 1 ≢ word_index act = λ e. ne (omega arith) in
        let kept : word_at s (h ++ x ∷ []) (other + 1) ≡ word_at s h (other + 1) = does.others (other + 1) (omega arith) away in
        subst (FitsCountedWord (rows_at s other)) (sym (slot-word s h other) ∙ sym kept ∙ slot-word s (h ++ x ∷ []) other) (c.narrow_words other low))
