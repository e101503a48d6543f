-- How many entries changed a slot's word: as many as it counts, and one more where it is stopped.
use Rattle.std.proofs.Common.{◌≡◌, ◌≢◌, ℕ, ◌+◌, ◌==◌, Bool, true, false, ◌&&◌, not, List, [], ◌∷◌, ◌++◌, length, reverse, refl, sym, ap, ◌∙◌, subst, arith, append_assoc, if◌then◌else◌}
use Rattle.std.proofs.lemmas.Bool.Decides.{nat_tests}
use Rattle.std.proofs.lemmas.List.{append-nil, reverse-append}
use Rattle.rv_model.specs.declared.entry.Entry.{Entry}
use Rattle.rv_model.specs.SharedWords.{word_of}
use Rattle.rv_model.specs.Setups.{Setup}
use Rattle.rv_model.specs.Histories.{is_on, changed}
use Rattle.rv_core.specs.Setup.{judges_of}
use Rattle.rv_board.specs.inner.Rule.{IsMachine}
use Rattle.rv_board.proofs.SoundLemmas.{filter_append, still}
use Rattle.rv_journal.specs.CountedWords.{is_deliver, counts, count_on}
use Rattle.rv_journal.specs.MergeSteps.{slot_in, changes_on}
use Rattle.rv_journal.proofs.CountLemmas.{count-snoc}
use Rattle.rv_journal.proofs.MarkLemmas.{filter_yes, filter_no}
use Rattle.rv_journal.proofs.SlotActLemmas.{slot_in-is}
use Rattle.rv_journal.proofs.MergeWordLemmas.{moved}
use Rattle.rv_journal.proofs.StoppedLemmas.{IsItemEntry, found, stopped-still, stop-none, deliver-some}

-- 1 where the word is that of a stopped instance
abbrev pub stop_count : ℕ → ℕ
stop_count word = if word == 0 then 1 else 0

module _ (s : Setup) where
  -- one entry more
  module _ (history : List Entry) (e : Entry) (m : IsMachine s history) (it : IsItemEntry s history e) (i : ℕ) where
    -- a change is on the slot, and leaves another word
    differ : (changed i e ≡ true) → (is_on i e.act ≡ true) × (e.before ≢ e.after)
    differ on = go (is_on i e.act) refl (e.before == e.after) refl on
      where
        go : (a : Bool) → is_on i e.act ≡ a → (b : Bool) → (e.before == e.after) ≡ b → (a && not b) ≡ true → (is_on i e.act ≡ true) × (e.before ≢ e.after)
        go true p false q y = (p, grind (arith, nat_tests))
        go true p true q y = absurd (let no : false ≡ true = y in cc)
        go false p b q y = absurd (let no : false ≡ true = y in cc)

    -- a count that is right stays so
    pub count-next : changes_on i history ≡ count_on i history + stop_count (word_of s (judges_of s) (reverse history) i)
        → changes_on i (history ++ e ∷ []) ≡ count_on i (history ++ e ∷ []) + stop_count (word_of s (judges_of s) (reverse (history ++ e ∷ [])) i)
    count-next so = by (changed i e) refl
      where
        back : word_of s (judges_of s) (reverse (history ++ e ∷ [])) i ≡ word_of s (judges_of s) (e ∷ reverse history) i
        back = ap (λ (h : List Entry). word_of s (judges_of s) h i) (reverse-append history (e ∷ []))

        sums : changes_on i (history ++ e ∷ []) ≡ changes_on i history + changes_on i (e ∷ [])
        sums = filter_append i history (e ∷ [])

        number : count_on i (history ++ e ∷ []) ≡ count_on i history + (if counts i e then 1 else 0)
        number = count-snoc i history e

        by : (b : Bool) → changed i e ≡ b → changes_on i (history ++ e ∷ []) ≡ count_on i (history ++ e ∷ []) + stop_count (word_of s (judges_of s) (reverse (history ++ e ∷ [])) i)
        by false off =
            let none : counts i e ≡ false = no-count (is_deliver e.act) off in
            let zero' : changes_on i (e ∷ []) ≡ 0 = ap length (filter_no (changed i) e [] off) in
            let number' : count_on i (history ++ e ∷ []) ≡ count_on i history + 0 = number ∙ ap (λ (b : Bool). count_on i history + (if b then 1 else 0)) none in
            let word = ap stop_count (back ∙ still s (judges_of s) history i e it.words off) in
            let sums' = sums in
            omega arith
          where
            no-count : (a : Bool) → changed i e ≡ false → (a && changed i e) ≡ false
            no-count true off = off
            no-count false off = refl
        by true on =
            let parts = differ on in
            let there : slot_in e.act ≡ i = slot_in-is i e.act parts.0 in
            let one : changes_on i (e ∷ []) ≡ 1 = ap length (filter_yes (changed i) e [] on) in
            let before_is : word_of s (judges_of s) (reverse history) i ≡ e.before = sym (found s history e m it ∙ ap (word_of s (judges_of s) (reverse history)) there) in
            let after_is : word_of s (judges_of s) (reverse (history ++ e ∷ [])) i ≡ e.after = back ∙ moved s history i e it.words on in
            let some : e.before ≢ 0 = λ z. parts.1 (z ∙ sym (stopped-still s history e m it z)) in
            let was : stop_count (word_of s (judges_of s) (reverse history) i) ≡ 0 = ap stop_count before_is ∙ going' e.before some in
            let tells = by-deliver (is_deliver e.act) refl some on in
            let word = ap stop_count after_is in
            let sums' = sums in
            let number' = number in
            omega arith
          where
            going' : (w : ℕ) → w ≢ 0 → stop_count w ≡ 0
            going' w some = let n : (w == 0) ≡ false = grind (arith, nat_tests) in rw n refl

            by-deliver : (b : Bool) → is_deliver e.act ≡ b → e.before ≢ 0 → changed i e ≡ true → (if counts i e then 1 else 0) + stop_count e.after ≡ 1
            by-deliver true delivers some on =
                let counted : counts i e ≡ true = rw (delivers, on) refl in
                let none = going' e.after (deliver-some s history e m it delivers some) in
                rw counted (omega arith)
            by-deliver false stops some on =
                let counted : counts i e ≡ false = rw stops refl in
                let none : e.after ≡ 0 = stop-none s history e m it stops in
                rw (counted, none) refl

  -- of a history that was told entry by entry
  pub counted-more : (i : ℕ) (history more : List Entry) → ((before : List Entry) (e : Entry) (after : List Entry) → more ≡ before ++ e ∷ after → IsMachine s (history ++ before) × IsItemEntry s (history ++ before) e)
      → changes_on i history ≡ count_on i history + stop_count (word_of s (judges_of s) (reverse history) i)
      → changes_on i (history ++ more) ≡ count_on i (history ++ more) + stop_count (word_of s (judges_of s) (reverse (history ++ more)) i)
  counted-more i history [] all so = subst (λ (h : List Entry). changes_on i h ≡ count_on i h + stop_count (word_of s (judges_of s) (reverse h) i)) (sym (append-nil history)) so
  counted-more i history (e ∷ more) all so =
      let first = subst (λ (h : List Entry). IsMachine s h × IsItemEntry s h e) (append-nil history) (all [] e more refl) in
      let next = count-next history e first.0 first.1 i so in
      let rest = counted-more i (history ++ e ∷ []) more (λ b x a eq. subst (λ (h : List Entry). IsMachine s h × IsItemEntry s h x) (sym (append_assoc history (e ∷ []) b)) (all (e ∷ b) x a (ap (λ (z : List Entry). e ∷ z) eq))) next in
      subst (λ (h : List Entry). changes_on i h ≡ count_on i h + stop_count (word_of s (judges_of s) (reverse h) i)) (append_assoc history (e ∷ []) more) rest

  -- where an instance is stopped, nothing more changes it
  pub stopped-more : (i : ℕ) (history more : List Entry) → ((before : List Entry) (e : Entry) (after : List Entry) → more ≡ before ++ e ∷ after → IsMachine s (history ++ before) × IsItemEntry s (history ++ before) e)
      → word_of s (judges_of s) (reverse history) i ≡ 0 → changes_on i more ≡ 0
  stopped-more i history [] all none = refl
  stopped-more i history (e ∷ more) all none =
      by (changed i e) refl (λ word. stopped-more i (history ++ e ∷ []) more (λ b x a eq. subst (λ (h : List Entry). IsMachine s h × IsItemEntry s h x) (sym (append_assoc history (e ∷ []) b)) (all (e ∷ b) x a (ap (λ (z : List Entry). e ∷ z) eq))) word)
    where
      first : IsMachine s history × IsItemEntry s history e
      first = subst (λ (h : List Entry). IsMachine s h × IsItemEntry s h e) (append-nil history) (all [] e more refl)

      by : (b : Bool) → changed i e ≡ b → (word_of s (judges_of s) (reverse (history ++ e ∷ [])) i ≡ 0 → changes_on i more ≡ 0) → changes_on i (e ∷ more) ≡ 0
      by true on rest =
          let parts = differ history e first.0 first.1 i on in
          let there : slot_in e.act ≡ i = slot_in-is i e.act parts.0 in
          let before_is : e.before ≡ 0 = found s history e first.0 first.1 ∙ (ap (word_of s (judges_of s) (reverse history)) there ∙ none) in
          absurd (parts.1 (before_is ∙ sym (stopped-still s history e first.0 first.1 before_is)))
      by false off rest = ap length (filter_no (changed i) e more off) ∙ rest (ap (λ (h : List Entry). word_of s (judges_of s) h i) (reverse-append history (e ∷ [])) ∙ (still s (judges_of s) history i e first.1.words off ∙ none))
