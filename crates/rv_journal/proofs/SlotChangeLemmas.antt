-- With a step, the changes of the slots are those of the longer history.
use Rattle.std.proofs.Common.{◌≡◌, ◌≢◌, ℕ, ◌+◌, ◌<◌, Bool, true, false, ◌&&◌, List, [], ◌∷◌, ◌++◌, ◌⊎◌, inl, inr, length, get_or, set, refl, sym, ap, ◌∙◌, subst, arith, length-append, length-set, get_or-set_same, get_or-set_other}
use Rattle.std.specs.Prelude.{filter}
use Rattle.rv_model.specs.declared.entry.Entry.{Entry}
use Rattle.rv_model.specs.Histories.{is_on, changed}
use Rattle.rv_journal.specs.declared.counted.Counted.{Counted}
use Rattle.rv_journal.specs.declared.steps.MergeStep.{MergeStep}
use Rattle.rv_journal.specs.declared.steps.MergeStep.TheVariants.{TurnLook, Item}
use Rattle.rv_journal.specs.MergeSteps.{slot_in, leaves, changes_on}
use Rattle.rv_journal.specs.inner.MergeSteps.{step_entry}
use Rattle.rv_journal.specs.inner.MergePending.{changes_after}
use Rattle.rv_journal.proofs.SlotActLemmas.{slot_in-is}
use Rattle.rv_journal.proofs.AddedLemmas.{changes-calm, changes-more}
use Rattle.rv_journal.proofs.TotalLemmas.{same_or_not}

-- a look changes none
look-changes : (slot : ℕ) (placed : List Entry) (seat switches : ℕ) → changes_on slot (placed ++ step_entry seat switches TurnLook ∷ []) ≡ changes_on slot placed
look-changes slot placed seat switches = ap length (changes-calm slot placed (step_entry seat switches TurnLook) refl)

module _ (changes : List ℕ) (placed : List Entry) (slots : ℕ) (many : length changes ≡ slots) (are : (slot : ℕ) → slot < slots → get_or changes slot 0 ≡ changes_on slot placed) where
  -- with an item, as many as before and its own
  item-changes : (c : Counted) → is_on (slot_in c.entry.act) c.entry.act ≡ true → slot_in c.entry.act < slots → (slot : ℕ) → slot < slots → get_or (changes_after changes (Item c)) slot 0 ≡ changes_on slot (placed ++ c.entry ∷ [])
  item-changes c on low slot lt = by (leaves c.entry) refl
    where
      i : ℕ
      i = slot_in c.entry.act

      by : (b : Bool) → leaves c.entry ≡ b → get_or (changes_after changes (Item c)) slot 0 ≡ changes_on slot (placed ++ c.entry ∷ [])
      by true is =
          let calm : changed slot c.entry ≡ false = rw is (off (is_on slot c.entry.act)) in
          let same : changes_after changes (Item c) ≡ changes = rw is refl in
          ap (λ (z : List ℕ). get_or z slot 0) same ∙ (are slot lt ∙ sym (ap length (changes-calm slot placed c.entry calm)))
        where
          off : (a : Bool) → (a && false) ≡ false
          off true = refl
          off false = refl
      by false is =
          let more : changes_after changes (Item c) ≡ set changes (slot_in c.entry.act) (get_or changes (slot_in c.entry.act) 0 + 1) = rw is refl in
          ap (λ (z : List ℕ). get_or z slot 0) more ∙ at (same_or_not slot (slot_in c.entry.act))
        where
          at : (slot ≡ slot_in c.entry.act) ⊎ (slot ≢ slot_in c.entry.act) → get_or (set changes (slot_in c.entry.act) (get_or changes (slot_in c.entry.act) 0 + 1)) slot 0 ≡ changes_on slot (placed ++ c.entry ∷ [])
          at (inl here) =
              let in' : slot_in c.entry.act < length changes = omega arith in
              let own : changed (slot_in c.entry.act) c.entry ≡ true = rw (on, is) refl in
              let sum' = ap length (changes-more (slot_in c.entry.act) placed c.entry own) ∙ length-append (filter (changed (slot_in c.entry.act)) placed) (c.entry ∷ []) in
              let was = are (slot_in c.entry.act) low in
              let now : get_or (set changes (slot_in c.entry.act) (get_or changes (slot_in c.entry.act) 0 + 1)) (slot_in c.entry.act) 0 ≡ get_or changes (slot_in c.entry.act) 0 + 1 = get_or-set_same changes (slot_in c.entry.act) (get_or changes (slot_in c.entry.act) 0 + 1) 0 in' in
              subst (λ (k : ℕ). get_or (set changes (slot_in c.entry.act) (get_or changes (slot_in c.entry.act) 0 + 1)) k 0 ≡ changes_on k (placed ++ c.entry ∷ [])) (sym here) (omega arith)
          at (inr other) =
              let out : is_on slot c.entry.act ≡ false = elsewhere (is_on slot c.entry.act) refl in
              let calm : changed slot c.entry ≡ false = rw out refl in
              get_or-set_other changes (slot_in c.entry.act) slot (get_or changes (slot_in c.entry.act) 0 + 1) 0 other ∙ (are slot lt ∙ sym (ap length (changes-calm slot placed c.entry calm)))
            where
              elsewhere : (b : Bool) → is_on slot c.entry.act ≡ b → is_on slot c.entry.act ≡ false
              elsewhere true y = absurd (other (sym (slot_in-is slot c.entry.act y)))
              elsewhere false n = n

  -- with any step
  pub step-changes : (seat switches : ℕ) (step : MergeStep) → (item : (c : Counted) → step ≡ Item c → (is_on (slot_in c.entry.act) c.entry.act ≡ true) × (slot_in c.entry.act < slots)) → (slot : ℕ) → slot < slots → get_or (changes_after changes step) slot 0 ≡ changes_on slot (placed ++ step_entry seat switches step ∷ [])
  step-changes seat switches TurnLook item slot lt = are slot lt ∙ sym (look-changes slot placed seat switches)
  step-changes seat switches (Item c) item slot lt = let i = item c refl in item-changes c i.0 i.1 slot lt

  -- they stay as many
  pub step-slots : (step : MergeStep) → length (changes_after changes step) ≡ slots
  step-slots TurnLook = many
  step-slots (Item c) = by (leaves c.entry) refl
    where
      by : (b : Bool) → leaves c.entry ≡ b → length (changes_after changes (Item c)) ≡ slots
      by true is = rw is many
      by false is = rw is (length-set changes (slot_in c.entry.act) (get_or changes (slot_in c.entry.act) 0 + 1) ∙ many)
