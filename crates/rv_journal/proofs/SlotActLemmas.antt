-- An item's act is on one slot, and makes of its word what it makes anywhere.
use Rattle.std.proofs.Common.{◌≡◌, ◌≢◌, ℕ, ◌+◌, ◌<◌, Bool, true, false, List, [], ◌∷◌, ◌++◌, ◌⊎◌, inl, inr, reverse, refl, sym, ap, ◌∙◌, subst, arith, sum}
use Rattle.std.proofs.lemmas.Bool.Decides.{nat_tests}
use Rattle.std.proofs.lemmas.List.{reverse-append}
use Rattle.rv_model.specs.declared.entry.Act.{Act}
use Rattle.rv_model.specs.declared.entry.Act.TheVariants.{Deliver, Stop, Look, Raise, Lower, Clear, End}
use Rattle.rv_model.specs.declared.entry.Entry.{Entry}
use Rattle.rv_model.specs.Judging.{Judge}
use Rattle.rv_model.specs.Setups.{Setup, start_of}
use Rattle.rv_model.specs.Phases.{level}
use Rattle.rv_model.specs.SharedWords.{word_of, word_on}
use Rattle.rv_model.specs.Stepping.{table_judge}
use Rattle.rv_model.specs.Table.{Table}
use Rattle.rv_model.specs.Histories.{is_on}
use Rattle.rv_model.proofs.TableJudgeLemmas.{every_table_is_judged}
use Rattle.rv_core.specs.Advance.{acted}
use Rattle.rv_core.specs.Core.{IsLive, slot_phase}
use Rattle.rv_core.specs.Setup.{IsSetup, FitsAct, ActFits, word_index, table_at, judges_of}
use Rattle.rv_core.proofs.CoreLemmas.{table_at-is, word_of-is}
use Rattle.rv_core.proofs.TurnLemmas.{fits-start}
use Rattle.rv_core.proofs.WordLemmas.{Acts, acted-same, live-same, phase_after-other}
use Rattle.rv_board.specs.inner.Rule.{IsMachine}
use Rattle.rv_journal.specs.MergeSteps.{slot_in}
use Rattle.rv_journal.specs.inner.MergeStates.{IsItemAct, IsMergedAct}
use Rattle.rv_journal.proofs.ItemLemmas.{by-item}

-- equal or not
same_or_not : (a b : ℕ) → (a ≡ b) ⊎ (a ≢ b)
same_or_not a b = grind arith

-- ---- acts on slots

-- the word that an item's act is on is its slot's
pub on-slot_in : (s : Setup) (past : List Entry) (act : Act) → IsItemAct act → word_on s (judges_of s) past act ≡ word_of s (judges_of s) past (slot_in act)
on-slot_in s past = by-item (λ (a : Act). word_on s (judges_of s) past a ≡ word_of s (judges_of s) past (slot_in a)) (λ slot hit. refl) (λ slot. refl)

-- it is on this slot alone
pub slot_in-is : (slot : ℕ) (act : Act) → is_on slot act ≡ true → slot_in act ≡ slot
slot_in-is slot (Deliver other hit) on = grind (arith, nat_tests)
slot_in-is slot (Stop other) on = grind (arith, nat_tests)
slot_in-is slot (Clear other) on = grind (arith, nat_tests)
slot_in-is slot (End other) on = grind (arith, nat_tests)
slot_in-is slot Look on = absurd (let no : false ≡ true = on in cc)
slot_in-is slot (Raise _) on = absurd (let no : false ≡ true = on in cc)
slot_in-is slot (Lower _) on = absurd (let no : false ≡ true = on in cc)

-- and it is on it
pub is_on-slot : (act : Act) → IsItemAct act → is_on (slot_in act) act ≡ true
is_on-slot = by-item (λ (a : Act). is_on (slot_in a) a ≡ true) (λ slot hit. grind (arith, nat_tests)) (λ slot. grind (arith, nat_tests))

-- the slot's place is behind the switches
pub place-slot_in : (act : Act) → IsItemAct act → word_index act ≡ slot_in act + 1
place-slot_in = by-item (λ (a : Act). word_index a ≡ slot_in a + 1) (λ slot hit. refl) (λ slot. refl)

-- the slot is one of the setup's
pub slot-below : (s : Setup) (act : Act) → IsItemAct act → FitsAct s act → slot_in act < sum s.shape
slot-below s = by-item (λ (a : Act). FitsAct s a → slot_in a < sum s.shape) (λ slot hit fits. fits.0) (λ slot fits. fits)

-- what an act on a slot wants
acts-there : (s : Setup) (act : Act) → IsItemAct act → FitsAct s act → ActFits s act → Acts (table_at s (slot_in act)) (start_of s (slot_in act)) act
acts-there s = by-item (λ (a : Act). FitsAct s a → ActFits s a → Acts (table_at s (slot_in a)) (start_of s (slot_in a)) a) (λ slot hit fits bits. (bits, fits-start (table_at s slot) hit.mode hit.what fits.1.1)) (λ slot fits bits. tt)

module _ (s : Setup) where
  -- an act makes of the word what the tables make of it
  pub word-after : (past : List Entry) (e : Entry) → IsSetup s → ((i : ℕ) → i < sum s.shape → IsLive (table_judge (table_at s i)) (slot_phase s past i)) → IsItemAct e.act → FitsAct s e.act → ActFits s e.act
      → word_of s (judges_of s) (e ∷ past) (slot_in e.act) ≡ (acted (table_at s (slot_in e.act)) (start_of s (slot_in e.act)) (word_of s (judges_of s) past (slot_in e.act)) e.act).1
  word-after past e k live is fits bits =
      let i : ℕ = slot_in e.act in
      let low : i < sum s.shape = slot-below s e.act is fits in
      let t : Table = table_at s i in
      let j : Judge = table_judge t in
      let was : ℕ → Bool = level (start_of s i) past i in
      let there = acted-same t (table_at-is s k i low) j (every_table_is_judged t (table_at-is s k i low)) (start_of s i) was i e.act (slot_phase s past i) (acts-there s e.act is fits bits) (live i low) (place-slot_in e.act is) in
      word_of-is s k (e ∷ past) i low ∙ (sym there ∙ ap (λ (w : ℕ). (acted t (start_of s i) w e.act).1) (sym (word_of-is s k past i low)))

  -- what runs after it has rows
  pub machine-snoc : (history : List Entry) (e : Entry) → IsMachine s history → IsMergedAct e.act → FitsAct s e.act → ActFits s e.act → IsMachine s (history ++ e ∷ [])
  machine-snoc history e m is fits bits = record {
    is_setup = m.is_setup;
    live = λ i low. subst (λ (past : List Entry). IsLive (table_judge (table_at s i)) (slot_phase s past i)) (sym (reverse-append history (e ∷ []))) (at i low (same_or_not (word_index e.act) (i + 1)));
  }
    where
      item : (act : Act) (i : ℕ) → IsMergedAct act → word_index act ≡ i + 1 → IsItemAct act
      item (Deliver slot hit) i is same = tt
      item (Stop slot) i is same = tt
      item Look i is same = absurd (omega arith)
      item (Raise _) i is same = absurd is
      item (Lower _) i is same = absurd is
      item (Clear _) i is same = absurd is
      item (End _) i is same = absurd is

      at : (i : ℕ) → i < sum s.shape → (word_index e.act ≡ i + 1) ⊎ (word_index e.act ≢ i + 1) → IsLive (table_judge (table_at s i)) (slot_phase s (e ∷ reverse history) i)
      at i low (inl same) =
          let it = item e.act i is same in
          let there : slot_in e.act ≡ i = (let p = place-slot_in e.act it in omega arith) in
          let t : Table = table_at s i in
          let wants : Acts t (start_of s i) e.act = subst (λ (n : ℕ). Acts (table_at s n) (start_of s n) e.act) there (acts-there s e.act it fits bits) in
          live-same t (table_at-is s m.is_setup i low) (table_judge t) (every_table_is_judged t (table_at-is s m.is_setup i low)) (start_of s i) (level (start_of s i) (e ∷ reverse history) i) i e.act (slot_phase s (reverse history) i) wants (m.live i low) same
      at i low (inr other) = subst (IsLive (table_judge (table_at s i))) (sym (phase_after-other (table_judge (table_at s i)) (level (start_of s i) (e ∷ reverse history) i) i e.act (slot_phase s (reverse history) i) other)) (m.live i low)
