-- What an entry of an item leaves: a word where an instance goes on, and none where it is stopped.
use Rattle.std.proofs.Common.{◌≡◌, ◌≢◌, ℕ, ◌<◌, ◌==◌, Bool, true, false, List, [], ◌∷◌, reverse, refl, sym, ap, ◌∙◌, subst, arith, sum}
use Rattle.std.proofs.lemmas.List.{reverse-append}
use Rattle.rv_model.specs.declared.entry.Act.{Act}
use Rattle.rv_model.specs.declared.entry.Act.TheVariants.{Deliver, Stop, Look, Raise, Lower, Clear, End}
use Rattle.rv_model.specs.declared.entry.Entry.{Entry}
use Rattle.rv_model.specs.Judging.{Judge}
use Rattle.rv_model.specs.Numbers.{number_of}
use Rattle.rv_model.specs.Phases.{Phase, waiting, running, stopped, level, letter_at, phase_after}
use Rattle.rv_model.specs.SharedWords.{packed, word_of}
use Rattle.rv_model.specs.Setups.{Setup, start_of}
use Rattle.rv_model.specs.Stepping.{table_judge}
use Rattle.rv_model.specs.Histories.{FitsWords}
use Rattle.rv_core.specs.Advance.{acted}
use Rattle.rv_core.specs.Core.{IsLive, slot_phase}
use Rattle.rv_core.specs.Setup.{FitsAct, ActFits, judges_of, table_at}
use Rattle.rv_core.proofs.CoreLemmas.{word_of-is}
use Rattle.rv_core.proofs.TurnLemmas.{IsGoing, turn-going}
use Rattle.rv_board.specs.inner.Rule.{IsMachine}
use Rattle.rv_journal.specs.CountedWords.{is_deliver}
use Rattle.rv_journal.specs.MergeSteps.{slot_in}
use Rattle.rv_journal.specs.inner.MergeStates.{IsItemAct}
use Rattle.rv_journal.proofs.ItemLemmas.{by-item}
use Rattle.rv_journal.proofs.SlotActLemmas.{on-slot_in, word-after, machine-snoc, slot-below}
use Rattle.rv_journal.proofs.PlaceLemmas.{merged-item}

-- an item's entry that was told with its words
pub record IsItemEntry (s : Setup) (before : List Entry) (e : Entry) : Type 0 where
  pub words : FitsWords s (judges_of s) before e
  pub item_act : IsItemAct e.act
  pub fits : FitsAct s e.act
  pub bits : ActFits s e.act

-- what goes has a word
going-word : (j : Judge) (levels : ℕ) (p : Phase) → IsGoing p → IsLive j p → packed j levels p ≢ 0
going-word j levels waiting going live = λ e. absurd (omega arith)
going-word j levels (running word) going live = λ e. live.0 (omega arith)
going-word j levels stopped going live = absurd going

-- where there is a word, it goes
word-going : (j : Judge) (levels : ℕ) (p : Phase) → packed j levels p ≢ 0 → IsGoing p
word-going j levels waiting some = tt
word-going j levels (running word) some = tt
word-going j levels stopped some = absurd (some refl)

-- a delivery leaves what goes going
deliver-going : (j : Judge) (on : ℕ → Bool) (i : ℕ) (act : Act) (p : Phase) → is_deliver act ≡ true → IsGoing p → IsGoing (phase_after j on i act p)
deliver-going j on i (Deliver slot hit) p is going = by (slot == i) refl
  where
    by : (b : Bool) → (slot == i) ≡ b → IsGoing (phase_after j on i (Deliver slot hit) p)
    by true y = rw y (turn-going j p going hit.mode (letter_at on hit.what))
    by false n = rw n going
deliver-going j on i (Stop slot) p is going = absurd (let no : false ≡ true = is in cc)
deliver-going j on i Look p is going = absurd (let no : false ≡ true = is in cc)
deliver-going j on i (Raise _) p is going = absurd (let no : false ≡ true = is in cc)
deliver-going j on i (Lower _) p is going = absurd (let no : false ≡ true = is in cc)
deliver-going j on i (Clear _) p is going = absurd (let no : false ≡ true = is in cc)
deliver-going j on i (End _) p is going = absurd (let no : false ≡ true = is in cc)

module _ (s : Setup) where
  module _ (history : List Entry) (e : Entry) (m : IsMachine s history) (it : IsItemEntry s history e) where
    -- its slot is one of the setup
    low : slot_in e.act < sum s.shape
    low = slot-below s e.act it.item_act it.fits

    -- the word that it found is the slot's
    pub found : e.before ≡ word_of s (judges_of s) (reverse history) (slot_in e.act)
    found = it.words.found ∙ on-slot_in s (reverse history) e.act it.item_act

    -- so is the word that it left
    left : e.after ≡ word_of s (judges_of s) (e ∷ reverse history) (slot_in e.act)
    left = it.words.left ∙ on-slot_in s (e ∷ reverse history) e.act it.item_act

    -- which the tables make of the other
    by-table : e.after ≡ (acted (table_at s (slot_in e.act)) (start_of s (slot_in e.act)) e.before e.act).1
    by-table = left ∙ (word-after s (reverse history) e m.is_setup m.live it.item_act it.fits it.bits ∙ ap (λ (w : ℕ). (acted (table_at s (slot_in e.act)) (start_of s (slot_in e.act)) w e.act).1) (sym found))

    -- what is stopped is not changed
    pub stopped-still : e.before ≡ 0 → e.after ≡ 0
    stopped-still none = by-table ∙ (ap (λ (w : ℕ). (acted (table_at s (slot_in e.act)) (start_of s (slot_in e.act)) w e.act).1) none ∙ by-item (λ (a : Act). (acted (table_at s (slot_in e.act)) (start_of s (slot_in e.act)) 0 a).1 ≡ 0) (λ i hit. refl) (λ i. refl) e.act it.item_act)

    -- a Stop leaves no word
    pub stop-none : is_deliver e.act ≡ false → e.after ≡ 0
    stop-none no-deliver =
        by-table
        ∙ by-item (λ (a : Act). is_deliver a ≡ false → (acted (table_at s (slot_in e.act)) (start_of s (slot_in e.act)) e.before a).1 ≡ 0) (λ i hit d. absurd (let no' : true ≡ false = d in cc)) (λ i d. refl) e.act it.item_act no-deliver

    -- a delivery leaves one where there was one
    pub deliver-some : is_deliver e.act ≡ true → e.before ≢ 0 → e.after ≢ 0
    deliver-some delivers some =
        let i : ℕ = slot_in e.act in
        let j : Judge = table_judge (table_at s i) in
        let on : ℕ → Bool = level (start_of s i) (reverse history) i in
        let now : ℕ → Bool = level (start_of s i) (e ∷ reverse history) i in
        let p : Phase = slot_phase s (reverse history) i in
        let was : word_of s (judges_of s) (reverse history) i ≡ packed j (number_of on 32) p = word_of-is s m.is_setup (reverse history) i low in
        let going : IsGoing p = word-going j (number_of on 32) p (λ z. some (found ∙ (was ∙ z))) in
        let going' : IsGoing (phase_after j now i e.act p) = deliver-going j now i e.act p delivers going in
        let live' = (machine-snoc s history e m (merged-item e.act it.item_act) it.fits it.bits).live i low in
        let live : IsLive j (phase_after j now i e.act p) = subst (λ (past : List Entry). IsLive j (slot_phase s past i)) (reverse-append history (e ∷ [])) live' in
        let is : word_of s (judges_of s) (e ∷ reverse history) i ≡ packed j (number_of now 32) (phase_after j now i e.act p) = word_of-is s m.is_setup (e ∷ reverse history) i low in
        λ z. going-word j (number_of now 32) (phase_after j now i e.act p) going' live (sym is ∙ (sym left ∙ z))
