-- The entries that changed a slot's word decide it, and the switches stay the opening ones.
use Rattle.std.proofs.Common.{◌≡◌, ℕ, ◌==◌, Bool, true, false, not, List, [], ◌∷◌, ◌++◌, reverse, refl, sym, ap, ◌∙◌, subst, arith, append_assoc}
use Rattle.std.specs.Prelude.{filter}
use Rattle.std.proofs.lemmas.Bool.{and_parts}
use Rattle.std.proofs.lemmas.List.{append-nil, reverse-append, reverse-reverse}
use Rattle.rv_model.specs.declared.entry.Act.{Act}
use Rattle.rv_model.specs.declared.entry.Act.TheVariants.{Deliver, Stop, Look, Raise, Lower, Clear, End}
use Rattle.rv_model.specs.declared.entry.Entry.{Entry}
use Rattle.rv_model.specs.Cuts.{AtEach}
use Rattle.rv_model.specs.Numbers.{has_bit}
use Rattle.rv_model.specs.Setups.{Setup}
use Rattle.rv_model.specs.SharedWords.{switch, switches_of, word_of}
use Rattle.rv_model.specs.Histories.{FitsWords, Replays, is_on, changed}
use Rattle.rv_model.proofs.CutLemmas.{reverse-cut}
use Rattle.rv_model.proofs.NumberLemmas.{number_of-same, number_of-bits}
use Rattle.rv_core.specs.Setup.{IsSetup, judges_of}
use Rattle.rv_board.proofs.SoundLemmas.{on-slot, still}
use Rattle.rv_journal.specs.inner.MergeStates.{IsMergedAct}

-- ---- words by changes

-- the word after these changes
abbrev pub word_by : ℕ → List Entry → ℕ
word_by word [] = word
word_by word (e ∷ changes) = word_by e.after changes

module _ (s : Setup) where
  -- an entry that changes the slot leaves its own word
  pub moved : (history : List Entry) (slot : ℕ) (e : Entry) → FitsWords s (judges_of s) history e → changed slot e ≡ true → word_of s (judges_of s) (e ∷ reverse history) slot ≡ e.after
  moved history slot e fits is = let here = (and_parts (is_on slot e.act) (not (e.before == e.after)) is).0 in sym (on-slot s (judges_of s) (e ∷ reverse history) slot e.act here) ∙ sym fits.left

  -- so the word is told by the changes
  pub word-by : (history more : List Entry) (slot : ℕ) → Replays s (judges_of s) (history ++ more) → word_of s (judges_of s) (reverse (history ++ more)) slot ≡ word_by (word_of s (judges_of s) (reverse history) slot) (filter (changed slot) more)
  word-by history [] slot replays = ap (λ (h : List Entry). word_of s (judges_of s) (reverse h) slot) (append-nil history)
  word-by history (e ∷ more) slot replays =
      on (changed slot e) refl (word-by (history ++ e ∷ []) more slot (subst (Replays s (judges_of s)) (sym regroup) replays))
    where
      regroup : (history ++ e ∷ []) ++ more ≡ history ++ e ∷ more
      regroup = append_assoc history (e ∷ []) more

      back : reverse (history ++ e ∷ []) ≡ e ∷ reverse history
      back = reverse-append history (e ∷ [])

      word : List Entry → ℕ
      word h = word_of s (judges_of s) h slot

      on : (b : Bool) → changed slot e ≡ b → word_of s (judges_of s) (reverse ((history ++ e ∷ []) ++ more)) slot ≡ word_by (word_of s (judges_of s) (reverse (history ++ e ∷ [])) slot) (filter (changed slot) more)
          → word_of s (judges_of s) (reverse (history ++ e ∷ more)) slot ≡ word_by (word_of s (judges_of s) (reverse history) slot) (filter (changed slot) (e ∷ more))
      on true is rest =
          let now : word_of s (judges_of s) (reverse (history ++ e ∷ [])) slot ≡ e.after = ap (λ (h : List Entry). word_of s (judges_of s) h slot) back ∙ moved history slot e (replays history e more refl) is in
          ap (λ (h : List Entry). word_of s (judges_of s) (reverse h) slot) (sym regroup) ∙ (rest ∙ (ap (λ (w : ℕ). word_by w (filter (changed slot) more)) now ∙ rw is refl))
      on false is rest =
          let now : word_of s (judges_of s) (reverse (history ++ e ∷ [])) slot ≡ word_of s (judges_of s) (reverse history) slot = ap (λ (h : List Entry). word_of s (judges_of s) h slot) back ∙ still s (judges_of s) history slot e (replays history e more refl) is in
          ap (λ (h : List Entry). word_of s (judges_of s) (reverse h) slot) (sym regroup) ∙ (rest ∙ (ap (λ (w : ℕ). word_by w (filter (changed slot) more)) now ∙ rw is refl))

  -- where the changes are the same, so is the word
  pub same-word : (h k : List Entry) (slot : ℕ) → Replays s (judges_of s) h → Replays s (judges_of s) k → filter (changed slot) h ≡ filter (changed slot) k → word_of s (judges_of s) (reverse h) slot ≡ word_of s (judges_of s) (reverse k) slot
  same-word h k slot rh rk same = word-by [] h slot rh ∙ (ap (word_by (word_of s (judges_of s) (reverse []) slot)) same ∙ sym (word-by [] k slot rk))

-- ---- the switches

-- no act of a merged history is on the switches
switches-stay : (s : Setup) (past : List Entry) → AtEach (λ before e. IsMergedAct e.act) past → (b : ℕ) → switch s.switches past b ≡ has_bit s.switches b
switches-stay s [] all b = refl
switches-stay s (e ∷ past) all b = at e.act (all [] e past refl) (switches-stay s past (λ before f after eq. all (e ∷ before) f after (ap (λ (z : List Entry). e ∷ z) eq)) b)
  where
    at : (act : Act) → IsMergedAct act → switch s.switches past b ≡ has_bit s.switches b → switch s.switches (record { seat = e.seat; act = act; before = e.before; after = e.after } ∷ past) b ≡ has_bit s.switches b
    at (Deliver slot hit) is rest = rest
    at (Stop slot) is rest = rest
    at Look is rest = rest
    at (Raise _) is rest = absurd is
    at (Lower _) is rest = absurd is
    at (Clear _) is rest = absurd is
    at (End _) is rest = absurd is

-- a history in the other direction has the same acts
reversed-acts : (history : List Entry) → AtEach (λ before e. IsMergedAct e.act) history → AtEach (λ before e. IsMergedAct e.act) (reverse history)
reversed-acts history all before e after eq =
    let back : history ≡ reverse (before ++ e ∷ after) = sym (reverse-reverse history) ∙ ap reverse eq in
    all (reverse after) e (reverse before) (back ∙ reverse-cut before e after)

-- so the switches are the opening ones
pub switches-are : (s : Setup) (history : List Entry) → IsSetup s → AtEach (λ before e. IsMergedAct e.act) history → switches_of s.switches (reverse history) ≡ s.switches
switches-are s history k all =
    number_of-same (switch s.switches (reverse history)) (has_bit s.switches) 64 (λ b low. switches-stay s (reverse history) (reversed-acts history all) b)
    ∙ number_of-bits s.switches 64 (let few = k.fits.known_switches in omega arith)
