-- What one act makes of the words that a history gives.
use Rattle.std.proofs.Common.{◌≡◌, ◌≢◌, ℕ, zero, suc, ◌+◌, ◌^◌, ◌<◌, List, [], ◌∷◌, ◌++◌, length, get_or, set, reverse, refl, ap, sym, ◌∙◌, arith, add-one, get_or-set_same, get_or-set_other, sum}
use Rattle.rv_model.specs.declared.entry.Act.{Act}
use Rattle.rv_model.specs.declared.entry.Act.TheVariants.{Deliver, Stop, Look, Raise, Lower, Clear, End}
use Rattle.rv_model.specs.declared.entry.Entry.{Entry}
use Rattle.rv_model.specs.Numbers.{list_of}
use Rattle.rv_model.specs.Setups.{Setup}
use Rattle.rv_model.specs.SharedWords.{answer_at}
use Rattle.rv_model.specs.Histories.{FitsWords, Replays}
use Rattle.rv_model.proofs.FoundLemmas.{length-list_of, get_or-list_of}
use Rattle.rv_core.specs.Advance.{acted}
use Rattle.rv_core.specs.Setup.{FitsAct, ActFits, word_index, table_of_act, start_of_act, judges_of}
use Rattle.rv_core.specs.Core.{IsCore}
use Rattle.rv_core.proofs.CoreLemmas.{core-after, core-answer, fits-words}
use Rattle.rv_core.specs.Setup.{IsSetup}
use Rattle.rv_core.proofs.OpeningLemmas.{opening_words, core-opens}
use Rattle.rv_board.specs.inner.Rule.{word_at, IsMachine, IsOpening, width}
use Rattle.rv_board.specs.inner.Steps.{made_after}

-- the words that the history gives
abbrev plain : Setup → List Entry → List ℕ
plain s history = list_of (word_at s history) (width s)

-- as many as a board has
plain-length : (s : Setup) (history : List Entry) → length (plain s history) ≡ width s
plain-length s history = length-list_of (word_at s history) (width s)

-- each by its place
plain-at : (s : Setup) (history : List Entry) (i : ℕ) → i < width s → get_or (plain s history) i 0 ≡ word_at s history i
plain-at s history i low = get_or-list_of (word_at s history) (width s) i 0 low

-- the machine of one thread would have these words
is-core : (s : Setup) (history : List Entry) → IsMachine s history → Replays s (judges_of s) history → IsCore s (plain s history) history
is-core s history m replays = record {
  is_setup = m.is_setup;
  count = plain-length s history ∙ sym (add-one (sum s.shape));
  live = m.live;
  switches_are = plain-at s history 0 (omega arith);
  words_are = λ i low. rw (add-one i) (plain-at s history (suc i) (omega arith));
  replays = replays;
}

-- the words of a machine are those of its history
core-word : (s : Setup) (words : List ℕ) (history : List Entry) → IsCore s words history → (i : ℕ) → i < width s → get_or words i 0 ≡ word_at s history i
core-word s words history c zero low = c.switches_are
core-word s words history c (suc i) low = let one : suc i ≡ i + 1 = sym (add-one i) in ap (λ (n : ℕ). get_or words n 0) one ∙ c.words_are i (omega arith)

-- an act's word is one of the words
pub place-within : (s : Setup) (act : Act) → FitsAct s act → word_index act < width s
place-within s (Deliver slot hit) f = let l = f.0 in omega arith
place-within s (Stop slot) f = omega arith
place-within s (Clear slot) f = omega arith
place-within s (End slot) f = omega arith
place-within s Look f = omega arith
place-within s (Raise _) f = omega arith
place-within s (Lower _) f = omega arith

-- what the act of a seat does to the words
pub record Acted (s : Setup) (history : List Entry) (seat : ℕ) (act : Act) : Type 0 where
  pub machine : IsMachine s (history ++ made_after s seat act history ∷ [])
  pub fits : FitsWords s (judges_of s) history (made_after s seat act history)
  pub here : word_at s (history ++ made_after s seat act history ∷ []) (word_index act) ≡ (made_after s seat act history).after
  pub others : (i : ℕ) → i < width s → i ≢ word_index act → word_at s (history ++ made_after s seat act history ∷ []) i ≡ word_at s history i
  pub answer : (acted (table_of_act s act) (start_of_act s act) (word_at s history (word_index act)) act).0 ≡ answer_at s (judges_of s) (reverse history) (made_after s seat act history) act

-- the act of a seat does just that
pub acts : (s : Setup) (history : List Entry) (seat : ℕ) (act : Act) → IsMachine s history → Replays s (judges_of s) history → FitsAct s act → ActFits s act → (made_after s seat act history).after < 2 ^ 64 → Acted s history seat act
acts s history seat act m replays fits bits fit = record {
  machine = record { is_setup = after.is_setup; live = after.live };
  fits = fits-words s (plain s history) history c seat act found left fits bits read refl fit;
  here = sym (core-word s (set (plain s history) place left) (history ++ x ∷ []) after place inside) ∙ get_or-set_same (plain s history) place left 0 (let l = plain-length s history in let b = inside in omega arith);
  others = λ i low ne. sym (core-word s (set (plain s history) place left) (history ++ x ∷ []) after i low) ∙ (get_or-set_other (plain s history) place i left 0 ne ∙ plain-at s history i low);
  answer = core-answer s (plain s history) history c seat act found left fits bits read refl fit;
}
  where
    place : ℕ
    place = word_index act

    x : Entry
    x = made_after s seat act history

    found : ℕ
    found = word_at s history place

    left : ℕ
    left = x.after

    inside : place < width s
    inside = place-within s act fits

    c : IsCore s (plain s history) history
    c = is-core s history m replays

    read : found ≡ get_or (plain s history) place found
    read = sym (get_or-list_of (word_at s history) (width s) place found inside)

    after : IsCore s (set (plain s history) place left) (history ++ x ∷ [])
    after = core-after s (plain s history) history c seat act found left fits bits read refl fit

-- the words that a machine opens with are those of a board
pub opening-of : (s : Setup) (words : List ℕ) → IsCore s words [] → IsOpening s words
opening-of s words c = record { is_setup = c.is_setup; wide = c.count ∙ add-one (sum s.shape); each = core-word s words [] c }

-- spelled out
pub opening-is : (s : Setup) → IsSetup s → IsOpening s (opening_words s (sum s.shape))
opening-is s k = opening-of s (opening_words s (sum s.shape)) (core-opens s k)
