-- The last entry of a longer beginning is allowed, and its words are the machine's.
use Rattle.std.proofs.Common.{◌≡◌, ℕ, ◌+◌, ◌^◌, ◌<◌, ◌≤◌, Bool, true, false, List, [], ◌∷◌, ◌++◌, length, reverse, get_or, arith, refl, sym, ap, ◌∙◌, subst, sum}
use Rattle.std.specs.Prelude.{nat_lt}
use Rattle.std.proofs.lemmas.List.Elements.{All-get_or}
use Rattle.rv_model.specs.declared.entry.Act.{Act}
use Rattle.rv_model.specs.declared.entry.Act.TheVariants.{Deliver, Stop, Look, Raise, Lower, Clear, End}
use Rattle.rv_model.specs.declared.entry.Answer.{Answer}
use Rattle.rv_model.specs.declared.entry.Entry.{Entry}
use Rattle.rv_model.specs.Histories.{FitsWords, LostThrice, IsJustifiedBy}
use Rattle.rv_model.specs.Judging.{Judge}
use Rattle.rv_model.specs.Numbers.{has_bit}
use Rattle.rv_model.specs.Scripts.{played, Plays}
use Rattle.rv_model.specs.Setups.{Setup}
use Rattle.rv_model.specs.SharedWords.{word_on, answer_at}
use Rattle.rv_model.specs.Works.{Work}
use Rattle.rv_model.proofs.CutLemmas.{at_each-last}
use Rattle.rv_core.specs.Advance.{acted}
use Rattle.rv_core.specs.Setup.{ActFits, FitsAct, word_index, table_of_act, start_of_act, judges_of}
use Rattle.rv_core.proofs.CoreLemmas.{word_on-is, fits-words}
use Rattle.rv_core.proofs.ActLemmas.{place-below}
use Rattle.rv_check.specs.declared.next.Due.{Due}
use Rattle.rv_check.specs.declared.next.Next.{Next}
use Rattle.rv_check.specs.declared.next.Next.TheVariants as next
use Rattle.rv_check.specs.Beginnings.{HasBegun, IsBeginning}
use Rattle.rv_check.specs.inner.Nexts.{Allows, lost_of, CountsTo, CountsLostTries}
use Rattle.rv_check.specs.inner.Standing.{IsRun}
use Rattle.rv_check.proofs.BeginningLemmas.{played-more}
use Rattle.rv_check.proofs.LostLemmas.{thrice-counted}
use Rattle.rv_check.proofs.MoveLemmas.{may-allowed}
use Rattle.rv_check.proofs.RunLemmas.{IsAt, stand-at}

-- the word of an act is told by the acts of the past
word-same : (s : Setup) (js : List Judge) (past : List Entry) (e f : Entry) → e.act ≡ f.act → (act : Act) → word_on s js (e ∷ past) act ≡ word_on s js (f ∷ past) act
word-same s js past e f same (Deliver slot hit) = ap (λ (x : Act). word_on s js (record { seat = 0; act = x; before = 0; after = 0 } ∷ past) (Deliver slot hit)) same
word-same s js past e f same (Stop slot) = ap (λ (x : Act). word_on s js (record { seat = 0; act = x; before = 0; after = 0 } ∷ past) (Stop slot)) same
word-same s js past e f same (Clear slot) = ap (λ (x : Act). word_on s js (record { seat = 0; act = x; before = 0; after = 0 } ∷ past) (Clear slot)) same
word-same s js past e f same (End slot) = ap (λ (x : Act). word_on s js (record { seat = 0; act = x; before = 0; after = 0 } ∷ past) (End slot)) same
word-same s js past e f same Look = ap (λ (x : Act). word_on s js (record { seat = 0; act = x; before = 0; after = 0 } ∷ past) Look) same
word-same s js past e f same (Raise bits) = ap (λ (x : Act). word_on s js (record { seat = 0; act = x; before = 0; after = 0 } ∷ past) (Raise bits)) same
word-same s js past e f same (Lower bits) = ap (λ (x : Act). word_on s js (record { seat = 0; act = x; before = 0; after = 0 } ∷ past) (Lower bits)) same

-- an act's word is one of the words
pub place-in : (s : Setup) (words : List ℕ) (act : Act) → length words ≡ sum s.shape + 1 → FitsAct s act → word_index act < length words
place-in s words act count f = let low = place-below s act f in omega arith

-- a count that stays at 3 is 3 where the number is 3 or more
at-least : (lost n : ℕ) → CountsTo lost n → 3 ≤ n → 3 ≤ lost
at-least lost n c three = on (nat_lt lost 3) refl
  where
    on : (b : Bool) → nat_lt lost 3 ≡ b → 3 ≤ lost
    on true y =
        let lt : lost < 3 = grind arith in
        let is = c.below lt in
        omega arith
    on false y = grind arith

module _ {s : Setup} {panics : ℕ} {works : List Work} {words : List ℕ} {nexts : List Next} {h : List Entry} (run : IsRun s panics works words nexts h)
    (e : Entry) {k : ℕ} {w : Work} {n : Next} (at : IsAt works nexts k w n) (mine : 2 + w.cpu ≡ e.seat) where
  -- the tries that a stop needs
  begun-lost : IsBeginning s (judges_of s) (has_bit panics) works (h ++ e ∷ []) → (due : Due) → n ≡ next.Deliver due → e.act ≡ Stop due.slot → 3 ≤ due.lost
  begun-lost b due is act =
      let justified : IsJustifiedBy e.act e.seat h = at_each-last (λ before e. IsJustifiedBy e.act e.seat before) h e b.sound.justified in
      let lost : LostThrice due.slot e.seat h = subst (λ (x : Act). IsJustifiedBy x e.seat h) act justified in
      let three : 3 ≤ lost_of due.slot (2 + w.cpu) (reverse h) = subst (λ (m : ℕ). 3 ≤ lost_of due.slot m (reverse h)) (sym mine) (thrice-counted due.slot e.seat h lost) in
      let counts : CountsTo due.lost (lost_of due.slot (2 + w.cpu) (reverse h)) = subst (CountsLostTries (2 + w.cpu) (reverse h)) is (stand-at run at).counted in
      at-least due.lost (lost_of due.slot (2 + w.cpu) (reverse h)) counts three

  -- the act of a longer beginning is allowed
  pub begun-allowed : IsBeginning s (judges_of s) (has_bit panics) works (h ++ e ∷ []) → Allows w n e.act
  begun-allowed b =
      let a : Answer = answer_at s (judges_of s) (reverse h) e e.act in
      let P : Work → Type 0 = λ w. HasBegun s (has_bit panics) w (played s (judges_of s) (2 + w.cpu) (reverse (h ++ e ∷ []))) in
      let begun : P w = subst P (sym at.work) (All-get_or P works k w at.inside b.cpus) in
      let may = (stand-at run at).may ((e, a) ∷ begun.0) (subst (Plays s (has_bit panics) w) (played-more s (judges_of s) (2 + w.cpu) h e mine begun.0) begun.1) in
      may-allowed s (has_bit panics) w n e a begun.0 (stand-at run at).is_next (begun-lost b) may

  -- the word before it is the machine's
  pub begun-before : IsBeginning s (judges_of s) (has_bit panics) works (h ++ e ∷ []) → FitsAct s e.act → e.before ≡ get_or words (word_index e.act) 0
  begun-before b fits =
      let told : FitsWords s (judges_of s) h e = at_each-last (FitsWords s (judges_of s)) h e b.sound.replays in
      told.found ∙ sym (word_on-is s run.core.is_setup words (reverse h) run.core.switches_are run.core.words_are e.act fits)

  -- and so is the word after it
  pub begun-after : IsBeginning s (judges_of s) (has_bit panics) works (h ++ e ∷ []) → (after : ℕ) → FitsAct s e.act → ActFits s e.act → e.before ≡ get_or words (word_index e.act) e.before
      → after ≡ (acted (table_of_act s e.act) (start_of_act s e.act) e.before e.act).1 → after < 2 ^ 64 → e.after ≡ after
  begun-after b after fits bits read is range =
      let told : FitsWords s (judges_of s) h e = at_each-last (FitsWords s (judges_of s)) h e b.sound.replays in
      let f : Entry = record { seat = e.seat; act = e.act; before = e.before; after = after } in
      let made : FitsWords s (judges_of s) h f = fits-words s words h run.core e.seat e.act e.before after fits bits read is range in
      told.left ∙ word-same s (judges_of s) (reverse h) e f refl e.act ∙ sym made.left
