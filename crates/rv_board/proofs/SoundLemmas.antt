-- Sound histories: of a beginning, of one entry more, and what a changed word shows.
use Rattle.std.proofs.Common.{◌≡◌, ◌≢◌, ℕ, ◌+◌, ◌<◌, ◌≤◌, ◌==◌, Bool, true, false, ◌&&◌, not, List, [], ◌∷◌, ◌++◌, length, reverse, refl, ap, sym, ◌∙◌, subst, arith, append_assoc}
use Rattle.std.specs.Prelude.{filter}
use Rattle.std.proofs.lemmas.Bool.Decides.{nat_tests}
use Rattle.std.proofs.lemmas.List.{append-nil, reverse-append}
use Rattle.std.proofs.lemmas.List.Elements.{filter-append}
use Rattle.std.proofs.Common.{length-append}
use Rattle.rv_model.specs.declared.entry.Act.{Act}
use Rattle.rv_model.specs.declared.entry.Act.TheVariants.{Deliver, Stop, Look, Raise, Lower, Clear, End}
use Rattle.rv_model.specs.declared.entry.Entry.{Entry}
use Rattle.rv_model.specs.Setups.{Setup, judge_of, start_of}
use Rattle.rv_model.specs.Phases.{level, phase_of}
use Rattle.rv_model.specs.Judging.{Judge}
use Rattle.rv_model.specs.SharedWords.{word_of, word_on}
use Rattle.rv_model.specs.Histories.{FitsWords, IsJustifiedBy, IsPermittedTo, IsSound, is_on, changed}
use Rattle.rv_model.proofs.CutLemmas.{at_each-nil, at_each-snoc, at_each-front}
use Rattle.rv_core.specs.Setup.{word_index}
use Rattle.rv_core.proofs.WordLemmas.{packed-other}

module _ (s : Setup) (js : List Judge) where
  -- the empty history is sound
  pub sound-empty : IsSound s js []
  sound-empty = record {
    replays = at_each-nil (FitsWords s js);
    justified = at_each-nil (λ before e. IsJustifiedBy e.act e.seat before);
    permitted = at_each-nil (λ before e. (e.seat < 67) × IsPermittedTo e.act e.seat);
  }

  -- the history so far was sound at each earlier time
  pub sound-front : (history more : List Entry) → IsSound s js (history ++ more) → IsSound s js history
  sound-front history more sound = record {
    replays = at_each-front (FitsWords s js) history more sound.replays;
    justified = at_each-front (λ before e. IsJustifiedBy e.act e.seat before) history more sound.justified;
    permitted = at_each-front (λ before e. (e.seat < 67) × IsPermittedTo e.act e.seat) history more sound.permitted;
  }

  -- an entry that tells what its act did may come next
  pub sound-snoc : (history : List Entry) (e : Entry) → IsSound s js history → FitsWords s js history e → IsJustifiedBy e.act e.seat history → e.seat < 67 → IsPermittedTo e.act e.seat → IsSound s js (history ++ e ∷ [])
  sound-snoc history e sound fits justified low held = record {
    replays = at_each-snoc (FitsWords s js) history e sound.replays fits;
    justified = at_each-snoc (λ before x. IsJustifiedBy x.act x.seat before) history e sound.justified justified;
    permitted = at_each-snoc (λ before x. (x.seat < 67) × IsPermittedTo x.act x.seat) history e sound.permitted (low, held);
  }

  -- an act that is not on the slot has another word
  elsewhere : (slot : ℕ) (act : Act) → is_on slot act ≡ false → word_index act ≢ slot + 1
  elsewhere slot (Deliver other hit) out = λ e. let same : other ≡ slot = omega arith in let equal : (other == slot) ≡ true = grind (arith, nat_tests) in cc
  elsewhere slot (Stop other) out = λ e. let same : other ≡ slot = omega arith in let equal : (other == slot) ≡ true = grind (arith, nat_tests) in cc
  elsewhere slot (Clear other) out = λ e. let same : other ≡ slot = omega arith in let equal : (other == slot) ≡ true = grind (arith, nat_tests) in cc
  elsewhere slot (End other) out = λ e. let same : other ≡ slot = omega arith in let equal : (other == slot) ≡ true = grind (arith, nat_tests) in cc
  elsewhere slot Look out = λ e. absurd (omega arith)
  elsewhere slot (Raise bits) out = λ e. absurd (omega arith)
  elsewhere slot (Lower bits) out = λ e. absurd (omega arith)

  -- the word of an act on the slot is the slot's
  pub on-slot : (past : List Entry) (slot : ℕ) (act : Act) → is_on slot act ≡ true → word_on s js past act ≡ word_of s js past slot
  on-slot past slot (Deliver other hit) here = let same : other ≡ slot = grind (arith, nat_tests) in ap (word_of s js past) same
  on-slot past slot (Stop other) here = let same : other ≡ slot = grind (arith, nat_tests) in ap (word_of s js past) same
  on-slot past slot (Clear other) here = let same : other ≡ slot = grind (arith, nat_tests) in ap (word_of s js past) same
  on-slot past slot (End other) here = let same : other ≡ slot = grind (arith, nat_tests) in ap (word_of s js past) same
  on-slot past slot Look here = cc
  on-slot past slot (Raise bits) here = cc
  on-slot past slot (Lower bits) here = cc

  -- an entry that is not counted leaves the slot's word as it was
  pub still : (history : List Entry) (slot : ℕ) (e : Entry) → FitsWords s js history e → changed slot e ≡ false → word_of s js (e ∷ reverse history) slot ≡ word_of s js (reverse history) slot
  still history slot e fits calm = on (is_on slot e.act) refl
    where
      on : (b : Bool) → is_on slot e.act ≡ b → word_of s js (e ∷ reverse history) slot ≡ word_of s js (reverse history) slot
      on true here =
          let quiet : (is_on slot e.act && not (e.before == e.after)) ≡ false = calm in
          let equal : (e.before == e.after) ≡ true = (let q = (rw here at quiet) in grind (arith, nat_tests)) in
          let same : e.before ≡ e.after = grind (arith, nat_tests) in
          sym (on-slot (e ∷ reverse history) slot e.act here) ∙ sym fits.left ∙ sym same ∙ fits.found ∙ on-slot (reverse history) slot e.act here
      on false out = packed-other (judge_of s js slot) (start_of s slot) (level (start_of s slot) (reverse history) slot) slot e.act (phase_of (judge_of s js slot) (start_of s slot) (reverse history) slot) (elsewhere slot e.act out)

  -- where the word has changed, an entry changed it
  pub changes : (history more : List Entry) (slot : ℕ) → IsSound s js (history ++ more) → word_of s js (reverse (history ++ more)) slot ≢ word_of s js (reverse history) slot → 1 ≤ length (filter (changed slot) more)
  changes history [] slot sound ne = absurd (ne (ap (λ l. word_of s js (reverse l) slot) (append-nil history)))
  changes history (e ∷ more) slot sound ne =
      on (changed slot e) refl (λ calm. changes (history ++ e ∷ []) more slot (subst (IsSound s js) (sym regroup) sound) (λ same. ne (ap (λ l. word_of s js (reverse l) slot) (sym regroup) ∙ (same ∙ ap (λ l. word_of s js l slot) back ∙ still history slot e (sound.replays history e more refl) calm))))
    where
      regroup : (history ++ e ∷ []) ++ more ≡ history ++ e ∷ more
      regroup = append_assoc history (e ∷ []) more

      back : reverse (history ++ e ∷ []) ≡ e ∷ reverse history
      back = reverse-append history (e ∷ [])

      on : (b : Bool) → changed slot e ≡ b → (b ≡ false → 1 ≤ length (filter (changed slot) more)) → 1 ≤ length (filter (changed slot) (e ∷ more))
      on true is rest = rw is (omega arith)
      on false is rest = rw is (rest refl)

-- of two lists, one after the other
pub filter_append : (slot : ℕ) (xs ys : List Entry) → length (filter (changed slot) (xs ++ ys)) ≡ length (filter (changed slot) xs) + length (filter (changed slot) ys)
filter_append slot xs ys = ap length (filter-append (changed slot) xs ys) ∙ length-append (filter (changed slot) xs) (filter (changed slot) ys)
