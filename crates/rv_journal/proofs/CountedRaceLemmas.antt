-- What a seat of a counted board has seen after some lost tries, and what its delivery tells.
use Rattle.std.proofs.Common.{◌≡◌, ◌≢◌, ℕ, zero, suc, ◌+◌, ◌<◌, ◌≤◌, List, [], ◌++◌, length, reverse, sum, refl, ap, sym, ◌∙◌, subst, arith, append_assoc}
use Rattle.std.specs.Prelude.{filter}
use mathlib.Core.Logic.{dite}
use native.Mathlib.Decide.{ℕ_discrete}
use Rattle.std.proofs.lemmas.List.{append-nil}
use Rattle.rv_model.specs.declared.entry.Entry.{Entry}
use Rattle.rv_model.specs.Setups.{Setup}
use Rattle.rv_model.specs.SharedWords.{word_of}
use Rattle.rv_model.specs.Histories.{IsSound, changed}
use Rattle.rv_model.specs.Seats.{entries_of}
use Rattle.rv_core.specs.Setup.{judges_of}
use Rattle.rv_board.specs.declared.view.View.{View}
use Rattle.rv_board.specs.inner.Known.{knows}
use Rattle.rv_board.specs.inner.Rule.{word_at, with_seen}
use Rattle.rv_board.specs.inner.Steps.{Saw}
use Rattle.rv_board.proofs.Knowing.{none_append}
use Rattle.rv_board.proofs.SoundLemmas.{changes, filter_append}
use Rattle.rv_board.proofs.RaceLemmas.{Lost}
use Rattle.rv_journal.specs.CountedWords.{count_on, rows_at, FitsCounts}
use Rattle.rv_journal.specs.inner.CountedWords.{counted_word, word_in, counted_at}
use Rattle.rv_journal.specs.inner.CountedSteps.{SawCounted}
use Rattle.rv_journal.proofs.CountLemmas.{count-append, counted-changes}
use Rattle.rv_journal.proofs.CountedWordLemmas.{at-slot, slot-word, found-word}

-- where the counted word has changed, an entry changed the slot's word
pub counted-word-changes : (s : Setup) (history more : List Entry) (slot : ℕ) → IsSound s (judges_of s) (history ++ more) → counted_at s (history ++ more) (slot + 1) ≢ counted_at s history (slot + 1) → 1 ≤ length (filter (changed slot) more)
counted-word-changes s history more slot sound ne = dite (ℕ_discrete (word_of s (judges_of s) (reverse (history ++ more)) slot) (word_of s (judges_of s) (reverse history) slot))
    (λ same. grown same (count_on slot more) refl)
    (λ other. changes s (judges_of s) history more slot sound other)
  where
    grown : word_of s (judges_of s) (reverse (history ++ more)) slot ≡ word_of s (judges_of s) (reverse history) slot → (n : ℕ) → count_on slot more ≡ n → 1 ≤ length (filter (changed slot) more)
    grown same (suc n) some = counted-changes slot more (omega arith)
    grown same zero none =
        let word : word_at s (history ++ more) (slot + 1) ≡ word_at s history (slot + 1) = slot-word s (history ++ more) slot ∙ same ∙ sym (slot-word s history slot) in
        let both = count-append slot history more in
        let count : count_on slot (history ++ more) ≡ count_on slot history = omega arith in
        absurd (ne (at-slot s (history ++ more) slot ∙ (λ i. counted_word (rows_at s slot) (word i) (count i)) ∙ sym (at-slot s history slot)))

-- since the view u, at the call's first load, the seat has lost so many tries; `raw` is the counted word that it expects
pub record LostCounted (u w : View) (slot lost raw : ℕ) : Type 0 where
  pub plain : Lost u w slot lost (word_in (rows_at u.setup slot) raw)
  pub raw_is : raw ≡ counted_at u.setup w.part.seen (slot + 1)
  pub counted : FitsCounts u.setup w.part.seen

module _ (slot : ℕ) where
  -- at the first load no try is lost
  pub counted-none : {v u : View} {index raw : ℕ} → slot < sum u.setup.shape → index ≡ slot + 1 → SawCounted v u index raw → LostCounted u u slot 0 raw
  counted-none {v} {u} {index} {raw} low at s =
      let saw = s.0 in
      let setup : u.setup ≡ v.setup = ap (λ (z : View). z.setup) saw.same in
      let sound : IsSound u.setup (judges_of u.setup) u.part.seen = subst (λ (k : Setup). IsSound k (judges_of k) u.part.seen) (sym setup) saw.sound in
      let counted : FitsCounts u.setup u.part.seen = subst (λ (k : Setup). FitsCounts k u.part.seen) (sym setup) s.1 in
      let is : raw ≡ counted_at u.setup u.part.seen (slot + 1) = saw.word ∙ (λ j. counted_at (sym setup j) u.part.seen (at j)) in record {
        plain = record {
          same = subst (λ (z : View). z ≡ with_seen z z.part.seen) (sym saw.same) refl;
          rest = [];
          list = sym (append-nil u.part.seen);
          none = refl;
          count = omega arith;
          sees = found-word u.setup u.part.seen 0 slot counted low raw sound is ∙ slot-word u.setup u.part.seen slot;
          sound = sound;
        };
        raw_is = is;
        counted = counted;
      }

  -- one more try is lost, since another seat changed the word
  pub counted-more : {u w x : View} {index lost raw found : ℕ} → slot < sum u.setup.shape → index ≡ slot + 1 → LostCounted u w slot lost raw → SawCounted w x index found → found ≢ raw → LostCounted u x slot (lost + 1) found
  counted-more {u} {w} {x} {index} {lost} {raw} {found} low at l s ne =
      let p = l.plain in
      let saw = s.0 in
      let setup : w.setup ≡ u.setup = ap (λ (z : View). z.setup) p.same in
      let here : found ≡ counted_at u.setup x.part.seen (slot + 1) = saw.word ∙ (λ j. counted_at (setup j) x.part.seen (at j)) in
      let sound : IsSound u.setup (judges_of u.setup) x.part.seen = subst (λ (k : Setup). IsSound k (judges_of k) x.part.seen) setup saw.sound in
      let counted : FitsCounts u.setup x.part.seen = subst (λ (k : Setup). FitsCounts k x.part.seen) setup s.1 in
      let moved : counted_at u.setup (w.part.seen ++ saw.rest) (slot + 1) ≢ counted_at u.setup w.part.seen (slot + 1) = λ same. ne (here ∙ (ap (λ (h : List Entry). counted_at u.setup h (slot + 1)) saw.list ∙ (same ∙ sym l.raw_is))) in
      let one = counted-word-changes u.setup w.part.seen saw.rest slot (subst (IsSound u.setup (judges_of u.setup)) saw.list sound) moved in
      let before = p.count in
      let both = filter_append slot p.rest saw.rest in
      let quiet : entries_of (knows u.part) saw.rest ≡ [] = subst (λ (z : View). entries_of (knows z.part) saw.rest ≡ []) p.same saw.none in record {
        plain = record {
          same = saw.same ∙ ap (λ (z : View). with_seen z x.part.seen) p.same;
          rest = p.rest ++ saw.rest;
          list = saw.list ∙ (ap (λ m. m ++ saw.rest) p.list ∙ append_assoc u.part.seen p.rest saw.rest);
          none = none_append (knows u.part) p.rest saw.rest p.none quiet;
          count = omega arith;
          sees = found-word u.setup x.part.seen 0 slot counted low found sound here ∙ slot-word u.setup x.part.seen slot;
          sound = sound;
        };
        raw_is = here;
        counted = counted;
      }

  -- what was lost since a view was lost since an earlier one
  pub lost-longer : (v u w : View) (place found lost word : ℕ) → Saw word_at v u place found → Lost u w slot lost word → Lost v w slot lost word
  lost-longer v u w place found lost word s l =
      let setup : u.setup ≡ v.setup = ap (λ (z : View). z.setup) s.same in
      let both = filter_append slot s.rest l.rest in
      let some = l.count in
      let quiet : entries_of (knows v.part) l.rest ≡ [] = subst (λ (z : View). entries_of (knows z.part) l.rest ≡ []) s.same l.none in record {
        same = l.same ∙ ap (λ (z : View). with_seen z w.part.seen) s.same;
        rest = s.rest ++ l.rest;
        list = l.list ∙ (ap (λ m. m ++ l.rest) s.list ∙ append_assoc v.part.seen s.rest l.rest);
        none = none_append (knows v.part) s.rest l.rest s.none quiet;
        count = omega arith;
        sees = l.sees ∙ ap (λ (k : Setup). word_of k (judges_of k) (reverse w.part.seen) slot) setup;
        sound = subst (λ (k : Setup). IsSound k (judges_of k) w.part.seen) setup l.sound;
      }
