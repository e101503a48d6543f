-- What is known of the list of all items is what a merge needs of it.
use Rattle.std.proofs.Common.{◌≡◌, ℕ, ◌+◌, ◌^◌, ◌<◌, ◌==◌, Bool, true, false, List, [], ◌∷◌, ◌++◌, length, reverse, refl, sym, ap, ◌∙◌, subst, arith, append_assoc}
use Rattle.std.specs.Prelude.{All}
use Rattle.std.proofs.lemmas.Bool.Decides.{nat_tests}
use Rattle.std.proofs.lemmas.List.{append-nil, map-append}
use Rattle.rv_model.specs.declared.entry.Entry.{Entry}
use Rattle.rv_model.specs.Histories.{FitsWords}
use Rattle.rv_model.specs.Numbers.{number_of, has_bit}
use Rattle.rv_model.specs.Setups.{Setup, start_of}
use Rattle.rv_model.specs.SharedWords.{word_of}
use Rattle.rv_core.specs.Setup.{IsSetup, judges_of}
use Rattle.rv_board.specs.inner.Rule.{IsMachine}
use Rattle.rv_journal.specs.declared.counted.Counted.{Counted}
use Rattle.rv_journal.specs.CountedLanes.{CountedLaneValue}
use Rattle.rv_journal.specs.CountedWords.{count_on}
use Rattle.rv_journal.specs.MergeSteps.{slot_in, version, changes_on}
use Rattle.rv_journal.specs.MergeStates.{entries_in}
use Rattle.rv_journal.specs.inner.MergeStates.{LostAt, AreKnownItems}
use Rattle.rv_journal.specs.Merging.{IsLost, CanMerge}
use Rattle.rv_journal.specs.inner.Merging.{NumbersFit}
use Rattle.rv_journal.proofs.SlotActLemmas.{machine-snoc}
use Rattle.rv_journal.proofs.PlaceLemmas.{merged-item}
use Rattle.rv_journal.proofs.StoppedLemmas.{IsItemEntry, found}
use Rattle.rv_journal.proofs.VersionLemmas.{stop_count, counted-more, stopped-more}
use Rattle.rv_journal.proofs.UnderWayLemmas.{item-cut}
use Rattle.rv_journal.proofs.WholeLemmas.{seat_at, Whole, whole}

module _ (s : Setup) (seen : List Entry) (lanes : List CountedLaneValue) (can : CanMerge s seen lanes) (k : IsSetup s) (numbers : All (λ l. All NumbersFit l.counted) lanes) where
  -- the whole list of items for all that was seen
  w : Whole s seen lanes can k numbers [] seen
  w = whole s seen lanes can k numbers

  -- the items of the whole list
  abbrev pub all_items : List Counted
  all_items = (whole s seen lanes can k numbers).items

  -- a cut of the items is one of what was seen
  seen-cut : (before : List Counted) (c : Counted) (after : List Counted) → all_items ≡ before ++ c ∷ after → seen ≡ entries_in before ++ c.entry ∷ entries_in after
  seen-cut before c after eq = sym (whole s seen lanes can k numbers).entries_are ∙ (ap entries_in eq ∙ map-append (λ (x : Counted). x.entry) before (c ∷ after))

  -- every entry is one of an item
  entry-at : (before : List Entry) (e : Entry) (after : List Entry) → seen ≡ before ++ e ∷ after → IsItemEntry s before e
  entry-at before e after eq =
      let cut = item-cut all_items before e after ((whole s seen lanes can k numbers).entries_are ∙ eq) in
      let known = (whole s seen lanes can k numbers).known cut.front cut.item cut.back cut.is in
      let here : IsItemEntry s before cut.item.entry = record { words = subst (FitsWords s (judges_of s) before) (sym cut.entry_is) (can.sound.replays before e after eq); item_act = known.item_act; fits = known.fits; bits = known.bits } in
      subst (IsItemEntry s before) cut.entry_is here

  -- what runs has rows, at each time
  machine-more : (history more : List Entry) → ((b : List Entry) (e : Entry) (a : List Entry) → more ≡ b ++ e ∷ a → IsItemEntry s (history ++ b) e) → IsMachine s history → IsMachine s (history ++ more)
  machine-more history [] all m = subst (IsMachine s) (sym (append-nil history)) m
  machine-more history (e ∷ more) all m =
      let first : IsItemEntry s history e = subst (λ (h : List Entry). IsItemEntry s h e) (append-nil history) (all [] e more refl) in
      let next = machine-snoc s history e m (merged-item e.act first.item_act) first.fits first.bits in
      let rest = machine-more (history ++ e ∷ []) more (λ b x a eq. subst (λ (h : List Entry). IsItemEntry s h x) (sym (append_assoc history (e ∷ []) b)) (all (e ∷ b) x a (ap (λ (z : List Entry). e ∷ z) eq))) next in
      subst (IsMachine s) (append_assoc history (e ∷ []) more) rest

  -- an empty history has nothing that runs
  pub machine-empty : IsMachine s []
  machine-empty = record { is_setup = k; live = λ i low. tt }

  -- a cut of a front is a cut of all that was seen
  longer : (front rest b : List Entry) (e : Entry) (a : List Entry) → seen ≡ front ++ rest → front ≡ b ++ e ∷ a → seen ≡ b ++ e ∷ (a ++ rest)
  longer front rest b e a eq cut = eq ∙ (ap (λ (z : List Entry). z ++ rest) cut ∙ append_assoc b (e ∷ a) rest)

  -- what runs has rows after each front of what was seen
  machine-at : (front rest : List Entry) → seen ≡ front ++ rest → IsMachine s front
  machine-at front rest eq = machine-more [] front (λ b e a cut. entry-at b e (a ++ rest) (longer front rest b e a eq cut)) machine-empty

  -- both are told of what follows a front
  both-at : (front rest : List Entry) → seen ≡ front ++ rest → (b : List Entry) (e : Entry) (a : List Entry) → rest ≡ b ++ e ∷ a → IsMachine s (front ++ b) × IsItemEntry s (front ++ b) e
  both-at front rest eq b e a cut =
      let eq' : seen ≡ (front ++ b) ++ e ∷ a = eq ∙ (ap (λ (z : List Entry). front ++ z) cut ∙ sym (append_assoc front b (e ∷ a))) in
      (machine-at (front ++ b) (e ∷ a) eq', entry-at (front ++ b) e a eq')

  -- an instance does not begin stopped
  begins : (i : ℕ) → changes_on i [] ≡ count_on i [] + stop_count (word_of s (judges_of s) (reverse []) i)
  begins i =
      let some : word_of s (judges_of s) (reverse []) i ≡ 2 ^ 32 + number_of (has_bit (start_of s i)) 32 = refl in
      let n : (word_of s (judges_of s) (reverse []) i == 0) ≡ false = grind (arith, nat_tests) in
      rw n refl

  -- after each front, a slot's changes are its count, and one more where its instance is stopped
  count-at : (i : ℕ) (front rest : List Entry) → seen ≡ front ++ rest → changes_on i front ≡ count_on i front + stop_count (word_of s (judges_of s) (reverse front) i)
  count-at i front rest eq = counted-more s i [] front (λ b e a cut. both-at [] seen refl b e (a ++ rest) (longer front rest b e a eq cut)) (begins i)

  -- where more changes follow, an instance is not stopped
  lost-is : (slot seat first : ℕ) (before rest : List Entry) → seen ≡ before ++ rest → IsLost slot seat first before → LostAt slot seat first before
  lost-is slot seat first before rest eq l = record { until = l.until; since = l.since; is = l.is; none = l.none; first_is = l.first_is ∙ count (word == 0) refl; three = l.three }
    where
      word : ℕ
      word = word_of s (judges_of s) (reverse l.until) slot

      cut : seen ≡ l.until ++ (l.since ++ rest)
      cut = eq ∙ (ap (λ (z : List Entry). z ++ rest) l.is ∙ append_assoc l.until l.since rest)

      whole' : changes_on slot l.until ≡ count_on slot l.until + stop_count (word_of s (judges_of s) (reverse l.until) slot)
      whole' = count-at slot l.until (l.since ++ rest) cut

      count : (b : Bool) → (word_of s (judges_of s) (reverse l.until) slot == 0) ≡ b → count_on slot l.until ≡ changes_on slot l.until
      count true is =
          let none : word_of s (judges_of s) (reverse l.until) slot ≡ 0 = grind (arith, nat_tests) in
          let still = stopped-more s slot l.until l.since (λ b e a eq'. both-at l.until (l.since ++ rest) cut b e (a ++ rest) (ap (λ (z : List Entry). z ++ rest) eq' ∙ append_assoc b (e ∷ a) rest)) none in
          let three = l.three in
          absurd (omega arith)
      count false is =
          let none : stop_count (word_of s (judges_of s) (reverse l.until) slot) ≡ 0 = rw is refl in
          let w' = whole' in
          omega arith

  -- every item of the whole list is known
  pub all-told : AreKnownItems s all_items
  all-told before c after eq =
      let known = (whole s seen lanes can k numbers).known before c after eq in
      let cut = seen-cut before c after eq in
      let m = machine-at (entries_in before) (c.entry ∷ entries_in after) cut in
      let it = entry-at (entries_in before) c.entry (entries_in after) cut in
      let counts = count-at (slot_in c.entry.act) (entries_in before) (c.entry ∷ entries_in after) cut in
      let word = ap stop_count (found s (entries_in before) c.entry m it) in
      let count_is = known.count_is in
      record {
        machine = m;
        words = it.words;
        item_act = known.item_act;
        fits = known.fits;
        bits = known.bits;
        small = known.small;
        low = (can.sound.permitted (entries_in before) c.entry (entries_in after) cut).0;
        rank_is = (let r : version c ≡ c.count + stop_count c.entry.before = refl in omega arith);
        lost = λ slot is. lost-is slot c.entry.seat c.first (entries_in before) (c.entry ∷ entries_in after) cut (known.lost slot is);
      }

  -- each item is a lane's
  pub owned : (before : List Counted) (c : Counted) (after : List Counted) → all_items ≡ before ++ c ∷ after → (l : ℕ) × (l < length lanes) × (c.entry.seat ≡ seat_at s seen lanes can k numbers l)
  owned before c after eq = let known = (whole s seen lanes can k numbers).known before c after eq in (known.lane, known.low, known.own)
