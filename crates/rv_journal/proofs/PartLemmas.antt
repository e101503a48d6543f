-- What a feeder's deliveries observed is its CPU's part of every later history.
use Rattle.std.proofs.Common.{◌≡◌, inl, inr, ℕ, ◌<◌, ◌≤◌, ◌==◌, Bool, true, false, true≢false, List, [], ◌∷◌, ◌++◌, length, refl, sym, ap, ◌∙◌, subst, arith, append_assoc, append-nil}
use Rattle.std.specs.Prelude.{All, filter}
use Rattle.std.proofs.lemmas.Bool.Decides.{nat_tests}
use Rattle.std.proofs.lemmas.List.{map-append}
use Rattle.std.proofs.lemmas.List.Elements.{All-head, All-tail}
use Rattle.rv_model.specs.declared.entry.Act.TheVariants.{Stop}
use Rattle.rv_model.specs.declared.entry.Entry.{Entry}
use Rattle.rv_model.specs.declared.record.Delivered.{Delivered}
use Rattle.rv_model.specs.declared.record.Delivered.TheVariants.{Done, Racing}
use Rattle.rv_model.specs.declared.work.Delivery.{Delivery}
use Rattle.rv_model.specs.Histories.{changed}
use Rattle.rv_model.specs.Seats.{known_of, entries_of}
use Rattle.rv_model.specs.Setups.{Setup}
use Rattle.rv_board.specs.Seats.{ExtendsSeen}
use Rattle.rv_board.proofs.GrowLemmas.{own_entries}
use Rattle.rv_board.proofs.Knowing.{knows_own, known_is, none_is}
use Rattle.rv_board.proofs.ListLemmas.{All-front}
use Rattle.rv_journal.specs.declared.counted.Counted.{Counted}
use Rattle.rv_journal.specs.CountedLanes.{slot_at, EndsAs, IsObserved, AllObservedAfter, entries_observed, FeedsCounted}
use Rattle.rv_journal.specs.CountedSeats.{CountedValue}
use Rattle.rv_journal.specs.CountedWords.{is_deliver, count_on}
use Rattle.rv_journal.specs.MergeSteps.{slot_in}
use Rattle.rv_journal.specs.MergeStates.{entries_in}
use Rattle.rv_journal.specs.Merging.{IsCountedIn, IsSeatPartOf, Serves, AllServed}
use Rattle.rv_journal.proofs.CountedFeedLemmas.{none-more}

-- ---- one delivery

-- its entry is on its slot
slot-told : (s : Setup) (slot : ℕ) (d : Delivery) (before since : List Entry) (entry : Entry) (outcome : Delivered) → EndsAs s slot d before since entry outcome → slot_in entry.act ≡ slot
slot-told s slot d before since entry (Done answer) ends = ap slot_in ends.0
slot-told s slot d before since entry Racing ends = ap slot_in ends.0

-- a Stop was lost on that slot
lost-told : (s : Setup) (slot : ℕ) (d : Delivery) (before since : List Entry) (entry : Entry) (outcome : Delivered) → EndsAs s slot d before since entry outcome → (stopped : ℕ) → entry.act ≡ Stop stopped → (slot ≡ stopped) × (3 ≤ length (filter (changed slot) since))
lost-told s slot d before since entry (Done answer) ends stopped is = absurd (true≢false (ap is_deliver (sym ends.0 ∙ is)))
lost-told s slot d before since entry Racing ends stopped is = (ap slot_in (sym ends.0 ∙ is), ends.1)

-- the entry serves the delivery
serves-told : (s : Setup) (d : Delivery) (before since : List Entry) (entry : Entry) (outcome : Delivered) → EndsAs s (slot_at s d) d before since entry outcome → Serves s d entry.act
serves-told s d before since entry (Done answer) ends = inl ends.0
serves-told s d before since entry Racing ends = inr ends.0

-- ---- all deliveries

module _ (s : Setup) (known : ℕ → Bool) (seen list : List Entry) where
  -- each of them is served
  pub all-served : (own : List Entry) (ds : List Delivery) (cs : List Counted) → AllObservedAfter s known seen list own ds cs → AllServed s ds cs
  all-served own [] [] all = tt
  all-served own [] (c ∷ cs) all = absurd all
  all-served own (d ∷ ds) [] all = absurd all
  all-served own (d ∷ ds) (c ∷ cs) all = (serves-told s d (all.0.earlier ++ all.0.since) all.0.since c.entry c.outcome all.0.ends, all-served (own ++ c.entry ∷ []) ds cs all.1)

  -- what one of them observed is so in the list, after the entries of those before it
  pub told-at : (own : List Entry) (ds : List Delivery) (cs : List Counted) → AllObservedAfter s known seen list own ds cs → (front : List Counted) (c : Counted) (back : List Counted) → cs ≡ front ++ c ∷ back → (d : Delivery) × IsObserved s known seen list (own ++ entries_observed front) d c
  told-at own [] [] all [] c back eq = absurd (cc (eq))
  told-at own [] [] all (x ∷ front) c back eq = absurd (cc (eq))
  told-at own [] (y ∷ cs) all front c back eq = absurd all
  told-at own (d ∷ ds) [] all front c back eq = absurd all
  told-at own (d ∷ ds) (y ∷ cs) all [] c back eq =
      let same : y ≡ c = cc (eq) in
      (d, subst (λ (z : List Entry × Counted). IsObserved s known seen list z.0 d z.1) (λ i. (sym (append-nil own) i, same i)) all.0)
  told-at own (d ∷ ds) (y ∷ cs) all (x ∷ front) c back eq =
      let same : y ≡ x = cc (eq) in
      let rest : cs ≡ front ++ c ∷ back = cc (eq) in
      let more = told-at (own ++ y.entry ∷ []) ds cs all.1 front c back rest in
      (more.0, subst (λ (z : List Entry). IsObserved s known seen list z more.0 c) (append_assoc own (y.entry ∷ []) (entries_observed front) ∙ (λ i. own ++ (same i).entry ∷ entries_observed front)) more.1)

-- ---- the part of a history

-- entries of one number are among those of all known ones
entries-within : (known : ℕ → Bool) (seat : ℕ) (xs : List Entry) → known seat ≡ true → entries_of (λ n. n == seat) xs ≡ entries_of (λ n. n == seat) (entries_of known xs)
entries-within known seat [] mine = refl
entries-within known seat (x ∷ xs) mine = on (known x.seat) (x.seat == seat) refl refl (entries-within known seat xs mine)
  where
    on : (a b : Bool) → known x.seat ≡ a → (x.seat == seat) ≡ b → entries_of (λ n. n == seat) xs ≡ entries_of (λ n. n == seat) (entries_of known xs) → entries_of (λ n. n == seat) (x ∷ xs) ≡ entries_of (λ n. n == seat) (entries_of known (x ∷ xs))
    on true true ka is more = rw (ka, is) (ap (λ (l : List Entry). x ∷ l) more)
    on true false ka is more = rw (ka, is) more
    on false true ka is more = absurd (let same : x.seat ≡ seat = grind (arith, nat_tests) in true≢false (sym mine ∙ (ap known (sym same) ∙ ka)))
    on false false ka is more = rw (ka, is) more

-- entries of one number are all of that number
entries-all : (seat : ℕ) (xs : List Entry) → All (λ (e : Entry). e.seat ≡ seat) xs → entries_of (λ n. n == seat) xs ≡ xs
entries-all seat [] all = refl
entries-all seat (x ∷ xs) all =
    let is : x.seat ≡ seat = All-head (λ (e : Entry). e.seat ≡ seat) x xs all in
    let same : (x.seat == seat) ≡ true = grind (arith, nat_tests) in
    rw same (ap (λ (l : List Entry). x ∷ l) (entries-all seat xs (All-tail (λ (e : Entry). e.seat ≡ seat) x xs all)))

module _ (old new : CountedValue) (h : List Entry) (fresh : old.seat.part.seen ≡ []) (has : old.seat.part.number < old.seat.part.end) (later : ExtendsSeen h new.seat.part) (ds : List Delivery) (counted : List Counted) (feeds : FeedsCounted old new ds counted) where
  -- the number of the seat
  seat : ℕ
  seat = old.seat.part.number

  -- which numbers the seat knew before the deliveries
  knows : ℕ → Bool
  knows = known_of old.seat.part

  -- the seat knows its own number
  mine : knows seat ≡ true
  unfolding seat knows
  mine = (λ i. known_is old.seat.part i old.seat.part.number) ∙ knows_own old.seat.part.number old.seat.part.end old.seat.part.joined_in has

  -- entries before one of them that are of known numbers are of the seat's
  own-before : (front : List Counted) (c : Counted) (back : List Counted) → counted ≡ front ++ c ∷ back → (before : List Entry) → entries_of knows before ≡ entries_observed front → entries_of (λ n. n == seat) before ≡ entries_in front
  unfolding seat knows
  own-before front c back eq before are =
      let all : entries_observed counted ≡ entries_observed front ++ entries_observed (c ∷ back) = ap entries_observed eq ∙ map-append (λ (t : Counted). t.entry) front (c ∷ back) in
      let by_seat : All (λ (e : Entry). e.seat ≡ old.seat.part.number) (entries_observed front) =
      All-front (λ (e : Entry). e.seat ≡ old.seat.part.number) (entries_observed front) (entries_observed (c ∷ back)) (subst (All (λ (e : Entry). e.seat ≡ old.seat.part.number)) all feeds.grows.grows.seats) in
      entries-within knows seat before mine ∙ (ap (entries_of (λ n. n == old.seat.part.number)) are ∙ entries-all old.seat.part.number (entries_observed front) by_seat)

  -- each item is counted in the history
  counted-in : (front : List Counted) (c : Counted) (back : List Counted) → counted ≡ front ++ c ∷ back → IsCountedIn h seat (entries_in front) c
  unfolding seat knows
  counted-in front c back eq =
      let s = old.seat.board.setup in
      let at = told-at s (known_of old.seat.part) old.seat.part.seen new.seat.part.seen (entries_of (known_of old.seat.part) old.seat.part.seen) ds counted feeds.observed front c back eq in
      let d = at.0 in
      let t = at.1 in
      let own_is : entries_of (known_of old.seat.part) (t.earlier ++ t.since) ≡ entries_observed front =
      none-more (known_of old.seat.part) t.earlier t.since t.others ∙ (t.own_are ∙ ap (λ (z : List Entry). entries_of (known_of old.seat.part) z ++ entries_observed front) fresh) in
      record {
        before = t.earlier ++ t.since;
        after = t.later ++ later.rest;
        is = later.list ∙ (ap (λ (z : List Entry). z ++ later.rest) t.list_is ∙ append_assoc (t.earlier ++ t.since) (c.entry ∷ t.later) later.rest);
        own = own-before front c back eq (t.earlier ++ t.since) own_is;
        count_is = t.count ∙ ap (λ (slot : ℕ). count_on slot (t.earlier ++ t.since)) (sym (slot-told s (slot_at s d) d (t.earlier ++ t.since) t.since c.entry c.outcome t.ends));
        lost = λ slot is.
            let lost = lost-told s (slot_at s d) d (t.earlier ++ t.since) t.since c.entry c.outcome t.ends slot is in record {
              until = t.earlier;
              since = t.since;
              is = refl;
              none = none_is (known_of old.seat.part) old.seat.part.number t.since mine t.others;
              first_is = t.first ∙ ap (λ (z : ℕ). count_on z t.earlier) lost.0;
              three = subst (λ (z : ℕ). 3 ≤ length (filter (changed z) t.since)) lost.0 lost.1;
            };
      }

  -- all of them are the seat's part of it
  pub is-part : IsSeatPartOf h old.seat.part.number counted
  unfolding seat knows
  is-part = record {
    entries_are = sym (own_entries old.seat new.seat (entries_observed counted) h fresh has feeds.grows later);
    each = counted-in;
  }
