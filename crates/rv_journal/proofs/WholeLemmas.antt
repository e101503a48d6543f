-- The lists of the lanes are parts of one whole list, of which everything is known that a merge needs.
use Rattle.std.proofs.Common.{◌≡◌, ℕ, ◌^◌, ◌<◌, ◌==◌, Bool, true, false, List, [], ◌∷◌, ◌++◌, ◌⊎◌, inl, inr, length, get_or, refl, sym, ap, ◌∙◌, subst, arith, append_assoc}
use Rattle.std.specs.Prelude.{filter, All}
use Rattle.std.proofs.lemmas.Bool.Decides.{nat_tests}
use Rattle.std.proofs.lemmas.List.{append-nil, map-append, length-map, get_or_default}
use Rattle.std.proofs.lemmas.List.Elements.{filter-append, All-get_or}
use Rattle.rv_model.specs.declared.entry.Act.TheVariants.{Stop}
use Rattle.rv_model.specs.declared.entry.Entry.{Entry}
use Rattle.rv_model.specs.Seats.{entries_of}
use Rattle.rv_model.specs.Setups.{Setup}
use Rattle.rv_core.specs.Setup.{IsSetup, FitsAct, ActFits}
use Rattle.rv_journal.specs.declared.counted.Counted.{Counted}
use Rattle.rv_journal.specs.CountedLanes.{CountedLaneValue}
use Rattle.rv_journal.specs.CountedWords.{count_on}
use Rattle.rv_journal.specs.MergeSteps.{slot_in}
use Rattle.rv_journal.specs.MergeStates.{entries_in}
use Rattle.rv_journal.specs.inner.MergeStates.{IsItemAct}
use Rattle.rv_journal.specs.Merging.{IsLost, seat_of, FitsLane, CanMerge}
use Rattle.rv_journal.specs.inner.Merging.{NumbersFit, no_lane}
use Rattle.rv_journal.proofs.MarkLemmas.{cut_alike, same-cut, filter_yes, filter_no}
use Rattle.rv_journal.proofs.UnderWayLemmas.{item-cut}
use Rattle.rv_journal.proofs.ServedLemmas.{all-served, all-cut, bits-fit}

module _ (s : Setup) (seen : List Entry) (lanes : List CountedLaneValue) (can : CanMerge s seen lanes) (k : IsSetup s) (numbers : All (λ l. All NumbersFit l.counted) lanes) where
  -- the lane at a place
  abbrev pub lane_at : ℕ → CountedLaneValue
  lane_at l = get_or lanes l no_lane

  -- its seat
  abbrev pub seat_at : ℕ → ℕ
  seat_at l = seat_of (get_or lanes l no_lane)

  -- it fits
  pub fits-at : (l : ℕ) → l < length lanes → FitsLane s seen (lane_at l)
  fits-at l lt = All-get_or (FitsLane s seen) lanes l no_lane lt can.fit

  -- its numbers fit
  numbers-at : (l : ℕ) → l < length lanes → All NumbersFit (lane_at l).counted
  numbers-at l lt = All-get_or (λ (x : CountedLaneValue). All NumbersFit x.counted) lanes l no_lane lt numbers

  -- lanes of one seat are one
  pub lanes-apart : (l m : ℕ) → l < length lanes → m < length lanes → seat_at l ≡ seat_at m → l ≡ m
  lanes-apart l m lt mt same_seat = elim (order l m) [
    | inl is ↦ is
    | inr (inl less) ↦ absurd (can.cpus l m no_lane less mt (omega arith))
    | inr (inr more) ↦ absurd (can.cpus m l no_lane more lt (omega arith))
  ]
    where
      order : (a b : ℕ) → (a ≡ b) ⊎ ((a < b) ⊎ (b < a))
      order a b = grind arith

  -- every entry is a lane's
  lane-of : (before : List Entry) (e : Entry) (after : List Entry) → seen ≡ before ++ e ∷ after → (l : ℕ) × (l < length lanes) × (e.seat ≡ seat_at l)
  lane-of before e after eq =
      let a = can.no_other before e after eq in
      (a.0, a.2, a.4 ∙ ap (λ (x : CountedLaneValue). seat_of x) (sym a.3 ∙ get_or_default lanes a.0 a.1 no_lane a.2))

  -- what is known of an item by the entries before it
  pub record IsKnown (before : List Entry) (c : Counted) : Type 0 where
    pub lane : ℕ
    pub low : lane < length lanes
    pub own : c.entry.seat ≡ seat_at lane
    pub item_act : IsItemAct c.entry.act
    pub fits : FitsAct s c.entry.act
    pub bits : ActFits s c.entry.act
    pub small : c.entry.after < 2 ^ 64
    pub count_is : c.count ≡ count_on (slot_in c.entry.act) before
    pub lost : (slot : ℕ) → c.entry.act ≡ Stop slot → IsLost slot c.entry.seat c.first before

  -- a list of items for the rest of what was seen, of which each lane has its part
  pub record Whole (before rest : List Entry) : Type 0 where
    pub items : List Counted
    pub entries_are : entries_in items ≡ rest
    pub known : (front : List Counted) (c : Counted) (back : List Counted) → items ≡ front ++ c ∷ back → IsKnown (before ++ entries_in front) c
    pub parts : (l : ℕ) → l < length lanes → (front back : List Counted) → (lane_at l).counted ≡ front ++ back → entries_in front ≡ entries_of (λ n. n == seat_at l) before → filter (λ c. c.entry.seat == seat_at l) items ≡ back

  -- the item of an entry
  pub record ItemAt (before : List Entry) (e : Entry) : Type 0 where
    pub lane : ℕ
    pub low : lane < length lanes
    pub front : List Counted
    pub item : Counted
    pub back : List Counted
    pub is : (lane_at lane).counted ≡ front ++ item ∷ back
    pub front_is : entries_in front ≡ entries_of (λ n. n == seat_at lane) before
    pub entry_is : item.entry ≡ e
    pub own : item.entry.seat ≡ seat_at lane
    pub known : IsKnown before item

  -- each entry has one
  item-at : (before : List Entry) (e : Entry) (after : List Entry) → seen ≡ before ++ e ∷ after → ItemAt before e
  item-at before e after eq =
      let l = lane-of before e after eq in
      let n : ℕ = seat_at l.0 in
      let fit = fits-at l.0 l.1 in
      let seat_is : e.seat ≡ n = l.2 in
      let own : (e.seat == n) ≡ true = grind (arith, nat_tests) in
      let parts : entries_of (λ k. k == n) seen ≡ entries_of (λ k. k == n) before ++ e ∷ entries_of (λ k. k == n) after = ap (entries_of (λ k. k == n)) eq ∙ (filter-append (λ (x : Entry). x.seat == n) before (e ∷ after) ∙ ap (λ (z : List Entry). entries_of (λ k. k == n) before ++ z) (filter_yes (λ (x : Entry). x.seat == n) e after own)) in
      let cut = item-cut (lane_at l.0).counted (entries_of (λ k. k == n) before) e (entries_of (λ k. k == n) after) (fit.part.entries_are ∙ parts) in
      let c : Counted = cut.item in
      let counted = fit.part.each cut.front cut.item cut.back cut.is in
      let item_seat : cut.item.entry.seat ≡ n = ap (λ (x : Entry). x.seat) cut.entry_is ∙ seat_is in
      let here : counted.before ≡ before = same-cut n counted.before cut.item.entry counted.after before e after item_seat seat_is (sym counted.is ∙ eq) (ap length counted.own ∙ ap length cut.front_is) in
      let acts = all-served s (lane_at l.0).work.deliveries (lane_at l.0).counted fit.fit fit.served cut.front cut.item cut.back cut.is in
      let fitting = all-cut NumbersFit (lane_at l.0).counted (numbers-at l.0 l.1) cut.front cut.item cut.back cut.is in
      record {
        lane = l.0;
        low = l.1;
        front = cut.front;
        item = cut.item;
        back = cut.back;
        is = cut.is;
        front_is = cut.front_is;
        entry_is = cut.entry_is;
        own = item_seat;
        known = record {
          lane = l.0;
          low = l.1;
          own = item_seat;
          item_act = acts.0;
          fits = acts.1;
          bits = bits-fit s cut.item.entry.act acts.0 fitting.hit;
          small = fitting.word;
          count_is = counted.count_is ∙ ap (count_on (slot_in cut.item.entry.act)) here;
          lost = λ slot is. subst (λ (h : List Entry). IsLost slot cut.item.entry.seat cut.item.first h) here (subst (λ (m : ℕ). IsLost slot m cut.item.first counted.before) (sym item_seat) (counted.lost slot is));
        };
      }

  -- no entry, no item
  no-items : (items : List Counted) → entries_in items ≡ [] → items ≡ []
  no-items [] eq = refl
  no-items (c ∷ items) eq = absurd (cc)

  -- one entry more in front
  more-whole : (before : List Entry) (e : Entry) (rest : List Entry) → seen ≡ before ++ e ∷ rest → Whole (before ++ e ∷ []) rest → Whole before (e ∷ rest)
  more-whole before e rest eq w =
      let it = item-at before e rest eq in
      record {
        items = it.item ∷ w.items;
        entries_are = ap (λ (z : Entry). z ∷ entries_in w.items) it.entry_is ∙ ap (λ (z : List Entry). e ∷ z) w.entries_are;
        known = known-more it;
        parts = parts-more it;
      }
    where
      known-more : (it : ItemAt before e) (front : List Counted) (c : Counted) (back : List Counted) → it.item ∷ w.items ≡ front ++ c ∷ back → IsKnown (before ++ entries_in front) c
      known-more it [] c back eq' = let same_item : it.item ≡ c = cc in subst (λ (z : Counted). IsKnown (before ++ []) z) same_item (subst (λ (h : List Entry). IsKnown h it.item) (sym (append-nil before)) it.known)
      known-more it (x ∷ front) c back eq' =
          let head : x ≡ it.item = cc in
          let tail : w.items ≡ front ++ c ∷ back = cc in
          let first : x.entry ≡ e = ap (λ (z : Counted). z.entry) head ∙ it.entry_is in
          subst (λ (h : List Entry). IsKnown h c) (append_assoc before (e ∷ []) (entries_in front) ∙ ap (λ (z : Entry). before ++ z ∷ entries_in front) (sym first)) (w.known front c back tail)

      parts-more : (it : ItemAt before e) (l : ℕ) → l < length lanes → (front back : List Counted) → (lane_at l).counted ≡ front ++ back → entries_in front ≡ entries_of (λ n. n == seat_at l) before
          → filter (λ c. c.entry.seat == seat_at l) (it.item ∷ w.items) ≡ back
      parts-more it l lt front back cut here = by (it.item.entry.seat == seat_at l) refl
        where
          p : Counted → Bool
          p c = c.entry.seat == seat_at l

          by : (b : Bool) → (it.item.entry.seat == seat_at l) ≡ b → filter (λ c. c.entry.seat == seat_at l) (it.item ∷ w.items) ≡ back
          by true own =
              let own' : it.item.entry.seat ≡ seat_at l = grind (arith, nat_tests) in
              let one : it.lane ≡ l = lanes-apart it.lane l it.low lt (sym it.own ∙ own') in
              let there : (lane_at l).counted ≡ it.front ++ it.item ∷ it.back = subst (λ (m : ℕ). (lane_at m).counted ≡ it.front ++ it.item ∷ it.back) one it.is in
              let fronts : entries_in it.front ≡ entries_of (λ n. n == seat_at l) before = subst (λ (m : ℕ). entries_in it.front ≡ entries_of (λ n. n == seat_at m) before) one it.front_is in
              let many : length front ≡ length it.front = sym (length-map front (λ (c : Counted). c.entry)) ∙ (ap length (here ∙ sym fronts) ∙ length-map it.front (λ (c : Counted). c.entry)) in
              let alike = cut_alike front back it.front (it.item ∷ it.back) (sym cut ∙ there) many in
              let e_own : e.seat ≡ seat_at l = sym (ap (λ (x : Entry). x.seat) it.entry_is) ∙ own' in
              let e_yes : (e.seat == seat_at l) ≡ true = grind (arith, nat_tests) in
              let longer : entries_in (it.front ++ it.item ∷ []) ≡ entries_of (λ n. n == seat_at l) (before ++ e ∷ []) =
              map-append (λ (c : Counted). c.entry) it.front (it.item ∷ []) ∙ (ap (λ (z : List Entry). z ++ it.item.entry ∷ []) fronts ∙ (ap (λ (z : Entry). entries_of (λ n. n == seat_at l) before ++ z ∷ []) it.entry_is
              ∙ (ap (λ (z : List Entry). entries_of (λ n. n == seat_at l) before ++ z) (sym (filter_yes (λ (x : Entry). x.seat == seat_at l) e [] e_yes)) ∙ sym (filter-append (λ (x : Entry). x.seat == seat_at l) before (e ∷ []))))) in
              let rest' = w.parts l lt (it.front ++ it.item ∷ []) it.back (there ∙ sym (append_assoc it.front (it.item ∷ []) it.back)) longer in
              filter_yes (λ (c : Counted). c.entry.seat == seat_at l) it.item w.items own ∙ (ap (λ (z : List Counted). it.item ∷ z) rest' ∙ sym alike.1)
          by false other =
              let e_seat : it.item.entry.seat ≡ e.seat = ap (λ (x : Entry). x.seat) it.entry_is in
              let e_no : (e.seat == seat_at l) ≡ false = subst (λ (n : ℕ). (n == seat_at l) ≡ false) e_seat other in
              let none : entries_of (λ n. n == seat_at l) (before ++ e ∷ []) ≡ entries_of (λ n. n == seat_at l) before = filter-append (λ (x : Entry). x.seat == seat_at l) before (e ∷ []) ∙ (ap (λ (z : List Entry). entries_of (λ n. n == seat_at l) before ++ z) (filter_no (λ (x : Entry). x.seat == seat_at l) e [] e_no) ∙ append-nil (entries_of (λ n. n == seat_at l) before)) in
              filter_no (λ (c : Counted). c.entry.seat == seat_at l) it.item w.items other ∙ w.parts l lt front back cut (here ∙ sym none)

  -- from each place on
  whole-of : (before rest : List Entry) → seen ≡ before ++ rest → Whole before rest
  whole-of before [] eq = record {
    items = [];
    entries_are = refl;
    known = λ front c back eq'. absurd (empty front c back eq');
    parts = λ l lt front back cut here.
        (let all : entries_in (front ++ back) ≡ entries_of (λ n. n == seat_at l) before = sym (ap entries_in cut) ∙ ((fits-at l lt).part.entries_are ∙ ap (entries_of (λ n. n == seat_at l)) (eq ∙ append-nil before)) in
        let parted : entries_in front ++ entries_in back ≡ entries_in front ++ [] = sym (map-append (λ (c : Counted). c.entry) front back) ∙ (all ∙ (sym here ∙ sym (append-nil (entries_in front)))) in
        sym (no-items back (cut_alike (entries_in front) (entries_in back) (entries_in front) [] parted refl).1));
  }
    where
      empty : (front : List Counted) (c : Counted) (back : List Counted) → [] ≡ front ++ c ∷ back → ⊥
      empty [] c back eq' = cc
      empty (x ∷ front) c back eq' = cc
  whole-of before (e ∷ rest) eq = more-whole before e rest eq (whole-of (before ++ e ∷ []) rest (eq ∙ sym (append_assoc before (e ∷ []) rest)))

  -- all of it
  pub whole : Whole [] seen
  whole = whole-of [] seen refl
