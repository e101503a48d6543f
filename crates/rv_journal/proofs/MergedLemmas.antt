-- Where all steps are placed the merged history is legal, and is merged from what was seen.
use Rattle.std.proofs.Common.{◌≡◌, ◌≢◌, ℕ, zero, suc, ◌+◌, ◌<◌, ◌==◌, Bool, true, false, not, List, [], ◌∷◌, ◌++◌, ◌⊎◌, inl, inr, length, map, reverse, get_or, refl, sym, ap, ◌∙◌, subst, arith}
use Rattle.std.specs.Prelude.{filter, All, Any}
use Rattle.std.proofs.lemmas.Bool.Decides.{nat_tests}
use Rattle.std.proofs.lemmas.List.{append-nil, length-map, get_or-map, get_or_default}
use Rattle.std.proofs.lemmas.List.Elements.{All-map, All-from_get_or, All-weaker}
use Rattle.rv_model.specs.declared.entry.Act.{Act}
use Rattle.rv_model.specs.declared.entry.Entry.{Entry}
use Rattle.rv_model.specs.declared.work.Delivery.{Delivery}
use Rattle.rv_model.specs.Cuts.{AtEach}
use Rattle.rv_model.specs.Histories.{input_with, IsLegal, acts_of, changed}
use Rattle.rv_model.specs.Records.{is_look_act}
use Rattle.rv_model.specs.Scripts.{played, Plays, is_end}
use Rattle.rv_model.specs.Seats.{entries_of}
use Rattle.rv_model.specs.Setups.{Setup}
use Rattle.rv_model.specs.Works.{Work, IsWork}
use Rattle.rv_core.specs.Setup.{IsSetup, judges_of}
use Rattle.rv_journal.specs.declared.counted.Counted.{Counted}
use Rattle.rv_journal.specs.declared.steps.MergeStep.{MergeStep}
use Rattle.rv_journal.specs.declared.steps.MergeStep.TheVariants.{TurnLook, Item}
use Rattle.rv_journal.specs.CountedLanes.{CountedLaneValue}
use Rattle.rv_journal.specs.MergeSteps.{items_of}
use Rattle.rv_journal.specs.MergeStates.{entries_in, StandsAs}
use Rattle.rv_journal.specs.inner.MergeStates.{Mark, mark, items_in, entry_in, IsItemAct, step_entries, IsUnderWay}
use Rattle.rv_journal.specs.Merging.{FitsSetup, CanMerge, seat_of, works_of, IsMergeOf}
use Rattle.rv_journal.specs.inner.Merging.{NumbersFit, no_lane, lanes_of}
use Rattle.rv_journal.proofs.ItemLemmas.{by-item}
use Rattle.rv_journal.proofs.MarkLemmas.{filter_yes, filter_no, AllPlaced, placed-filter}
use Rattle.rv_journal.proofs.PlaceLemmas.{entries-filter, marked-items}
use Rattle.rv_journal.proofs.PlaysLemmas.{played-is, looks-tell, plays-steps}
use Rattle.rv_journal.proofs.StartLemmas.{names-at, script-items, served-length}
use Rattle.rv_journal.proofs.UnderWayLemmas.{item-cut, mark-cut}
use Rattle.rv_journal.proofs.ServedLemmas.{all-served}
use Rattle.rv_journal.proofs.WholeLemmas.{fits-at}

-- ---- lists

-- what is placed is placed at each cut
placed-at : (marks before : List Mark) (placed : Bool) (c : Counted) (after : List Mark) → AllPlaced marks → marks ≡ before ++ mark placed c ∷ after → placed ≡ true
placed-at [] [] placed c after all eq = absurd (cc)
placed-at [] (x ∷ before) placed c after all eq = absurd (cc)
placed-at (m ∷ marks) [] placed c after all eq = let first : m ≡ mark placed c = cc in sym (ap (λ (z : Mark). z.placed) first) ∙ all.0
placed-at (m ∷ marks) (x ∷ before) placed c after all eq = let tail : marks ≡ before ++ mark placed c ∷ after = cc in placed-at marks before placed c after all.1 tail

-- where all is placed nothing is to do
nothing-todo : (done todo : List Counted) → AllPlaced (map (mark true) done ++ map (mark false) todo) → todo ≡ []
nothing-todo [] [] all = refl
nothing-todo [] (c ∷ todo) all = absurd (let no : false ≡ true = all.0 in cc)
nothing-todo (d ∷ done) todo all = nothing-todo done todo all.1

-- ---- seats

-- one of the first numbers has this value, or none has
find : (f : ℕ → ℕ) (n many : ℕ) → ((l : ℕ) × (l < many) × (f l ≡ n)) ⊎ ((l : ℕ) → l < many → f l ≢ n)
find f n zero = inr (λ l lt. absurd (omega arith))
find f n (suc many) = by (same_or_not (f many) n) (find f n many)
  where
    same_or_not : (a b : ℕ) → (a ≡ b) ⊎ (a ≢ b)
    same_or_not a b = grind arith

    by : (f many ≡ n) ⊎ (f many ≢ n) → ((l : ℕ) × (l < many) × (f l ≡ n)) ⊎ ((l : ℕ) → l < many → f l ≢ n) → ((l : ℕ) × (l < suc many) × (f l ≡ n)) ⊎ ((l : ℕ) → l < suc many → f l ≢ n)
    by (inl is) rest = inl (many, omega arith, is)
    by (inr ne) (inl found) = inl (found.0, (let lt = found.1 in omega arith), found.2)
    by (inr ne) (inr none) = inr (λ l lt. elim (last l lt) [ inl is ↦ (λ e. ne (sym (ap f is) ∙ e)) | inr less ↦ none l less ])
      where
        last : (l : ℕ) → l < suc many → (l ≡ many) ⊎ (l < many)
        last l lt = grind arith

-- where no entry is the seat's, it has none
none-of : (n : ℕ) (h : List Entry) → ((b : List Entry) (e : Entry) (a : List Entry) → h ≡ b ++ e ∷ a → e.seat ≢ n) → entries_of (λ m. m == n) h ≡ []
none-of n [] all = refl
none-of n (e ∷ h) all =
    let ne = all [] e h refl in
    let no : (e.seat == n) ≡ false = grind (arith, nat_tests) in
    filter_no (λ (x : Entry). x.seat == n) e h no ∙ none-of n h (λ b x a eq. all (e ∷ b) x a (ap (λ (z : List Entry). e ∷ z) eq))

-- where none is the control actor's, it has no act
no-acts : (h : List Entry) → ((b : List Entry) (e : Entry) (a : List Entry) → h ≡ b ++ e ∷ a → e.seat ≢ 1) → acts_of 1 h ≡ []
no-acts [] all = refl
no-acts (e ∷ h) all =
    let ne = all [] e h refl in
    let no : (e.seat == 1) ≡ false = grind (arith, nat_tests) in
    rw no (no-acts h (λ b x a eq. all (e ∷ b) x a (ap (λ (z : List Entry). e ∷ z) eq)))

-- an item's act is no look
no-look_act : (act : Act) → IsItemAct act → is_look_act act ≡ false
no-look_act = by-item (λ (a : Act). is_look_act a ≡ false) (λ slot hit. refl) (λ slot. refl)

-- but for looks, the entries of steps are those of their items
without-looks : (n switches : ℕ) (steps : List MergeStep) → ((b : List Counted) (c : Counted) (a : List Counted) → items_of steps ≡ b ++ c ∷ a → IsItemAct c.entry.act) → filter (λ e. not (is_look_act e.act)) (step_entries n switches steps) ≡ entries_in (items_of steps)
without-looks n switches [] all = refl
without-looks n switches (TurnLook ∷ steps) all = without-looks n switches steps all
without-looks n switches (Item c ∷ steps) all =
    let act = no-look_act c.entry.act (all [] c (items_of steps) refl) in
    let yes' : not (is_look_act c.entry.act) ≡ true = ap not act in
    filter_yes (λ (e : Entry). not (is_look_act e.act)) c.entry (step_entries n switches steps) yes'
    ∙ ap (λ (z : List Entry). c.entry ∷ z) (without-looks n switches steps (λ b x a eq. all (c ∷ b) x a (ap (λ (z : List Counted). c ∷ z) eq)))

module _ (s : Setup) (seen : List Entry) (lanes : List CountedLaneValue) (can : CanMerge s seen lanes) (k : IsSetup s) (numbers : All (λ l. All NumbersFit l.counted) lanes) (works : All (λ l. IsWork l.work) lanes)
    (items : List Counted) (entries_are : entries_in items ≡ seen) (history : List Entry) (rest : ℕ → List MergeStep) (u : IsUnderWay s items (lanes_of lanes) history rest) (ended : (l : ℕ) → l < length lanes → rest l ≡ []) (placed : AllPlaced u.marks) where
  -- the lane at a place
  abbrev lane_at : ℕ → CountedLaneValue
  lane_at l = get_or lanes l no_lane

  -- a lane has placed all of its steps
  list-at : (l : ℕ) → l < length lanes → entries_of (λ n. n == seat_of (lane_at l)) history ≡ step_entries (seat_of (lane_at l)) s.switches ((lanes_of lanes).script l)
  list-at l lt =
      sym (append-nil (entries_of (λ n. n == seat_of (lane_at l)) history))
      ∙ (ap (λ (z : List MergeStep). entries_of (λ n. n == seat_of (lane_at l)) history ++ step_entries (seat_of (lane_at l)) s.switches z) (sym (ended l lt)) ∙ u.lists l lt)

  -- so it has played its script
  plays-at : (l : ℕ) → l < length lanes → Plays s (λ _. false) (lane_at l).work (played s (judges_of s) (seat_of (lane_at l)) (reverse history))
  plays-at l lt =
      let fit = fits-at s seen lanes can k numbers l lt in
      plays-steps s (seat_of (lane_at l)) s.switches (lane_at l).work.deliveries (lane_at l).counted fit.served (served-length s (lane_at l).work.deliveries (lane_at l).counted fit.served) fit.enabled (All-weaker (FitsSetup s) (λ (d : Delivery). is_end d.hit.mode ≡ false) (λ d f. f.hit.0) (lane_at l).work.deliveries fit.fit) can.running
      (lane_at l).work.turns 0 (names-at s seen lanes can k numbers works l lt) (played s (judges_of s) (seat_of (lane_at l)) (reverse history))
      (played-is s (judges_of s) (seat_of (lane_at l)) history ∙ list-at l lt) (looks-tell s (judges_of s) (seat_of (lane_at l)) history)

  -- the seat of an entry is a lane's
  any-work : (n l : ℕ) → l < length lanes → n ≡ seat_of (lane_at l) → Any (λ w. n ≡ 2 + w.cpu) (works_of lanes)
  any-work n l lt is =
      let low : l < length (works_of lanes) = (let m = length-map lanes (λ (x : CountedLaneValue). x.work) in omega arith) in
      let at : get_or (works_of lanes) l (lane_at l).work ≡ (lane_at l).work = get_or_default (works_of lanes) l (lane_at l).work no_lane.work low ∙ get_or-map (λ (x : CountedLaneValue). x.work) lanes l no_lane no_lane.work lt in
      (l, (lane_at l).work, low, at, is)

  -- ---- it is legal
  legal : IsLegal (input_with s [] (λ _. false) (works_of lanes) []) (judges_of s) history
  legal = record {
    sound = u.sound;
    cpus = All-map (λ (w : Work). Plays s (λ _. false) w (played s (judges_of s) (2 + w.cpu) (reverse history))) (λ (x : CountedLaneValue). x.work) lanes
        (All-from_get_or (λ (x : CountedLaneValue). Plays s (λ _. false) x.work (played s (judges_of s) (2 + x.work.cpu) (reverse history))) lanes no_lane plays-at);
    control = no-acts history (λ b e a eq one. (let o = u.others b e a eq in let is = o.2 in absurd (omega arith)));
    nobody_else = λ b e a eq. (let o = u.others b e a eq in inr (any-work e.seat o.0 o.1 o.2));
  }

  -- ---- it is merged from what was seen
  -- all entries of the list were seen
  entries-all : entries_in (items_in u.marks) ≡ seen
  entries-all = ap entries_in u.marks_are ∙ entries_are

  -- on each slot the entries that changed its word are those that were seen, in the same order
  changes-all : (slot : ℕ) → filter (changed slot) history ≡ filter (changed slot) seen
  changes-all slot =
      let d = u.divides slot in
      let all : AllPlaced (map (mark true) d.done ++ map (mark false) d.todo) = subst AllPlaced d.marks_are (placed-filter (λ m. changed slot (entry_in m)) u.marks placed) in
      let none = nothing-todo d.done d.todo all in
      let marks : filter (λ m. changed slot (entry_in m)) u.marks ≡ map (mark true) d.done = d.marks_are ∙ (ap (λ (z : List Counted). map (mark true) d.done ++ map (mark false) z) none ∙ append-nil (map (mark true) d.done)) in
      d.history_is ∙ (ap entries_in (sym (marked-items true d.done)) ∙ (ap (λ (z : List Mark). entries_in (items_in z)) (sym marks) ∙ (entries-filter slot u.marks ∙ ap (filter (changed slot)) entries-all)))

  -- each entry that was seen stands between the same changes
  between-all : AtEach (StandsAs history) seen
  between-all before e after eq =
      let cut = item-cut items before e after (entries_are ∙ eq) in
      let m = mark-cut u.marks cut.front cut.item cut.back (u.marks_are ∙ cut.is) in
      let is = placed-at u.marks m.before m.placed cut.item m.after placed m.is in
      let at : u.marks ≡ m.before ++ mark true cut.item ∷ m.after = m.is ∙ ap (λ (b : Bool). m.before ++ mark b cut.item ∷ m.after) is in
      let stands = u.stands m.before cut.item m.after at in
      let front : entries_in (items_in m.before) ≡ before = ap entries_in m.front_is ∙ cut.front_is in
      subst (λ (x : Entry). StandsAs history before x) cut.entry_is (subst (λ (z : List Entry). StandsAs history z cut.item.entry) front stands)

  -- but for looks, each seat has the entries that were seen of it, in their order
  seats-all : (seat : ℕ) → filter (λ e. not (is_look_act e.act)) (entries_of (λ n. n == seat) history) ≡ entries_of (λ n. n == seat) seen
  seats-all seat = elim (find (λ l. seat_of (lane_at l)) seat (length lanes)) [
    | inl found ↦ subst (λ (n : ℕ). filter (λ e. not (is_look_act e.act)) (entries_of (λ m. m == n) history) ≡ entries_of (λ m. m == n) seen) found.2 (own found.0 found.1)
    | inr none ↦
        let joined_in : entries_of (λ n. n == seat) history ≡ [] = none-of seat history (λ b e a eq is. (let o = u.others b e a eq in none o.0 o.1 (sym o.2 ∙ is))) in
        let gone' : entries_of (λ n. n == seat) seen ≡ [] = none-of seat seen (λ b e a eq is. (let o = can.no_other b e a eq in none o.0 o.2 (ap (λ (x : CountedLaneValue). seat_of x) (get_or_default lanes o.0 no_lane o.1 o.2 ∙ o.3) ∙ (sym o.4 ∙ is)))) in
        ap (filter (λ (e : Entry). not (is_look_act e.act))) joined_in ∙ sym gone'
  ]
    where
      own : (l : ℕ) → l < length lanes → filter (λ e. not (is_look_act e.act)) (entries_of (λ m. m == seat_of (lane_at l)) history) ≡ entries_of (λ m. m == seat_of (lane_at l)) seen
      own l lt =
          let fit = fits-at s seen lanes can k numbers l lt in
          let steps = script-items s seen lanes can k numbers works l lt in
          ap (filter (λ (e : Entry). not (is_look_act e.act))) (list-at l lt)
          ∙ (without-looks (seat_of (lane_at l)) s.switches ((lanes_of lanes).script l) (λ b c a eq. (all-served s (lane_at l).work.deliveries (lane_at l).counted fit.fit fit.served b c a (sym steps ∙ eq)).0)
          ∙ (ap entries_in steps ∙ fit.part.entries_are))

  -- where all is placed, the history is a legal one that was merged from what was seen
  pub merged : IsMergeOf s seen lanes history
  merged = record { legal = legal; fits = u.fits; from = record { seats = seats-all; changes = changes-all; between = between-all } }
