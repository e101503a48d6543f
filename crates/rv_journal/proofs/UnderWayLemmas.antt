-- A merge goes on: its lanes' next steps are placed.
use Rattle.std.proofs.Common.{◌≡◌, ◌≢◌, ℕ, ◌+◌, ◌<◌, ◌≤◌, ◌==◌, Bool, true, false, List, [], ◌∷◌, ◌++◌, ◌⊎◌, inl, inr, refl, sym, ap, ◌∙◌, subst, arith, append_assoc}
use Rattle.std.specs.Prelude.{filter}
use Rattle.std.proofs.lemmas.Bool.Decides.{nat_tests}
use Rattle.std.proofs.lemmas.List.{append-nil}
use Rattle.std.proofs.lemmas.List.Elements.{filter-append}
use Rattle.rv_model.specs.declared.entry.Act.TheVariants.{Stop}
use Rattle.rv_model.specs.declared.entry.Entry.{Entry}
use Rattle.rv_model.specs.Cuts.{AtEach}
use Rattle.rv_model.specs.Histories.{FitsWords, Replays}
use Rattle.rv_model.specs.Seats.{entries_of}
use Rattle.rv_model.specs.Setups.{Setup}
use Rattle.rv_model.proofs.CutLemmas.{at_each-snoc}
use Rattle.rv_core.specs.Setup.{judges_of}
use Rattle.rv_journal.specs.declared.counted.Counted.{Counted}
use Rattle.rv_journal.specs.declared.steps.MergeStep.{MergeStep}
use Rattle.rv_journal.specs.declared.steps.MergeStep.TheVariants.{TurnLook, Item}
use Rattle.rv_journal.specs.MergeSteps.{items_of, behind, changes_on}
use Rattle.rv_journal.specs.inner.MergeSteps.{step_entry, leaves_in, lost_in, leaving, losing, held_by}
use Rattle.rv_journal.specs.MergeStates.{entries_in}
use Rattle.rv_journal.specs.inner.MergeStates.{AreKnownItems, Mark, mark, items_in, NextIsJustified, Lanes, step_entries}
use Rattle.rv_journal.proofs.MarkLemmas.{filter_yes, filter_no}
use Rattle.rv_journal.proofs.PlaceLemmas.{last-longer}

-- ---- cuts of the whole list

-- a cut of the entries is a cut of the items
pub record ItemCut (items : List Counted) (before : List Entry) (e : Entry) : Type 0 where
  pub front : List Counted
  pub item : Counted
  pub back : List Counted
  pub is : items ≡ front ++ item ∷ back
  pub front_is : entries_in front ≡ before
  pub entry_is : item.entry ≡ e

-- each has one
pub item-cut : (items : List Counted) (before : List Entry) (e : Entry) (after : List Entry) → entries_in items ≡ before ++ e ∷ after → ItemCut items before e
item-cut [] [] e after eq = absurd (cc)
item-cut [] (x ∷ before) e after eq = absurd (cc)
item-cut (c ∷ items) [] e after eq = record { front = []; item = c; back = items; is = refl; front_is = refl; entry_is = cc }
item-cut (c ∷ items) (x ∷ before) e after eq =
    let tail : entries_in items ≡ before ++ e ∷ after = cc in
    let head : c.entry ≡ x = cc in
    let r = item-cut items before e after tail in
    record { front = c ∷ r.front; item = r.item; back = r.back; is = ap (λ (z : List Counted). c ∷ z) r.is; front_is = (let f : entries_in r.front ≡ before = r.front_is in cc); entry_is = r.entry_is }

-- a cut of the items is one of the marks
pub record MarkCut (marks : List Mark) (front : List Counted) (c : Counted) : Type 0 where
  pub before : List Mark
  pub placed : Bool
  pub after : List Mark
  pub is : marks ≡ before ++ mark placed c ∷ after
  pub front_is : items_in before ≡ front

-- so is each
pub mark-cut : (marks : List Mark) (front : List Counted) (c : Counted) (back : List Counted) → items_in marks ≡ front ++ c ∷ back → MarkCut marks front c
mark-cut [] [] c back eq = absurd (cc)
mark-cut [] (x ∷ front) c back eq = absurd (cc)
mark-cut (m ∷ marks) [] c back eq = let it : m.item ≡ c = cc in record { before = []; placed = m.placed; after = marks; is = ap (λ (z : Counted). mark m.placed z ∷ marks) it; front_is = refl }
mark-cut (m ∷ marks) (x ∷ front) c back eq =
    let tail : items_in marks ≡ front ++ c ∷ back = cc in
    let head : m.item ≡ x = cc in
    let r = mark-cut marks front c back tail in
    record { before = m ∷ r.before; placed = r.placed; after = r.after; is = ap (λ (z : List Mark). m ∷ z) r.is; front_is = (let f : items_in r.before ≡ front = r.front_is in cc) }

-- the whole list replays
pub told-replays : (s : Setup) (items : List Counted) → AreKnownItems s items → Replays s (judges_of s) (entries_in items)
told-replays s items observed before e after eq =
    let r = item-cut items before e after eq in
    let t = observed r.front r.item r.back r.is in
    subst (λ (z : Entry). FitsWords s (judges_of s) before z) r.entry_is (subst (λ (z : List Entry). FitsWords s (judges_of s) z r.item.entry) r.front_is t.words)

-- ---- what is pending in an interval

-- fewer are lost behind the first
losing-behind : (slot r : ℕ) (steps : List MergeStep) → losing slot r (items_of (behind steps)) ≤ losing slot r (items_of steps)
losing-behind slot r [] = omega arith
losing-behind slot r (TurnLook ∷ steps) = omega arith
losing-behind slot r (Item c ∷ steps) = omega arith

-- a lane holds no more after a step
pub held-less : (slot r : ℕ) (step : MergeStep) (steps : List MergeStep) → held_by slot r (step ∷ steps) ≡ 0 → held_by slot r steps ≡ 0
held-less slot r TurnLook steps none = let less = losing-behind slot r steps in let n : leaving slot r (items_of steps) + losing slot r (items_of steps) ≡ 0 = none in omega arith
held-less slot r (Item c) steps none = let less = losing-behind slot r steps in let n : (leaves_in slot r c + leaving slot r (items_of steps)) + losing slot r (items_of steps) ≡ 0 = none in omega arith

-- a Stop that is not the next step is held
pub held-stop : (slot : ℕ) (step : MergeStep) (c : Counted) (steps : List MergeStep) → c.entry.act ≡ Stop slot → 1 ≤ held_by slot c.first (step ∷ Item c ∷ steps)
held-stop slot step c steps is =
    let yes' : (slot == slot) ≡ true = grind (arith, nat_tests) in
    let yes'' : (c.first == c.first) ≡ true = grind (arith, nat_tests) in
    let here : lost_in slot c.first (Stop slot) c.first ≡ 1 = rw (yes', yes'') refl in
    let one : lost_in slot c.first c.entry.act c.first ≡ 1 = ap (λ a. lost_in slot c.first a c.first) is ∙ here in
    let some : 1 ≤ losing slot c.first (items_of (behind (step ∷ Item c ∷ steps))) = (let e : losing slot c.first (c ∷ items_of steps) ≡ lost_in slot c.first c.entry.act c.first + losing slot c.first (items_of steps) = refl in omega arith) in
    omega arith

-- ---- one entry more
module _ (s : Setup) (lanes : Lanes) where
  -- how many lanes there are
  abbrev many : ℕ
  many = lanes.many

  -- the seat of each lane
  abbrev seat : ℕ → ℕ
  seat = lanes.seat

  -- what the seats have placed, and what is left to them, is all that they have
  lists-snoc : (h : List Entry) (e : Entry) (m : ℕ) (steps steps' script : List MergeStep) (step : MergeStep) (n : ℕ) → (b : Bool) → (e.seat == n) ≡ b → (b ≡ true → (steps ≡ step ∷ steps') × (e ≡ step_entry n s.switches step)) → (b ≡ false → steps ≡ steps')
      → entries_of (λ k. k == n) h ++ step_entries n s.switches steps ≡ step_entries n s.switches script
      → entries_of (λ k. k == n) (h ++ e ∷ []) ++ step_entries n s.switches steps' ≡ step_entries n s.switches script
  lists-snoc h e m steps steps' script step n true is own other all =
      let o = own refl in
      let p : Entry → Bool = λ x. x.seat == n in
      let one : filter p (e ∷ []) ≡ e ∷ [] = filter_yes p e [] is in
      let it : step_entries n s.switches steps ≡ e ∷ step_entries n s.switches steps' = ap (step_entries n s.switches) o.0 ∙ ap (λ (z : Entry). z ∷ step_entries n s.switches steps') (sym o.1) in
      ap (λ (z : List Entry). z ++ step_entries n s.switches steps') (filter-append p h (e ∷ []) ∙ ap (λ (z : List Entry). filter p h ++ z) one)
      ∙ (append_assoc (filter p h) (e ∷ []) (step_entries n s.switches steps') ∙ (ap (λ (z : List Entry). filter p h ++ z) (sym it) ∙ all))
  lists-snoc h e m steps steps' script step n false is own other all =
      let p : Entry → Bool = λ x. x.seat == n in
      let none : filter p (e ∷ []) ≡ [] = filter_no p e [] is in
      ap (λ (z : List Entry). z ++ step_entries n s.switches steps') (filter-append p h (e ∷ []) ∙ (ap (λ (z : List Entry). filter p h ++ z) none ∙ append-nil (filter p h)))
      ∙ (ap (λ (z : List MergeStep). filter p h ++ step_entries n s.switches z) (sym (other refl)) ∙ all)

  module _ (apart : (l m : ℕ) → l < many → m < many → seat l ≡ seat m → l ≡ m)
      (history : List Entry) (rest rest' : ℕ → List MergeStep) (m : ℕ) (step : MergeStep) (steps : List MergeStep)
      (low : m < many) (at : rest m ≡ step ∷ steps) (here : rest' m ≡ steps) (others : (l : ℕ) → l ≢ m → rest' l ≡ rest l)
      (e : Entry) (own : e.seat ≡ seat m) (entry_is : e ≡ step_entry (seat m) s.switches step) where
    -- the history with the entry
    abbrev next : List Entry
    next = history ++ e ∷ []

    -- a lane is the one that goes on, or not
    same_or_other : (l : ℕ) → (l ≡ m) ⊎ (l ≢ m)
    same_or_other l = grind arith

    -- another lane is of another seat
    other-seat : (l : ℕ) → l < many → l ≢ m → e.seat ≢ seat l
    other-seat l lt ne = λ is. ne (apart l m lt low (sym is ∙ own))

    -- what is placed of a lane and what is left to it are still its script
    pub lists-next : ((l : ℕ) → l < many → entries_of (λ n. n == seat l) history ++ step_entries (seat l) s.switches (rest l) ≡ step_entries (seat l) s.switches (lanes.script l))
        → (l : ℕ) → l < many → entries_of (λ n. n == seat l) next ++ step_entries (seat l) s.switches (rest' l) ≡ step_entries (seat l) s.switches (lanes.script l)
    lists-next all l lt = elim (same_or_other l) [
      | inl is ↦ subst (λ (k : ℕ). entries_of (λ n. n == seat k) next ++ step_entries (seat k) s.switches (rest' k) ≡ step_entries (seat k) s.switches (lanes.script k)) (sym is)
          (let yes' : (e.seat == seat m) ≡ true = grind (arith, nat_tests) in
          lists-snoc history e m (rest m) (rest' m) (lanes.script m) step (seat m) true yes' (λ _. (at ∙ ap (λ (z : List MergeStep). step ∷ z) (sym here), entry_is)) (λ no. absurd (cc)) (all m low))
      | inr ne ↦
          let off = other-seat l lt ne in
          let no : (e.seat == seat l) ≡ false = grind (arith, nat_tests) in
          lists-snoc history e m (rest l) (rest' l) (lanes.script l) step (seat l) false no (λ yes'. absurd (cc)) (λ _. sym (others l ne)) (all l lt)
    ]

    -- each entry is still a lane's
    pub others-next : AtEach (λ before x. (l : ℕ) × (l < many) × (x.seat ≡ seat l)) history → AtEach (λ before x. (l : ℕ) × (l < many) × (x.seat ≡ seat l)) next
    others-next all = at_each-snoc (λ before x. (l : ℕ) × (l < many) × (x.seat ≡ seat l)) history e all (m, low, own)

    -- what was quiet stays quiet
    pub quiet-next : ((slot r : ℕ) → r < changes_on slot next → (l : ℕ) → l < many → held_by slot r (rest l) ≡ 0) → (slot r : ℕ) → r < changes_on slot next → (l : ℕ) → l < many → held_by slot r (rest' l) ≡ 0
    quiet-next old slot r lt l low' = elim (same_or_other l) [
      | inl is ↦ subst (λ (k : ℕ). held_by slot r (rest' k) ≡ 0) (sym is) (subst (λ (z : List MergeStep). held_by slot r z ≡ 0) (sym here) (held-less slot r step steps (subst (λ (z : List MergeStep). held_by slot r z ≡ 0) at (old slot r lt m low))))
      | inr ne ↦ subst (λ (z : List MergeStep). held_by slot r z ≡ 0) (sym (others l ne)) (old slot r lt l low')
    ]

    -- a justified next step of another lane stays so
    earned-other : (n : ℕ) (xs : List MergeStep) → e.seat ≢ n → NextIsJustified n history xs → NextIsJustified n next xs
    earned-other n [] other x = tt
    earned-other n (TurnLook ∷ xs) other x = tt
    earned-other n (Item d ∷ xs) other x = λ slot is. last-longer slot n d.first history e other (x slot is)

    -- and that of this lane is justified, since it was held
    earned-own : ((slot r : ℕ) → r < changes_on slot next → held_by slot r (step ∷ steps) ≡ 0) → (xs : List MergeStep) → steps ≡ xs → NextIsJustified (seat m) next xs
    earned-own old [] is = tt
    earned-own old (TurnLook ∷ xs) is = tt
    earned-own old (Item d ∷ xs) is = λ slot act.
        let held : 1 ≤ held_by slot d.first (step ∷ steps) = subst (λ (z : List MergeStep). 1 ≤ held_by slot d.first (step ∷ z)) (sym is) (held-stop slot step d xs act) in
        let few : changes_on slot next ≤ d.first = bound (changes_on slot next) d.first (held_by slot d.first (step ∷ steps)) held (old slot d.first) in
        record { until = next; since = []; is = sym (append-nil next); none = tt; few = few }
      where
        bound : (a b h : ℕ) → 1 ≤ h → (b < a → h ≡ 0) → a ≤ b
        bound a b h some none = elim (decide a b) [ inl le ↦ le | inr lt ↦ absurd (let z = none lt in omega arith) ]
          where
            decide : (a b : ℕ) → (a ≤ b) ⊎ (b < a)
            decide a b = grind arith

    -- so the next step of each lane is justified
    pub earned-next : ((slot r : ℕ) → r < changes_on slot next → (l : ℕ) → l < many → held_by slot r (rest l) ≡ 0) → ((l : ℕ) → l < many → NextIsJustified (seat l) history (rest l)) → (l : ℕ) → l < many → NextIsJustified (seat l) next (rest' l)
    earned-next old all l lt = elim (same_or_other l) [
      | inl is ↦ subst (λ (k : ℕ). NextIsJustified (seat k) next (rest' k)) (sym is) (subst (NextIsJustified (seat m) next) (sym here)
          (earned-own (λ slot r less. subst (λ (z : List MergeStep). held_by slot r z ≡ 0) at (old slot r less m low)) steps refl))
      | inr ne ↦ subst (NextIsJustified (seat l) next) (sym (others l ne)) (earned-other (seat l) (rest l) (other-seat l lt ne) (all l lt))
    ]
