-- One entry more, and a mark that is placed: what they change of what is placed and of what is left.
use Rattle.std.proofs.Common.{◌≡◌, ◌≢◌, ℕ, ◌<◌, Bool, true, false, List, [], ◌∷◌, ◌++◌, length, map, refl, sym, ap, ◌∙◌, arith, append_assoc}
use Rattle.std.specs.Prelude.{filter}
use Rattle.std.proofs.lemmas.Bool.Decides.{nat_tests}
use Rattle.std.proofs.lemmas.List.{map-append, length-map, append-nil}
use Rattle.std.proofs.lemmas.List.Elements.{filter-append}
use Rattle.rv_model.specs.declared.entry.Entry.{Entry}
use Rattle.rv_model.specs.Histories.{changed}
use Rattle.rv_model.specs.Setups.{Setup}
use Rattle.rv_core.specs.Setup.{FitsAct}
use Rattle.rv_journal.specs.declared.counted.Counted.{Counted}
use Rattle.rv_journal.specs.declared.steps.MergeStep.{MergeStep}
use Rattle.rv_journal.specs.declared.steps.MergeStep.TheVariants.{Item}
use Rattle.rv_journal.specs.MergeSteps.{items_of, changes_on}
use Rattle.rv_journal.specs.MergeStates.{entries_in, StandsAs}
use Rattle.rv_journal.specs.inner.MergeStates.{Mark, mark, items_in, entry_in, is_left, IsItemAct, AreKnownItems, Divides, Lanes, IsUnderWay}
use Rattle.rv_journal.proofs.MarkLemmas.{filter_yes, filter_no, first-left, next-open}
use Rattle.rv_journal.proofs.PlaceLemmas.{changes-marks, changes-snoc}

-- ---- what an entry adds

-- an entry that changes nothing of a slot
pub changes-calm : (slot : ℕ) (h : List Entry) (e : Entry) → changed slot e ≡ false → filter (changed slot) (h ++ e ∷ []) ≡ filter (changed slot) h
changes-calm slot h e calm = changes-snoc slot h e false calm ∙ append-nil (filter (changed slot) h)

-- an entry that changes it
pub changes-more : (slot : ℕ) (h : List Entry) (e : Entry) → changed slot e ≡ true → filter (changed slot) (h ++ e ∷ []) ≡ filter (changed slot) h ++ e ∷ []
changes-more slot h e is = changes-snoc slot h e true is

-- what stands in the history stands in a longer one
pub stands-longer : (h before : List Entry) (e x : Entry) → StandsAs h before x → StandsAs (h ++ e ∷ []) before x
stands-longer h before e x st = record { front = st.front; back = st.back ++ e ∷ []; is = ap (λ (z : List Entry). z ++ e ∷ []) st.is ∙ append_assoc st.front (x ∷ st.back) (e ∷ []); changes_are = st.changes_are }

-- an entry that does not change a slot leaves what is divided
pub divides-calm : (slot : ℕ) (h : List Entry) (e : Entry) (marks : List Mark) → changed slot e ≡ false → Divides slot h marks → Divides slot (h ++ e ∷ []) marks
divides-calm slot h e marks calm d = record { done = d.done; todo = d.todo; marks_are = d.marks_are; history_is = changes-calm slot h e calm ∙ d.history_is }

-- ---- a mark that is placed

-- no items are lost by it
pub items-placed : (front back : List Mark) (c : Counted) → items_in (front ++ mark true c ∷ back) ≡ items_in (front ++ mark false c ∷ back)
items-placed front back c = map-append (λ (m : Mark). m.item) front (mark true c ∷ back) ∙ sym (map-append (λ (m : Mark). m.item) front (mark false c ∷ back))

-- it is no longer left
pub left-placed : (n : ℕ) (front back : List Mark) (c : Counted) → filter (is_left n) (front ++ mark true c ∷ back) ≡ filter (is_left n) front ++ filter (is_left n) back
left-placed n front back c = filter-append (is_left n) front (mark true c ∷ back) ∙ ap (λ (z : List Mark). filter (is_left n) front ++ z) (filter_no (is_left n) (mark true c) back refl)

-- it was not left to another seat
pub left-other : (n : ℕ) (front back : List Mark) (c : Counted) → c.entry.seat ≢ n → filter (is_left n) (front ++ mark false c ∷ back) ≡ filter (is_left n) front ++ filter (is_left n) back
left-other n front back c other =
    let out : is_left n (mark false c) ≡ false = grind (arith, nat_tests) in
    filter-append (is_left n) front (mark false c ∷ back) ∙ ap (λ (z : List Mark). filter (is_left n) front ++ z) (filter_no (is_left n) (mark false c) back out)

-- on a slot that it does not change nothing changes
pub divides-off : (slot : ℕ) (h : List Entry) (front back : List Mark) (c : Counted) → changed slot c.entry ≡ false → Divides slot h (front ++ mark false c ∷ back) → Divides slot h (front ++ mark true c ∷ back)
divides-off slot h front back c off d =
    let p : Mark → Bool = λ m. changed slot (entry_in m) in
    let now : filter p (front ++ mark true c ∷ back) ≡ filter p front ++ filter p back = filter-append p front (mark true c ∷ back) ∙ ap (λ (z : List Mark). filter p front ++ z) (filter_no p (mark true c) back off) in
    let was : filter p (front ++ mark false c ∷ back) ≡ filter p front ++ filter p back = filter-append p front (mark false c ∷ back) ∙ ap (λ (z : List Mark). filter p front ++ z) (filter_no p (mark false c) back off) in
    record { done = d.done; todo = d.todo; marks_are = now ∙ (sym was ∙ d.marks_are); history_is = d.history_is }

-- on the slot that it changes it is the first of those that were not placed
pub divides-on : (slot : ℕ) (h : List Entry) (front back : List Mark) (c : Counted) → changed slot c.entry ≡ true → changes_on slot (entries_in (items_in front)) ≡ changes_on slot h
    → Divides slot h (front ++ mark false c ∷ back) → Divides slot (h ++ c.entry ∷ []) (front ++ mark true c ∷ back)
divides-on slot h front back c on many d =
    let p : Mark → Bool = λ m. changed slot (entry_in m) in
    let now : filter p (front ++ mark true c ∷ back) ≡ filter p front ++ mark true c ∷ filter p back = filter-append p front (mark true c ∷ back) ∙ ap (λ (z : List Mark). filter p front ++ z) (filter_yes p (mark true c) back on) in
    let was : filter p (front ++ mark false c ∷ back) ≡ filter p front ++ mark false c ∷ filter p back = filter-append p front (mark false c ∷ back) ∙ ap (λ (z : List Mark). filter p front ++ z) (filter_yes p (mark false c) back on) in
    let count : length (filter p front) ≡ length d.done = changes-marks slot front ∙ (many ∙ (ap length d.history_is ∙ length-map d.done (λ (x : Counted). x.entry))) in
    let n = next-open (filter p front) c (filter p back) d.done d.todo (sym was ∙ d.marks_are) count in
    record {
      done = d.done ++ c ∷ [];
      todo = n.rest;
      marks_are = now ∙ (ap (λ (z : List Mark). z ++ mark true c ∷ filter p back) n.front_is ∙ (ap (λ (z : List Mark). map (mark true) d.done ++ mark true c ∷ z) n.back_is
          ∙ (sym (append_assoc (map (mark true) d.done) (mark true c ∷ []) (map (mark false) n.rest)) ∙ ap (λ (z : List Mark). z ++ map (mark false) n.rest) (sym (map-append (mark true) d.done (c ∷ []))))));
      history_is = changes-more slot h c.entry on ∙ (ap (λ (z : List Entry). z ++ c.entry ∷ []) d.history_is ∙ sym (map-append (λ (x : Counted). x.entry) d.done (c ∷ [])));
    }

-- the next item of a lane is an item's act, which fits
pub next-told : (s : Setup) (whole : List Counted) (lanes : Lanes) → AreKnownItems s whole → (history : List Entry) (rest : ℕ → List MergeStep) → IsUnderWay s whole lanes history rest → (m : ℕ) → m < lanes.many → (c : Counted) (steps : List MergeStep) → rest m ≡ Item c ∷ steps → IsItemAct c.entry.act × FitsAct s c.entry.act
next-told s whole lanes observed history rest u m low c steps at =
    let first = first-left (lanes.seat m) u.marks c (items_of steps) (sym (u.left m low) ∙ ap items_of at) in
    let cut : whole ≡ items_in first.front ++ c ∷ items_in first.back = sym u.marks_are ∙ (ap items_in first.is ∙ map-append (λ (x : Mark). x.item) first.front (mark false c ∷ first.back)) in
    let t = observed (items_in first.front) c (items_in first.back) cut in
    (t.item_act, t.fits)
