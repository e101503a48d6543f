-- The first item that is not placed: what is known of it, and that its version is the one that its slot has.
use Rattle.std.proofs.Common.{◌≡◌, ℕ, ◌+◌, ◌<◌, ◌≤◌, ◌==◌, Bool, true, false, List, ◌∷◌, ◌++◌, ◌⊎◌, inl, inr, length, map, refl, sym, ap, ◌∙◌, subst, arith}
use Rattle.std.specs.Prelude.{filter}
use Rattle.std.proofs.lemmas.Bool.Decides.{nat_tests}
use Rattle.std.proofs.lemmas.List.{map-append, length-map}
use Rattle.std.proofs.lemmas.List.Elements.{filter-append}
use Rattle.rv_model.specs.declared.entry.Entry.{Entry}
use Rattle.rv_model.specs.Histories.{changed}
use Rattle.rv_model.specs.Setups.{Setup}
use Rattle.rv_journal.specs.declared.counted.Counted.{Counted}
use Rattle.rv_journal.specs.declared.steps.MergeStep.{MergeStep}
use Rattle.rv_journal.specs.declared.steps.MergeStep.TheVariants.{Item}
use Rattle.rv_journal.specs.MergeSteps.{slot_in, items_of, version, leaves, changes_on}
use Rattle.rv_journal.specs.inner.MergeSteps.{leaves_in, leaving, losing, held_by}
use Rattle.rv_journal.specs.MergeStates.{entries_in}
use Rattle.rv_journal.specs.inner.MergeStates.{Mark, mark, items_in, entry_in, IsKnownItem, AreKnownItems, Lanes, IsUnderWay}
use Rattle.rv_journal.proofs.MarkLemmas.{filter_yes, FirstOpen, placed-filter, placed-few, open-behind}
use Rattle.rv_journal.proofs.SlotActLemmas.{is_on-slot}
use Rattle.rv_journal.proofs.PlaceLemmas.{changes-marks}

module _ (s : Setup) (whole : List Counted) (lanes : Lanes) (observed : AreKnownItems s whole)
    (history : List Entry) (rest : ℕ → List MergeStep) (u : IsUnderWay s whole lanes history rest) where
  module _ (f : FirstOpen u.marks) where
    -- what is known of the item of a mark
    pub told-at : (b : List Mark) (placed : Bool) (d : Counted) (a : List Mark) → u.marks ≡ b ++ mark placed d ∷ a → IsKnownItem s (entries_in (items_in b)) d
    told-at b placed d a eq = observed (items_in b) d (items_in a) (sym u.marks_are ∙ (ap items_in eq ∙ map-append (λ (x : Mark). x.item) b (mark placed d ∷ a)))

    -- what is known of the item
    pub told_is : IsKnownItem s (entries_in (items_in f.front)) f.item
    told_is = told-at f.front false f.item f.back f.is

    -- the entries of a list that is cut
    pub entries-cut : (a : List Mark) (placed : Bool) (d : Counted) (b : List Mark) → entries_in (items_in (a ++ mark placed d ∷ b)) ≡ entries_in (items_in a) ++ d.entry ∷ entries_in (items_in b)
    entries-cut a placed d b = ap entries_in (map-append (λ (x : Mark). x.item) a (mark placed d ∷ b)) ∙ map-append (λ (x : Counted). x.entry) (items_in a) (d ∷ items_in b)

    -- the changes of its slot before it are placed
    parts : filter (λ m. changed (slot_in f.item.entry.act) (entry_in m)) f.front ++ filter (λ m. changed (slot_in f.item.entry.act) (entry_in m)) (mark false f.item ∷ f.back) ≡ map (mark true) (u.divides (slot_in f.item.entry.act)).done ++ map (mark false) (u.divides (slot_in f.item.entry.act)).todo
    parts = sym (filter-append (λ m. changed (slot_in f.item.entry.act) (entry_in m)) f.front (mark false f.item ∷ f.back)) ∙ (sym (ap (filter (λ m. changed (slot_in f.item.entry.act) (entry_in m))) f.is) ∙ (u.divides (slot_in f.item.entry.act)).marks_are)

    -- as many are done as the history has
    count : length (u.divides (slot_in f.item.entry.act)).done ≡ changes_on (slot_in f.item.entry.act) history
    count = sym (length-map (u.divides (slot_in f.item.entry.act)).done (λ (x : Counted). x.entry)) ∙ sym (ap length (u.divides (slot_in f.item.entry.act)).history_is)

    -- its rank is no more than these
    pub version-le : version f.item ≤ changes_on (slot_in f.item.entry.act) history
    version-le =
        let few = placed-few (filter (λ m. changed (slot_in f.item.entry.act) (entry_in m)) f.front) (filter (λ m. changed (slot_in f.item.entry.act) (entry_in m)) (mark false f.item ∷ f.back)) (u.divides (slot_in f.item.entry.act)).done (u.divides (slot_in f.item.entry.act)).todo parts (placed-filter (λ m. changed (slot_in f.item.entry.act) (entry_in m)) f.front f.placed) in
        let n = changes-marks (slot_in f.item.entry.act) f.front in
        let r = told_is.rank_is in
        let k = count in
        omega arith

    -- it changes its slot unless it leaves the word
    pub changes : leaves f.item.entry ≡ false → changed (slot_in f.item.entry.act) f.item.entry ≡ true
    changes differs = rw (is_on-slot f.item.entry.act told_is.item_act, differs) refl

    -- it has no more changes before it than its rank
    pub version-ge : (l : ℕ) → l < lanes.many → (steps : List MergeStep) → rest l ≡ Item f.item ∷ steps → changes_on (slot_in f.item.entry.act) history ≤ version f.item
    version-ge l low steps at = by (leaves f.item.entry) refl
      where
        decide : (a b : ℕ) → (a ≤ b) ⊎ (b < a)
        decide a b = grind arith

        by : (b : Bool) → leaves f.item.entry ≡ b → changes_on (slot_in f.item.entry.act) history ≤ version f.item
        by false differs =
            let on = changes differs in
            let open' = subst (λ (z : List Mark). filter (λ m. changed (slot_in f.item.entry.act) (entry_in m)) f.front ++ z ≡ map (mark true) (u.divides (slot_in f.item.entry.act)).done ++ map (mark false) (u.divides (slot_in f.item.entry.act)).todo) (filter_yes (λ m. changed (slot_in f.item.entry.act) (entry_in m)) (mark false f.item) f.back on) parts in
            let le = open-behind (filter (λ m. changed (slot_in f.item.entry.act) (entry_in m)) f.front) f.item (filter (λ m. changed (slot_in f.item.entry.act) (entry_in m)) f.back) (u.divides (slot_in f.item.entry.act)).done (u.divides (slot_in f.item.entry.act)).todo open' in
            let n = changes-marks (slot_in f.item.entry.act) f.front in
            let r = told_is.rank_is in
            let k = count in
            omega arith
        by true yes' = elim (decide (changes_on (slot_in f.item.entry.act) history) (version f.item)) [
          | inl le ↦ le
          | inr lt ↦
              let none : held_by (slot_in f.item.entry.act) (version f.item) (Item f.item ∷ steps) ≡ 0 = subst (λ (z : List MergeStep). held_by (slot_in f.item.entry.act) (version f.item) z ≡ 0) at (u.quiet (slot_in f.item.entry.act) (version f.item) lt l low) in
              let same_slot : (slot_in f.item.entry.act == slot_in f.item.entry.act) ≡ true = grind (arith, nat_tests) in
              let same_rank : (version f.item == version f.item) ≡ true = grind (arith, nat_tests) in
              let one : leaves_in (slot_in f.item.entry.act) (version f.item) f.item ≡ 1 = rw (yes', same_slot, same_rank) refl in
              let sum : (leaves_in (slot_in f.item.entry.act) (version f.item) f.item + leaving (slot_in f.item.entry.act) (version f.item) (items_of steps)) + losing (slot_in f.item.entry.act) (version f.item) (items_of steps) ≡ 0 = none in
              absurd (omega arith)
        ]
