-- A look, or an item that may be placed, is placed, and the merge is still under way.
use Rattle.std.proofs.Common.{◌≡◌, ◌≢◌, ℕ, ◌<◌, ◌≤◌, ◌==◌, Bool, true, false, not, List, [], ◌∷◌, ◌++◌, ◌⊎◌, inl, inr, length, refl, sym, ap, ◌∙◌, subst, arith, append_assoc, length-append}
use Rattle.std.specs.Prelude.{filter}
use Rattle.std.proofs.lemmas.Bool.{and_parts}
use Rattle.std.proofs.lemmas.List.{map-append}
use Rattle.rv_model.specs.declared.entry.Act.TheVariants.{Stop}
use Rattle.rv_model.specs.declared.entry.Entry.{Entry}
use Rattle.rv_model.specs.Cuts.{AtEach}
use Rattle.rv_model.specs.Histories.{FitsWords, is_on, changed}
use Rattle.rv_model.specs.Setups.{Setup}
use Rattle.rv_model.proofs.CutLemmas.{at_each-snoc, at_each-front}
use Rattle.rv_core.specs.Setup.{FitsAct, judges_of}
use Rattle.rv_board.proofs.SoundLemmas.{sound-snoc}
use Rattle.rv_journal.specs.declared.counted.Counted.{Counted}
use Rattle.rv_journal.specs.declared.steps.MergeStep.{MergeStep}
use Rattle.rv_journal.specs.declared.steps.MergeStep.TheVariants.{TurnLook, Item}
use Rattle.rv_journal.specs.MergeSteps.{slot_in, items_of, version, leaves, changes_on}
use Rattle.rv_journal.specs.inner.MergeSteps.{held_by, MayPlace}
use Rattle.rv_journal.specs.MergeStates.{entries_in, StandsAs}
use Rattle.rv_journal.specs.inner.MergeStates.{Mark, mark, items_in, is_left, IsMergedAct, IsKnownItem, AreKnownItems, Divides, LastBy, NextIsJustified, Lanes, IsUnderWay}
use Rattle.rv_journal.proofs.MarkLemmas.{same, earlier, later, compare, first-left, FirstLeft}
use Rattle.rv_journal.proofs.SlotActLemmas.{slot_in-is, machine-snoc}
use Rattle.rv_journal.proofs.PlaceLemmas.{same-entries, fits-there, look_entry, look-fits, earned-there, held-item, merged-item}
use Rattle.rv_journal.proofs.UnderWayLemmas.{told-replays, lists-next, others-next, quiet-next, earned-next}
use Rattle.rv_journal.proofs.AddedLemmas.{changes-calm, changes-more, stands-longer, divides-calm, items-placed, left-placed, left-other, divides-off, divides-on}

module _ (s : Setup) (whole : List Counted) (lanes : Lanes) (observed : AreKnownItems s whole) (apart : (l m : ℕ) → l < lanes.many → m < lanes.many → lanes.seat l ≡ lanes.seat m → l ≡ m)
    (history : List Entry) (rest rest' : ℕ → List MergeStep) (u : IsUnderWay s whole lanes history rest) (m : ℕ) (steps : List MergeStep) (low : m < lanes.many) (here : rest' m ≡ steps) (others : (l : ℕ) → l ≢ m → rest' l ≡ rest l) where
  -- this lane or another
  same_or_other : (l : ℕ) → (l ≡ m) ⊎ (l ≢ m)
  same_or_other l = grind arith

  -- with a look the merge is under way
  pub look-placed : rest m ≡ TurnLook ∷ steps → lanes.seat m < 67 → IsUnderWay s whole lanes (history ++ look_entry (lanes.seat m) s.switches ∷ []) rest'
  look-placed at small =
      let e : Entry = look_entry (lanes.seat m) s.switches in
      let next : List Entry = history ++ e ∷ [] in
      let same_count : (slot : ℕ) → changes_on slot next ≡ changes_on slot history = λ slot. ap length (changes-calm slot history e refl) in
      let old : (slot r : ℕ) → r < changes_on slot next → (l : ℕ) → l < lanes.many → held_by slot r (rest l) ≡ 0 = λ slot r lt. u.quiet slot r (let c = same_count slot in omega arith) in
      record {
        marks = u.marks;
        marks_are = u.marks_are;
        left = λ l lt. elim (same_or_other l) [
          | inl is ↦ subst (λ (k : ℕ). items_of (rest' k) ≡ items_in (filter (is_left (lanes.seat k)) u.marks)) (sym is) (ap items_of here ∙ (sym (ap items_of at) ∙ u.left m low))
          | inr ne ↦ ap items_of (others l ne) ∙ u.left l lt
        ];
        divides = λ slot. divides-calm slot history e u.marks refl (u.divides slot);
        quiet = quiet-next s lanes apart history rest rest' m TurnLook steps low at here others e refl refl old;
        justified = earned-next s lanes apart history rest rest' m TurnLook steps low at here others e refl refl old u.justified;
        stands = λ before c after eq. stands-longer history (entries_in (items_in before)) e c.entry (u.stands before c after eq);
        machine = machine-snoc s history e u.machine tt tt tt;
        sound = sound-snoc s (judges_of s) history e u.sound (look-fits s (lanes.seat m) history u.machine.is_setup u.acts) tt small tt;
        acts = at_each-snoc (λ before x. IsMergedAct x.act) history e u.acts tt;
        fits = at_each-snoc (λ before x. FitsAct s x.act) history e u.fits tt;
        others = others-next s lanes apart history rest rest' m TurnLook steps low at here others e refl refl u.others;
        lists = lists-next s lanes apart history rest rest' m TurnLook steps low at here others e refl refl u.lists;
      }

  -- ---- an item
  module _ (c : Counted) (at : rest m ≡ Item c ∷ steps) (may : MayPlace lanes.many history rest (Item c)) where
    -- it is the lane's first item that is left
    first : FirstLeft (lanes.seat m) u.marks c (items_of steps)
    first = first-left (lanes.seat m) u.marks c (items_of steps) (sym (u.left m low) ∙ ap items_of at)

    -- the whole list is cut at it
    cut : whole ≡ items_in first.front ++ c ∷ items_in first.back
    cut = sym u.marks_are ∙ (ap items_in first.is ∙ map-append (λ (x : Mark). x.item) first.front (mark false c ∷ first.back))

    -- what is known of it
    told_is : IsKnownItem s (entries_in (items_in first.front)) c
    told_is = observed (items_in first.front) c (items_in first.back) cut

    -- its slot has as many changes before it as in the history
    many_is : changes_on (slot_in c.entry.act) (entries_in (items_in first.front)) ≡ changes_on (slot_in c.entry.act) history
    many_is = sym told_is.rank_is ∙ may.0

    -- what is divided, by its place
    divided : (slot : ℕ) → Divides slot history (first.front ++ mark false c ∷ first.back)
    divided slot = subst (Divides slot history) first.is (u.divides slot)

    -- and the same ones
    same_changes : filter (changed (slot_in c.entry.act)) history ≡ filter (changed (slot_in c.entry.act)) (entries_in (items_in first.front))
    same_changes = same-entries (slot_in c.entry.act) history first.front (mark false c ∷ first.back) (divided (slot_in c.entry.act)) many_is

    -- the entries before it replay
    replays : AtEach (FitsWords s (judges_of s)) (entries_in (items_in first.front))
    replays = at_each-front (FitsWords s (judges_of s)) (entries_in (items_in first.front)) (c.entry ∷ entries_in (items_in first.back))
        (subst (AtEach (FitsWords s (judges_of s))) (ap entries_in cut ∙ map-append (λ (x : Counted). x.entry) (items_in first.front) (c ∷ items_in first.back)) (told-replays s whole observed))

    -- its words fit the history
    fits : FitsWords s (judges_of s) history c.entry
    fits = fits-there s (entries_in (items_in first.front)) history c told_is replays u.machine u.sound.replays same_changes

    -- what is not false is true
    not_leaves : (b : Bool) → not b ≡ true → b ≡ false
    not_leaves true y = absurd (let wrong : false ≡ true = y in cc)
    not_leaves false y = refl

    -- where it changes a slot, that is its own, which no lane holds
    on-own : (slot : ℕ) → changed slot c.entry ≡ true → (slot_in c.entry.act ≡ slot) × (leaves c.entry ≡ false)
    on-own slot on =
        let parts = and_parts (is_on slot c.entry.act) (not (c.entry.before == c.entry.after)) on in
        (slot_in-is slot c.entry.act parts.0, not_leaves (c.entry.before == c.entry.after) parts.1)

    -- each slot is divided behind it
    divides-next : (slot : ℕ) → Divides slot (history ++ c.entry ∷ []) (first.front ++ mark true c ∷ first.back)
    divides-next slot = go (changed slot c.entry) refl
      where
        go : (b : Bool) → changed slot c.entry ≡ b → Divides slot (history ++ c.entry ∷ []) (first.front ++ mark true c ∷ first.back)
        go true on =
            let own = on-own slot on in
            divides-on slot history first.front first.back c on (subst (λ (n : ℕ). changes_on n (entries_in (items_in first.front)) ≡ changes_on n history) own.0 many_is) (divided slot)
        go false off = divides-calm slot history c.entry (first.front ++ mark true c ∷ first.back) off (divides-off slot history first.front first.back c off (divided slot))

    -- what it closes was held by nobody
    old : (slot r : ℕ) → r < changes_on slot (history ++ c.entry ∷ []) → (l : ℕ) → l < lanes.many → held_by slot r (rest l) ≡ 0
    old slot r lt = go (changed slot c.entry) refl
      where
        go : (b : Bool) → changed slot c.entry ≡ b → (l : ℕ) → l < lanes.many → held_by slot r (rest l) ≡ 0
        go false off = let n = ap length (changes-calm slot history c.entry off) in u.quiet slot r (omega arith)
        go true on =
            let own = on-own slot on in
            let n = ap length (changes-more slot history c.entry on) ∙ length-append (filter (changed slot) history) (c.entry ∷ []) in
            let rank_is : version c ≡ changes_on slot history = subst (λ (k : ℕ). version c ≡ changes_on k history) own.0 may.0 in
            let none : (l : ℕ) → l < lanes.many → held_by slot (version c) (rest l) ≡ 0 = subst (λ (k : ℕ). (l : ℕ) → l < lanes.many → held_by k (version c) (rest l) ≡ 0) own.0 (may.1 own.1) in
            elim (decide r (changes_on slot history)) [
              | inl less ↦ u.quiet slot r less
              | inr more ↦ let it : version c ≡ r = omega arith in subst (λ (k : ℕ). (l : ℕ) → l < lanes.many → held_by slot k (rest l) ≡ 0) it none
            ]
          where
            decide : (a b : ℕ) → (a < b) ⊎ (b ≤ a)
            decide a b = grind arith

    -- what is placed stands in the longer history
    stands-next : (b : List Mark) (x : Counted) (a : List Mark) → first.front ++ mark true c ∷ first.back ≡ b ++ mark true x ∷ a → StandsAs (history ++ c.entry ∷ []) (entries_in (items_in b)) x.entry
    stands-next b x a eq = elim (compare first.front (mark true c) first.back b (mark true x) a eq) [
      | same p q r ↦
          let it : c ≡ x = ap (λ (z : Mark). z.item) q in
          let mine : StandsAs (history ++ c.entry ∷ []) (entries_in (items_in first.front)) c.entry = record { front = history; back = []; is = refl; changes_are = same_changes } in
          subst (λ (z : List Mark). StandsAs (history ++ c.entry ∷ []) (entries_in (items_in z)) x.entry) p (subst (λ (z : Counted). StandsAs (history ++ c.entry ∷ []) (entries_in (items_in first.front)) z.entry) it mine)
      | earlier mid p q ↦
          let was : u.marks ≡ (first.front ++ mark false c ∷ mid) ++ mark true x ∷ a = first.is ∙ (ap (λ (z : List Mark). first.front ++ mark false c ∷ z) q ∙ sym (append_assoc first.front (mark false c ∷ mid) (mark true x ∷ a))) in
          let st = stands-longer history (entries_in (items_in (first.front ++ mark false c ∷ mid))) c.entry x.entry (u.stands (first.front ++ mark false c ∷ mid) x a was) in
          subst (λ (z : List Counted). StandsAs (history ++ c.entry ∷ []) (entries_in z) x.entry) (sym (items-placed first.front mid c) ∙ ap items_in (sym p)) st
      | later mid p q ↦
          let was : u.marks ≡ b ++ mark true x ∷ (mid ++ mark false c ∷ first.back) = first.is ∙ (ap (λ (z : List Mark). z ++ mark false c ∷ first.back) p ∙ append_assoc b (mark true x ∷ mid) (mark false c ∷ first.back)) in
          stands-longer history (entries_in (items_in b)) c.entry x.entry (u.stands b x (mid ++ mark false c ∷ first.back) was)
    ]

    -- each lane is left the others
    left-next : (l : ℕ) → l < lanes.many → items_of (rest' l) ≡ items_in (filter (is_left (lanes.seat l)) (first.front ++ mark true c ∷ first.back))
    left-next l lt = elim (same_or_other l) [
      | inl is ↦ subst (λ (k : ℕ). items_of (rest' k) ≡ items_in (filter (is_left (lanes.seat k)) (first.front ++ mark true c ∷ first.back))) (sym is)
          (ap items_of here ∙ (sym first.others ∙ ap items_in (sym (left-placed (lanes.seat m) first.front first.back c ∙ ap (λ (z : List Mark). z ++ filter (is_left (lanes.seat m)) first.back) first.none))))
      | inr ne ↦
          let off : c.entry.seat ≢ lanes.seat l = λ own. ne (apart l m lt low (sym own ∙ first.own)) in
          ap items_of (others l ne) ∙ (u.left l lt ∙ ap items_in (ap (filter (is_left (lanes.seat l))) first.is ∙ (left-other (lanes.seat l) first.front first.back c off ∙ sym (left-placed (lanes.seat l) first.front first.back c))))
    ]

    -- a Stop of it is justified
    earned_is : (slot : ℕ) → c.entry.act ≡ Stop slot → LastBy slot c.entry.seat c.first history
    earned_is slot is = subst (λ (n : ℕ). LastBy slot n c.first history) (sym first.own) ((subst (NextIsJustified (lanes.seat m) history) at (u.justified m low)) slot is)

    -- the merge is under way with it
    pub item-placed : IsUnderWay s whole lanes (history ++ c.entry ∷ []) rest'
    item-placed = record {
      marks = first.front ++ mark true c ∷ first.back;
      marks_are = items-placed first.front first.back c ∙ (sym (ap items_in first.is) ∙ u.marks_are);
      left = left-next;
      divides = divides-next;
      quiet = quiet-next s lanes apart history rest rest' m (Item c) steps low at here others c.entry first.own refl old;
      justified = earned-next s lanes apart history rest rest' m (Item c) steps low at here others c.entry first.own refl old u.justified;
      stands = stands-next;
      machine = machine-snoc s history c.entry u.machine (merged-item c.entry.act told_is.item_act) told_is.fits told_is.bits;
      sound = sound-snoc s (judges_of s) history c.entry u.sound fits (earned-there s (entries_in (items_in first.front)) history c told_is many_is earned_is) told_is.low (held-item c.entry.act c.entry.seat told_is.item_act);
      acts = at_each-snoc (λ before x. IsMergedAct x.act) history c.entry u.acts (merged-item c.entry.act told_is.item_act);
      fits = at_each-snoc (λ before x. FitsAct s x.act) history c.entry u.fits told_is.fits;
      others = others-next s lanes apart history rest rest' m (Item c) steps low at here others c.entry first.own refl u.others;
      lists = lists-next s lanes apart history rest rest' m (Item c) steps low at here others c.entry first.own refl u.lists;
    }
