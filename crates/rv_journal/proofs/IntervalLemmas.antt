-- Nothing is pending in the interval that the first item that is not placed would end.
use Rattle.std.proofs.Common.{◌≡◌, ◌≢◌, ℕ, ◌<◌, ◌==◌, Bool, true, false, ◌&&◌, List, [], ◌∷◌, ◌++◌, refl, sym, ap, ◌∙◌, subst, arith, append_assoc}
use Rattle.std.proofs.lemmas.Bool.Decides.{nat_tests}
use Rattle.rv_model.specs.Numbers.{one_if}
use Rattle.rv_model.specs.declared.entry.Act.{Act}
use Rattle.rv_model.specs.declared.entry.Act.TheVariants.{Deliver, Stop, Look, Raise, Lower, Clear, End}
use Rattle.rv_model.specs.declared.entry.Entry.{Entry}
use Rattle.rv_model.specs.Histories.{NoneOf}
use Rattle.rv_model.specs.Setups.{Setup}
use Rattle.rv_journal.specs.declared.counted.Counted.{Counted}
use Rattle.rv_journal.specs.declared.steps.MergeStep.{MergeStep}
use Rattle.rv_journal.specs.declared.steps.MergeStep.TheVariants.{TurnLook, Item}
use Rattle.rv_journal.specs.MergeSteps.{slot_in, items_of, behind, version, leaves, changes_on}
use Rattle.rv_journal.specs.inner.MergeSteps.{leaves_in, lost_in, leaving, losing, CannotGo}
use Rattle.rv_journal.specs.MergeStates.{entries_in}
use Rattle.rv_journal.specs.inner.MergeStates.{Mark, mark, items_in, IsKnownItem, AreKnownItems, Lanes, IsUnderWay}
use Rattle.rv_journal.proofs.MarkLemmas.{same, earlier, later, compare, first-left, FirstOpen}
use Rattle.rv_journal.proofs.LeftLemmas.{none-left, no-open, in-front, more-changes}
use Rattle.rv_journal.proofs.FirstOpenLemmas.{told-at, told_is, entries-cut, changes}

module _ (s : Setup) (whole : List Counted) (lanes : Lanes) (observed : AreKnownItems s whole)
    (history : List Entry) (rest : ℕ → List MergeStep) (u : IsUnderWay s whole lanes history rest)
    (stuck : (l : ℕ) → l < lanes.many → CannotGo lanes.many history rest (rest l)) (f : FirstOpen u.marks) (differs : leaves f.item.entry ≡ false) where
  -- nothing that is not placed leaves the word there
  leaves-none : (b : List Mark) (x : Counted) (a : List Mark) → u.marks ≡ b ++ mark false x ∷ a → leaves_in (slot_in f.item.entry.act) (version f.item) x ≡ 0
  leaves-none b x a eq = elim (compare f.front (mark false f.item) f.back b (mark false x) a (sym f.is ∙ eq)) [
    | same p q r ↦
        let it : f.item ≡ x = ap (λ (z : Mark). z.item) q in
        subst (λ (z : Counted). leaves_in (slot_in f.item.entry.act) (version f.item) z ≡ 0) it (rw differs refl)
    | earlier mid p q ↦
        let t = told-at s whole lanes observed history rest u f b false x a eq in
        let less : changes_on (slot_in f.item.entry.act) (entries_in (items_in f.front)) < changes_on (slot_in f.item.entry.act) (entries_in (items_in b)) =
        subst (λ (z : List Entry). changes_on (slot_in f.item.entry.act) (entries_in (items_in f.front)) < changes_on (slot_in f.item.entry.act) z) (sym (ap (λ (z : List Mark). entries_in (items_in z)) p ∙ entries-cut s whole lanes observed history rest u f f.front false f.item mid))
        (more-changes (slot_in f.item.entry.act) (entries_in (items_in f.front)) f.item.entry (entries_in (items_in mid)) (changes s whole lanes observed history rest u f differs)) in
        let r = (told_is s whole lanes observed history rest u f).rank_is in
        let apart : slot_in x.entry.act ≡ slot_in f.item.entry.act → version x ≢ version f.item = λ there is. (let r' : version x ≡ changes_on (slot_in f.item.entry.act) (entries_in (items_in b)) = t.rank_is ∙ ap (λ (n : ℕ). changes_on n (entries_in (items_in b))) there in absurd (omega arith)) in
        off (leaves x.entry) (slot_in x.entry.act) (slot_in f.item.entry.act) (version x) (version f.item) apart
    | later mid p q ↦ absurd (no-open f.front b mid x f.placed p)
  ]
    where
      off : (l : Bool) (i j r k : ℕ) → (i ≡ j → r ≢ k) → one_if (l && (i == j && r == k)) ≡ 0
      off false i j r k apart = refl
      off true i j r k apart = on (i == j) refl (r == k) refl
        where
          on : (a : Bool) → (i == j) ≡ a → (b : Bool) → (r == k) ≡ b → one_if (a && b) ≡ 0
          on false e b g = refl
          on true e false g = refl
          on true e true g = let e' : i ≡ j = grind (arith, nat_tests) in let g' : r ≡ k = grind (arith, nat_tests) in absurd (apart e' g')

  -- so no lane has an item left that leaves it there
  pub leaving-none : (l : ℕ) → l < lanes.many → leaving (slot_in f.item.entry.act) (version f.item) (items_of (rest l)) ≡ 0
  leaving-none l lt = ap (leaving (slot_in f.item.entry.act) (version f.item)) (u.left l lt)
      ∙ none-left (leaves_in (slot_in f.item.entry.act) (version f.item)) (leaving (slot_in f.item.entry.act) (version f.item)) refl (λ x items. refl) (lanes.seat l) u.marks (λ b x a eq own. leaves-none b x a eq)

  -- no Stop behind a lane's next item was lost from there
  lost-none : (n : ℕ) (f2 : List Mark) (x : Counted) (b2 b : List Mark) (y : Counted) (a : List Mark) → u.marks ≡ f2 ++ mark false x ∷ b2 → x.entry.seat ≡ n → b2 ≡ b ++ mark false y ∷ a → y.entry.seat ≡ n
      → lost_in (slot_in f.item.entry.act) (version f.item) y.entry.act y.first ≡ 0
  lost-none n f2 x b2 b y a eq own eq2 own2 = by y.entry.act refl
    where
      whole_eq : u.marks ≡ (f2 ++ mark false x ∷ b) ++ mark false y ∷ a
      whole_eq = eq ∙ (ap (λ (z : List Mark). f2 ++ mark false x ∷ z) eq2 ∙ sym (append_assoc f2 (mark false x ∷ b) (mark false y ∷ a)))

      t : IsKnownItem s (entries_in (items_in (f2 ++ mark false x ∷ b))) y
      t = told-at s whole lanes observed history rest u f (f2 ++ mark false x ∷ b) false y a whole_eq

      -- its prefix has the first item that is not placed
      within : (until since : List Entry) → entries_in (items_in (f2 ++ mark false x ∷ b)) ≡ until ++ since → NoneOf y.entry.seat since → (z : List Entry) × (until ≡ entries_in (items_in f.front) ++ f.item.entry ∷ z)
      within until since is none =
          let r = in-front y.entry.seat (entries_in (items_in f2)) x.entry (entries_in (items_in b)) until since (sym (entries-cut s whole lanes observed history rest u f f2 false x b) ∙ is) none (own ∙ sym own2) in
          elim (compare f.front (mark false f.item) f.back f2 (mark false x) b2 (sym f.is ∙ eq)) [
            | same p q _ ↦
                let it : f.item ≡ x = ap (λ (z : Mark). z.item) q in
                (r.0, r.1 ∙ (ap (λ (z : List Mark). entries_in (items_in z) ++ x.entry ∷ r.0) (sym p) ∙ ap (λ (z : Counted). entries_in (items_in f.front) ++ z.entry ∷ r.0) (sym it)))
            | earlier mid p q ↦
                (entries_in (items_in mid) ++ x.entry ∷ r.0, r.1 ∙ (ap (λ (z : List Entry). z ++ x.entry ∷ r.0) (ap (λ (z : List Mark). entries_in (items_in z)) p ∙ entries-cut s whole lanes observed history rest u f f.front false f.item mid) ∙ append_assoc (entries_in (items_in f.front)) (f.item.entry ∷ entries_in (items_in mid)) (x.entry ∷ r.0)))
            | later mid p q ↦ absurd (no-open f.front f2 mid x f.placed p)
          ]

      by : (act : Act) → y.entry.act ≡ act → lost_in (slot_in f.item.entry.act) (version f.item) act y.first ≡ 0
      by (Deliver i hit) is = refl
      by Look is = refl
      by (Raise _) is = refl
      by (Lower _) is = refl
      by (Clear _) is = refl
      by (End _) is = refl
      by (Stop i) is =
          let l = t.lost i is in
          let w = within l.until l.since l.is l.none in
          on (i == slot_in f.item.entry.act) refl (y.first == version f.item) refl (λ there. (let more = more-changes (slot_in f.item.entry.act) (entries_in (items_in f.front)) f.item.entry w.0 (changes s whole lanes observed history rest u f differs) in
          let first_is : y.first ≡ changes_on (slot_in f.item.entry.act) (entries_in (items_in f.front) ++ f.item.entry ∷ w.0) = l.first_is ∙ (ap (λ (k : ℕ). changes_on k l.until) there ∙ ap (changes_on (slot_in f.item.entry.act)) w.1) in
          let r = (told_is s whole lanes observed history rest u f).rank_is in
          omega arith))
        where
          on : (a : Bool) → (i == slot_in f.item.entry.act) ≡ a → (b : Bool) → (y.first == version f.item) ≡ b → (i ≡ slot_in f.item.entry.act → version f.item < y.first) → one_if (a && b) ≡ 0
          on false e b g less = refl
          on true e false g less = refl
          on true e true g less = let e' : i ≡ slot_in f.item.entry.act = grind (arith, nat_tests) in let g' : y.first ≡ version f.item = grind (arith, nat_tests) in let lt = less e' in absurd (omega arith)

  -- nor a Stop behind its next step that was lost from there
  pub losing-none : (l : ℕ) → l < lanes.many → losing (slot_in f.item.entry.act) (version f.item) (items_of (behind (rest l))) ≡ 0
  losing-none l lt = by (rest l) refl
    where
      lost : Counted → ℕ
      lost x = lost_in (slot_in f.item.entry.act) (version f.item) x.entry.act x.first

      by : (steps : List MergeStep) → rest l ≡ steps → losing (slot_in f.item.entry.act) (version f.item) (items_of (behind steps)) ≡ 0
      by [] is = refl
      by (TurnLook ∷ steps) is = absurd ((subst (CannotGo lanes.many history rest) is (stuck l lt)) tt)
      by (Item x ∷ steps) is =
          let e = first-left (lanes.seat l) u.marks x (items_of steps) (sym (u.left l lt) ∙ ap items_of is) in
          ap (losing (slot_in f.item.entry.act) (version f.item)) (sym e.others)
          ∙ none-left lost (losing (slot_in f.item.entry.act) (version f.item)) refl (λ y items. refl) (lanes.seat l) e.back (λ b y a eq own. lost-none (lanes.seat l) e.front x e.back b y a e.is e.own eq own)
