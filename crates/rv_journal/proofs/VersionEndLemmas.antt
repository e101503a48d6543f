-- Where lanes hold nothing in a version of a slot, they let it end.
use Rattle.std.proofs.Common.{◌≡◌, ℕ, ◌+◌, ◌==◌, ◌&&◌, Bool, true, false, List, [], ◌∷◌, refl, ap, ◌∙◌, arith}
use Rattle.std.specs.Prelude.{All}
use Rattle.std.proofs.lemmas.Bool.{and_parts}
use Rattle.std.proofs.lemmas.Bool.Decides.{nat_tests}
use Rattle.std.proofs.lemmas.List.Elements.{All-nil, All-cons, All-head, All-tail}
use Rattle.rv_model.specs.declared.entry.Act.{Act}
use Rattle.rv_model.specs.declared.entry.Act.TheVariants.{Deliver, Stop, Look, Raise, Lower, Clear, End}
use Rattle.rv_journal.specs.declared.counted.Counted.{Counted}
use Rattle.rv_journal.specs.declared.steps.MergeStep.{MergeStep}
use Rattle.rv_journal.specs.MergeOrder.{StaysAt, LostFrom, LetsEnd}
use Rattle.rv_journal.specs.MergeSteps.{slot_in, items_of, behind, version, leaves}
use Rattle.rv_journal.specs.inner.MergeSteps.{leaves_in, lost_in, leaving, losing, held_by}

-- where none is counted, no item stays
stays-none : (slot r : ℕ) (items : List Counted) → leaving slot r items ≡ 0 → All (λ c. StaysAt slot r c → ⊥) items
stays-none slot r [] none = All-nil (λ c. StaysAt slot r c → ⊥)
stays-none slot r (c ∷ items) none =
    let n : leaves_in slot r c + leaving slot r items ≡ 0 = none in
    All-cons (λ x. StaysAt slot r x → ⊥) c items
    (λ stays.
    (let same_slot : (slot_in c.entry.act == slot) ≡ true = let e = stays.0 in grind (arith, nat_tests) in
    let same_version : (version c == r) ≡ true = let e = stays.1 in grind (arith, nat_tests) in
    let left : leaves c.entry ≡ true = stays.2 in
    let one : leaves_in slot r c ≡ 1 = rw (left, same_slot, same_version) refl in
    absurd (omega arith)))
    (stays-none slot r items (omega arith))

-- where no item stays, none is counted
none-stays : (slot r : ℕ) (items : List Counted) → All (λ c. StaysAt slot r c → ⊥) items → leaving slot r items ≡ 0
none-stays slot r [] all = refl
none-stays slot r (c ∷ items) all =
    let rest = none-stays slot r items (All-tail (λ x. StaysAt slot r x → ⊥) c items all) in
    let here = one (leaves c.entry && (slot_in c.entry.act == slot && version c == r)) refl in
    omega arith
  where
    one : (b : Bool) → (leaves c.entry && (slot_in c.entry.act == slot && version c == r)) ≡ b → leaves_in slot r c ≡ 0
    one false fails = rw fails refl
    one true is =
        let parts = and_parts (leaves c.entry) (slot_in c.entry.act == slot && version c == r) is in
        let both = and_parts (slot_in c.entry.act == slot) (version c == r) parts.1 in
        let s : (slot_in c.entry.act == slot) ≡ true = both.0 in
        let v : (version c == r) ≡ true = both.1 in
        let same_slot : slot_in c.entry.act ≡ slot = grind (arith, nat_tests) in
        let same_version : version c ≡ r = grind (arith, nat_tests) in
        absurd (All-head (λ x. StaysAt slot r x → ⊥) c items all (same_slot, same_version, parts.0))

-- where none is counted, no Stop was lost
lost-none : (slot r : ℕ) (items : List Counted) → losing slot r items ≡ 0 → All (λ c. LostFrom slot r c → ⊥) items
lost-none slot r [] none = All-nil (λ c. LostFrom slot r c → ⊥)
lost-none slot r (c ∷ items) none =
    let n : lost_in slot r c.entry.act c.first + losing slot r items ≡ 0 = none in
    All-cons (λ x. LostFrom slot r x → ⊥) c items
    (λ lost.
    (let same : (slot == slot) ≡ true = grind (arith, nat_tests) in
    let at : (c.first == r) ≡ true = let e = lost.1 in grind (arith, nat_tests) in
    let here : lost_in slot r (Stop slot) c.first ≡ 1 = rw (same, at) refl in
    let one : lost_in slot r c.entry.act c.first ≡ 1 = ap (λ (a : Act). lost_in slot r a c.first) lost.0 ∙ here in
    absurd (omega arith)))
    (lost-none slot r items (omega arith))

-- where no Stop was lost, none is counted
none-lost : (slot r : ℕ) (items : List Counted) → All (λ c. LostFrom slot r c → ⊥) items → losing slot r items ≡ 0
none-lost slot r [] all = refl
none-lost slot r (c ∷ items) all =
    let rest = none-lost slot r items (All-tail (λ x. LostFrom slot r x → ⊥) c items all) in
    let here = by c.entry.act refl in
    omega arith
  where
    by : (act : Act) → c.entry.act ≡ act → lost_in slot r act c.first ≡ 0
    by (Deliver i hit) is = refl
    by Look is = refl
    by (Raise _) is = refl
    by (Lower _) is = refl
    by (Clear _) is = refl
    by (End _) is = refl
    by (Stop i) is = on (i == slot && c.first == r) refl
      where
        on : (b : Bool) → (i == slot && c.first == r) ≡ b → lost_in slot r (Stop i) c.first ≡ 0
        on false fails = rw fails refl
        on true yes' =
            let both = and_parts (i == slot) (c.first == r) yes' in
            let s : (i == slot) ≡ true = both.0 in
            let f : (c.first == r) ≡ true = both.1 in
            let same : i ≡ slot = grind (arith, nat_tests) in
            let at : c.first ≡ r = grind (arith, nat_tests) in
            absurd (All-head (λ x. LostFrom slot r x → ⊥) c items all (is ∙ ap Stop same, at))

-- where a lane holds nothing, it lets the version end
pub lets-end : (slot r : ℕ) (steps : List MergeStep) → held_by slot r steps ≡ 0 → LetsEnd slot r steps
lets-end slot r steps none =
    let n : leaving slot r (items_of steps) + losing slot r (items_of (behind steps)) ≡ 0 = none in
    record { none_stays = stays-none slot r (items_of steps) (omega arith); none_lost = lost-none slot r (items_of (behind steps)) (omega arith) }

-- and only there
pub holds-none : (slot r : ℕ) (steps : List MergeStep) → LetsEnd slot r steps → held_by slot r steps ≡ 0
holds-none slot r steps lets =
    let a = none-stays slot r (items_of steps) lets.none_stays in
    let b = none-lost slot r (items_of (behind steps)) lets.none_lost in
    omega arith
