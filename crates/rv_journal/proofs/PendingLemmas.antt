-- How many are pending in each interval: item by item, and when a step is placed.
use Rattle.std.proofs.Common.{◌≡◌, ℕ, ◌+◌, ◌<◌, ◌≤◌, ◌==◌, Bool, true, false, List, [], ◌∷◌, ◌++◌, ◌⊎◌, inl, inr, length, take, get_or, refl, ap, ◌∙◌, subst, arith, add-one}
use Rattle.std.proofs.lemmas.Bool.Decides.{nat_tests}
use Rattle.std.specs.Prelude.{All}
use Rattle.std.proofs.Math.Seq.{take-suc}
use Rattle.std.proofs.lemmas.List.{take_all}
use Rattle.rv_journal.specs.declared.counted.Counted.{Counted}
use Rattle.rv_journal.specs.declared.steps.VersionInterval.{VersionInterval}
use Rattle.rv_journal.specs.inner.MergeSteps.{leaving, losing}
use Rattle.rv_journal.specs.inner.MergePending.{interval, same_interval, item_pending, lane_pending}

-- ---- sums

-- of two lists, one after the other
pub leaving-append : (slot r : ℕ) (a b : List Counted) → leaving slot r (a ++ b) ≡ leaving slot r a + leaving slot r b
leaving-append slot r [] b = omega arith
leaving-append slot r (c ∷ a) b = let rest = leaving-append slot r a b in omega arith

-- and so for the Stops that were lost from an interval on
pub losing-append : (slot r : ℕ) (a b : List Counted) → losing slot r (a ++ b) ≡ losing slot r a + losing slot r b
losing-append slot r [] b = omega arith
losing-append slot r (c ∷ a) b = let rest = losing-append slot r a b in omega arith

-- with one item more
pub lane_pending-more : (g : VersionInterval) (items : List Counted) (i : ℕ) (c : Counted) → i < length items → lane_pending g (take (i + 1) items) ≡ lane_pending g (take i items) + item_pending g (get_or items i c)
lane_pending-more g items i c lt =
    let more : take (i + 1) items ≡ take i items ++ get_or items i c ∷ [] = ap (λ (n : ℕ). take n items) (add-one i) ∙ take-suc items i c lt in
    let a = ap (leaving g.slot g.version) more ∙ leaving-append g.slot g.version (take i items) (get_or items i c ∷ []) in
    let b = ap (losing g.slot g.version) more ∙ losing-append g.slot g.version (take i items) (get_or items i c ∷ []) in
    omega arith

-- so a count that has grown by the items so far grows by one more
pub grown-more : (g : VersionInterval) (items : List Counted) (i : ℕ) (c : Counted) (first had now : ℕ) → i < length items → had ≡ first + lane_pending g (take i items) → now ≡ had + item_pending g (get_or items i c) → now ≡ first + lane_pending g (take (i + 1) items)
grown-more g items i c first had now lt so more = let sum = lane_pending-more g items i c lt in omega arith

-- ---- intervals

-- the same interval, or another one
same-or_other : (a b : VersionInterval) → (a ≡ b) ⊎ (same_interval a b ≡ false)
same-or_other a b = by (a.slot == b.slot) refl (a.version == b.version) refl
  where
    by : (p : Bool) → (a.slot == b.slot) ≡ p → (q : Bool) → (a.version == b.version) ≡ q → (a ≡ b) ⊎ (same_interval a b ≡ false)
    by false e q f = inr (rw e refl)
    by true e false f = inr (rw (e, f) refl)
    by true e true f = let x : a.slot ≡ b.slot = grind (arith, nat_tests) in let y : a.version ≡ b.version = grind (arith, nat_tests) in inl (λ i. interval (x i) (y i))

-- ---- lists

-- what holds of all that were taken holds of all, where all were
pub all-taken : {X : Type 0} (P : X → Type 0) (xs : List X) (n : ℕ) → length xs ≤ n → All P (take n xs) → All P xs
all-taken P xs n le all = subst (All P) (take_all n xs le) all
