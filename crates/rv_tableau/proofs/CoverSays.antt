-- The cover of a set says what the set says.
use Rattle.std.proofs.Common.{◌≡◌, ℕ, zero, suc, ◌<◌, ◌≤◌, Bool, true, false, not, ◌&&◌, ◌||◌, cond, List, [], ◌∷◌, ◌++◌, length, refl, sym, ap, ◌∙◌, arith}
use mathlib.Core.Path.{ap₂}
use Rattle.std.specs.List.{list_any}
use Rattle.std.proofs.lemmas.List.Folds.{list_any-append}
use Rattle.std.proofs.lemmas.Bool.{and_parts, false≢true}
use Rattle.rv_model.specs.Ltl.{Ltl, True, False, Atom, Not, Next, Always, Eventually, And, Or, Imply, Equivalent, Until, Release, WeakUntil}
use Rattle.rv_model.specs.Truth.{View, Weak, Strong, other}
use Rattle.rv_model.specs.Numbers.{has_bit}
use Rattle.rv_model.specs.Labels.{is_propositional}
use Rattle.rv_tableau.specs.declared.pairs.Pair.{Pair}
use Rattle.rv_tableau.specs.Pairs.{empty_pair, unions, and_later, later_alone, label_alone}
use Rattle.rv_tableau.specs.Cover.{label_cover, piece_cover, part_cover, cover_below, cover_of}
use Rattle.rv_tableau.specs.Holding.{all_below, set_holds, piece_true, label_true, pair_holds}
use Rattle.rv_model.specs.Meaning.{Meaning, is_weak, meaning, not_m, until_m, release_m, true_on}
use Rattle.rv_model.proofs.TruthLemmas.{proper}
use Rattle.rv_nnf.specs.Parts.{PartValue, Label, part_value_at, part_value_meaning, part_meaning, OperandsBelow, HasLabel, IsNormal}
use Rattle.rv_nnf.proofs.ByNumber.{part_meaning_is, by_number_is}
use Rattle.rv_tableau.proofs.SetLemmas.{and_assoc4, and_true, all_or, all_none, all_one, Splits, any_unions, any_later, or_false}

-- ---- on the empty word

-- on no letters a part holds weakly alone
piece_proper : (m : ℕ → Meaning) (p : PartValue) (v : View) → part_value_meaning m p v [] ≡ is_weak v
piece_proper m (Label f) v = proper f v
piece_proper m (PartValue.Next i) v = refl
piece_proper m (PartValue.And i j) v = refl
piece_proper m (PartValue.Or i j) v = refl
piece_proper m (PartValue.Until i j) v = refl
piece_proper m (PartValue.Release i j) v = refl

-- so does the part of a number
pub part_proper : (ps : List PartValue) → IsNormal ps → (k : ℕ) (v : View) → part_meaning ps k v [] ≡ is_weak v
part_proper ps n k v = ap (λ (m : Meaning). m v []) (part_meaning_is ps n k) ∙ piece_proper (part_meaning ps) (part_value_at ps k) v

-- a test that always holds
all_true : (n set : ℕ) (p : ℕ → Bool) → ((k : ℕ) → p k ≡ true) → all_below n set p ≡ true
all_true zero set p h = refl
all_true (suc n) set p h = ap₂ (λ a b. a && (not (has_bit set n) || b)) (all_true n set p h) (h n) ∙ or_true (has_bit set n)
  where
    or_true : (b : Bool) → (not b || true) ≡ true
    or_true true = refl
    or_true false = refl

-- on no letters each set holds
pub empty_holds : (ps : List PartValue) → IsNormal ps → (set : ℕ) → set_holds ps set [] ≡ true
empty_holds ps n set = all_true (length ps) set _ (λ k. part_proper ps n k Weak)

-- ---- a label

-- a formula with no temporal operator looks at the first letter alone
pub plain_is : (f : Ltl) → is_propositional f ≡ true → (v : View) (x : ℕ) (t : List ℕ) → meaning f v (x ∷ t) ≡ true_on x f
plain_is True h v x t = refl
plain_is False h v x t = refl
plain_is (Atom a) h v x t = refl
plain_is (Not f) h v x t = ap not (plain_is f h (other v) x t)
plain_is (And f g) h v x t = ap₂ (λ a b. a && b) (plain_is f (and_parts _ _ h).0 v x t) (plain_is g (and_parts _ _ h).1 v x t)
plain_is (Or f g) h v x t = ap₂ (λ a b. a || b) (plain_is f (and_parts _ _ h).0 v x t) (plain_is g (and_parts _ _ h).1 v x t)
plain_is (Imply f g) h v x t = ap₂ (λ a b. not a || b) (plain_is f (and_parts _ _ h).0 (other v) x t) (plain_is g (and_parts _ _ h).1 v x t)
plain_is (Equivalent f g) h v x t =
    ap₂ (λ a b. a || b)
    (ap₂ (λ a b. a && b) (plain_is f (and_parts _ _ h).0 v x t) (plain_is g (and_parts _ _ h).1 v x t))
    (ap₂ (λ a b. not a && not b) (plain_is f (and_parts _ _ h).0 (other v) x t) (plain_is g (and_parts _ _ h).1 (other v) x t))
plain_is (Next f) h v x t = absurd (false≢true h)
plain_is (Always f) h v x t = absurd (false≢true h)
plain_is (Eventually f) h v x t = absurd (false≢true h)
plain_is (Until f g) h v x t = absurd (false≢true h)
plain_is (Release f g) h v x t = absurd (false≢true h)
plain_is (WeakUntil f g) h v x t = absurd (false≢true h)

-- ---- a cover is what its step says

-- a cover rests on the operands alone
same_cover : (f g : ℕ → List Pair) (k : ℕ) (p : PartValue) → OperandsBelow k p → ((i : ℕ) → i < k → f i ≡ g i) → piece_cover f k p ≡ piece_cover g k p
same_cover f g k (Label x) b h = refl
same_cover f g k (PartValue.Next i) b h = refl
same_cover f g k (PartValue.And i j) b h = ap₂ unions (h i b.0) (h j b.1)
same_cover f g k (PartValue.Or i j) b h = ap₂ (λ a c. a ++ c) (h i b.0) (h j b.1)
same_cover f g k (PartValue.Until i j) b h = ap₂ (λ a c. c ++ and_later k a) (h i b.0) (h j b.1)
same_cover f g k (PartValue.Release i j) b h = ap₂ (λ a c. unions a c ++ and_later k c) (h i b.0) (h j b.1)

-- the cover of a part is what its operands make
pub cover_by : (ps : List PartValue) → ((k : ℕ) → OperandsBelow k (part_value_at ps k)) → (k : ℕ) → part_cover ps k ≡ piece_cover (part_cover ps) k (part_value_at ps k)
unfolding part_cover
cover_by ps below k = by_number_is [] (λ c k. piece_cover c k (part_value_at ps k)) (λ f g k h. same_cover f g k (part_value_at ps k) (below k) h) k

-- the same of a normal form
pub cover_is : (ps : List PartValue) → IsNormal ps → (k : ℕ) → part_cover ps k ≡ piece_cover (part_cover ps) k (part_value_at ps k)
cover_is ps n k = cover_by ps n.below k

-- ---- the main induction

-- a release on the rest of the letters, by the until that it denies
release_is : (p q : Meaning) (t : List ℕ) → release_m p q Weak t ≡ not (until_m (not_m p) (not_m q) Strong t)
release_is p q [] = refl
release_is p q (x ∷ t) = refl

-- a release on the first letter: both now, or the second now and the release later
release_step : (a b u : Bool) → ((a && b) || (not u && b)) ≡ not (not b || (not a && u))
release_step a b u = grind arith

-- an until on the first letter: the second now, or the first now and the until later
until_step : (a b u : Bool) → (b || (u && a)) ≡ (b || (a && u))
until_step a b u = grind arith

module _ (ps : List PartValue) (normal : IsNormal ps) (x : ℕ) (t : List ℕ) where
  -- what each part says weakly
  says : ℕ → Bool
  says k = part_meaning ps k Weak (x ∷ t)

  -- what each pair asks
  holds : Pair → Bool
  holds p = pair_holds ps x t p

  -- a union holds exactly where both do
  splits : Splits holds
  unfolding holds
  splits = record {
    none = ap₂ (λ a b. a && b) (all_none (length ps) (label_true ps x)) (all_none (length ps) (λ k. part_meaning ps k Weak t));
    both = λ p q.
        ap₂ (λ a b. a && b) (all_or (length ps) p.labels q.labels (label_true ps x)) (all_or (length ps) p.next q.next (λ k. part_meaning ps k Weak t))
        ∙ and_assoc4 (all_below (length ps) p.labels (label_true ps x)) (all_below (length ps) q.labels (label_true ps x)) (set_holds ps p.next t) (set_holds ps q.next t);
  }

  -- a part on the rest of the word
  later_holds : (k : ℕ) → k < length ps → holds (later_alone k) ≡ part_meaning ps k Weak t
  unfolding holds
  later_holds k h = ap₂ (λ a b. a && b) (all_none (length ps) (label_true ps x)) (all_one (length ps) k (λ k. part_meaning ps k Weak t) h)

  -- a label on the first letter
  label_holds : (k : ℕ) → k < length ps → holds (label_alone k) ≡ label_true ps x k
  unfolding holds
  label_holds k h = ap₂ (λ a b. a && b) (all_one (length ps) k (label_true ps x) h) (all_none (length ps) (λ k. part_meaning ps k Weak t)) ∙ and_true (label_true ps x k)

  -- a part says what its operands make
  part_is : (k : ℕ) (p : PartValue) → part_value_at ps k ≡ p → (v : View) (w : List ℕ) → part_meaning ps k v w ≡ part_value_meaning (part_meaning ps) p v w
  part_is k p e v w = ap (λ (m : Meaning). m v w) (part_meaning_is ps normal k) ∙ ap (λ q. part_value_meaning (part_meaning ps) q v w) e

  -- the cover of a label that is no constant
  one_label : (k : ℕ) (f : Ltl) → k < length ps → part_value_at ps k ≡ Label f → is_propositional f ≡ true → list_any holds ((label_alone k) ∷ []) ≡ meaning f Weak (x ∷ t)
  one_label k f h e p =
      or_false (holds (label_alone k)) ∙ label_holds k h ∙ ap (piece_true x) e ∙ sym (plain_is f p Weak x t)

  -- the cover of a label says what the label says
  label_says : (k : ℕ) (f : Ltl) → k < length ps → part_value_at ps k ≡ Label f → is_propositional f ≡ true → list_any holds (label_cover k f) ≡ meaning f Weak (x ∷ t)
  label_says k True h e p = or_false (holds empty_pair) ∙ splits.none
  label_says k False h e p = refl
  label_says k f h e p = one_label k f h e p

  -- the cover of a part says what the part says, where those of its operands do
  piece_says : (k : ℕ) (p : PartValue) → k < length ps → part_value_at ps k ≡ p → OperandsBelow k p → HasLabel p → ((i : ℕ) → i < k → list_any holds (part_cover ps i) ≡ says i) → list_any holds (piece_cover (part_cover ps) k p) ≡ part_value_meaning (part_meaning ps) p Weak (x ∷ t)
  unfolding says
  piece_says k (Label f) h e b l ih = label_says k f h e l.0
  piece_says k (PartValue.Next i) h e b l ih = or_false (holds (later_alone i)) ∙ later_holds i (omega arith)
  piece_says k (PartValue.And i j) h e b l ih = any_unions holds splits (part_cover ps i) (part_cover ps j) ∙ ap₂ (λ a c. a && c) (ih i b.0) (ih j b.1)
  piece_says k (PartValue.Or i j) h e b l ih = list_any-append holds (part_cover ps i) (part_cover ps j) ∙ ap₂ (λ a c. a || c) (ih i b.0) (ih j b.1)
  piece_says k (PartValue.Until i j) h e b l ih =
      list_any-append holds (part_cover ps j) (and_later k (part_cover ps i))
      ∙ ap₂ (λ a c. a || c) (ih j b.1) (any_later holds splits k (part_cover ps i) ∙ ap₂ (λ a c. a && c) (later_holds k h ∙ part_is k (PartValue.Until i j) e Weak t) (ih i b.0))
      ∙ until_step (says i) (says j) (until_m (part_meaning ps i) (part_meaning ps j) Weak t)
  piece_says k (PartValue.Release i j) h e b l ih =
      list_any-append holds (unions (part_cover ps i) (part_cover ps j)) (and_later k (part_cover ps j))
      ∙ ap₂ (λ a c. a || c)
      (any_unions holds splits (part_cover ps i) (part_cover ps j) ∙ ap₂ (λ a c. a && c) (ih i b.0) (ih j b.1))
      (any_later holds splits k (part_cover ps j) ∙ ap₂ (λ a c. a && c) (later_holds k h ∙ part_is k (PartValue.Release i j) e Weak t ∙ release_is (part_meaning ps i) (part_meaning ps j) t) (ih j b.1))
      ∙ release_step (says i) (says j) (until_m (not_m (part_meaning ps i)) (not_m (part_meaning ps j)) Strong t)

  -- the cover of each part says what the part says
  cover_says_below : (n k : ℕ) → k < n → k < length ps → list_any holds (part_cover ps k) ≡ says k
  unfolding says
  cover_says_below zero k l h = absurd (omega arith)
  cover_says_below (suc n) k l h =
      ap (list_any holds) (cover_is ps normal k)
      ∙ piece_says k (part_value_at ps k) h refl (normal.below k) (normal.labels k) (λ i s. cover_says_below n i (omega arith) (omega arith))
      ∙ sym (part_is k (part_value_at ps k) refl Weak (x ∷ t))

  -- a set with one more part
  step_says : (n set : ℕ) → n < length ps → list_any holds (cover_below ps set n) ≡ all_below n set says → (b : Bool) → list_any holds (cond b (unions (cover_below ps set n) (part_cover ps n)) (cover_below ps set n)) ≡ (all_below n set says && (not b || says n))
  step_says n set h ih true = any_unions holds splits (cover_below ps set n) (part_cover ps n) ∙ ap₂ (λ a c. a && c) ih (cover_says_below (suc n) n (omega arith) h)
  step_says n set h ih false = ih ∙ sym (and_true (all_below n set says))

  -- the parts of a set below a number
  set_says_below : (n set : ℕ) → n ≤ length ps → list_any holds (cover_below ps set n) ≡ all_below n set says
  set_says_below zero set h = or_false (holds empty_pair) ∙ splits.none
  set_says_below (suc n) set h = step_says n set (omega arith) (set_says_below n set (omega arith)) (has_bit set n)

-- the cover of a set says what the set says
pub set_says : (ps : List PartValue) → IsNormal ps → (set x : ℕ) (t : List ℕ) → set_holds ps set (x ∷ t) ≡ list_any (pair_holds ps x t) (cover_of ps set)
unfolding says holds
set_says ps n set x t = sym (set_says_below ps n x t (length ps) set (omega arith))
