-- The numbered parts of a settled list are a normal form, and each says what its subtree says.
use Rattle.std.proofs.Common.{◌≡◌, ℕ, ◌<◌, ◌≤◌, List, length, get_or, refl, sym, ap, ◌∙◌, subst, ◌⊎◌, inl, inr, arith}
use mathlib.Core.Path.{ap₂}
use Rattle.std.proofs.lemmas.List.{get_or-map, length-map, get_or_past}
use Rattle.std.proofs.lemmas.Bool.{cases_lt}
use Rattle.rv_model.specs.Ltl.{False}
use Rattle.rv_model.specs.Meaning.{and_m, or_m, next_m, until_m, release_m}
use Rattle.rv_nnf.specs.Tree.{Tree, Label, Next, And, Or, Until, Release, tree_meaning}
use Rattle.rv_nnf.specs.Parts.{PartValue, part_value_at, part_value_meaning, part_meaning, OperandsBelow, HasLabel, IsNormal}
use Rattle.rv_nnf.specs.Lists.{place}
use Rattle.rv_nnf.specs.NormalForm.{same_tree, part_value_of, numbered_parts}
use Rattle.rv_nnf.proofs.ByNumber.{part_meaning_by}
use Rattle.rv_nnf.proofs.Places.{place_lt, get_place, among_get}
use Rattle.rv_nnf.proofs.Settled.{same_tree_decides, Operands, HasPlainRoot, There, IsSettled}

-- ---- what numbered parts say

-- operands that stand before a place are below it
below_of : (ts : List Tree) (k : ℕ) (u : Tree) → Operands (λ o. place same_tree ts o < k) u → OperandsBelow k (part_value_of ts u)
below_of ts k (Label f) h = tt
below_of ts k (Next a) h = h
below_of ts k (And a b) h = h
below_of ts k (Or a b) h = h
below_of ts k (Until a b) h = h
below_of ts k (Release a b) h = h

-- a proper label stays one as a part
label_of : (ts : List Tree) (u : Tree) → HasPlainRoot u → HasLabel (part_value_of ts u)
label_of ts (Label f) h = h
label_of ts (Next a) h = tt
label_of ts (And a b) h = tt
label_of ts (Or a b) h = tt
label_of ts (Until a b) h = tt
label_of ts (Release a b) h = tt

-- the tree of a part, whose operands stand in the list
pub back : List Tree → PartValue → Tree
back ts (PartValue.Label f) = Label f
back ts (PartValue.Next i) = Next (get_or ts i (Label False))
back ts (PartValue.And i j) = And (get_or ts i (Label False)) (get_or ts j (Label False))
back ts (PartValue.Or i j) = Or (get_or ts i (Label False)) (get_or ts j (Label False))
back ts (PartValue.Until i j) = Until (get_or ts i (Label False)) (get_or ts j (Label False))
back ts (PartValue.Release i j) = Release (get_or ts i (Label False)) (get_or ts j (Label False))

-- the subtree comes back from its part
pub back_is : (ts : List Tree) (u : Tree) → Operands (There ts) u → back ts (part_value_of ts u) ≡ u
unfolding back
back_is ts (Label f) h = refl
back_is ts (Next a) h = ap Next (get_place same_tree same_tree_decides ts a (Label False) h)
back_is ts (And a b) h = ap₂ And (get_place same_tree same_tree_decides ts a (Label False) h.0) (get_place same_tree same_tree_decides ts b (Label False) h.1)
back_is ts (Or a b) h = ap₂ Or (get_place same_tree same_tree_decides ts a (Label False) h.0) (get_place same_tree same_tree_decides ts b (Label False) h.1)
back_is ts (Until a b) h = ap₂ Until (get_place same_tree same_tree_decides ts a (Label False) h.0) (get_place same_tree same_tree_decides ts b (Label False) h.1)
back_is ts (Release a b) h = ap₂ Release (get_place same_tree same_tree_decides ts a (Label False) h.0) (get_place same_tree same_tree_decides ts b (Label False) h.1)

module _ (ts : List Tree) (s : IsSettled ts) where
  -- the part at a place is that of the subtree there
  piece_is : (k : ℕ) → k < length ts → part_value_at (numbered_parts ts) k ≡ part_value_of ts (get_or ts k (Label False))
  piece_is k h = get_or-map (part_value_of ts) ts k (Label False) (PartValue.Label False) h

  -- past the list there is `false`
  past_is : (k : ℕ) → length ts ≤ k → part_value_at (numbered_parts ts) k ≡ PartValue.Label False
  past_is k h = get_or_past (numbered_parts ts) k (PartValue.Label False) (let l = length-map ts (part_value_of ts) in omega (arith, l, h))

  -- what stands at a place is there
  at_is : (k : ℕ) → k < length ts → There ts (get_or ts k (Label False))
  at_is k h = among_get same_tree same_tree_decides ts k (Label False) h

  -- the operands of each part are below it
  below_at : (k : ℕ) → (k < length ts) ⊎ (length ts ≤ k) → OperandsBelow k (part_value_at (numbered_parts ts) k)
  below_at k (inl h) =
      let u = get_or ts k (Label False) in
      subst (OperandsBelow k) (sym (piece_is k h)) (below_of ts k u (subst (λ n. Operands (λ o. place same_tree ts o < n) u) (s.once k h) (s.before u (at_is k h))))
  below_at k (inr h) = subst (OperandsBelow k) (sym (past_is k h)) tt

  -- each label is proper
  labels_at : (k : ℕ) → (k < length ts) ⊎ (length ts ≤ k) → HasLabel (part_value_at (numbered_parts ts) k)
  labels_at k (inl h) = subst HasLabel (sym (piece_is k h)) (label_of ts (get_or ts k (Label False)) (s.plain (get_or ts k (Label False)) (at_is k h)))
  labels_at k (inr h) = subst HasLabel (sym (past_is k h)) (refl, tt)

  -- parts that are the same stand at one place
  distinct_at : (j k : ℕ) → j < length ts → k < length ts → part_value_at (numbered_parts ts) j ≡ part_value_at (numbered_parts ts) k → j ≡ k
  distinct_at j k h l e =
      let u = get_or ts j (Label False) in
      let v = get_or ts k (Label False) in
      let same : part_value_of ts u ≡ part_value_of ts v = sym (piece_is j h) ∙ e ∙ piece_is k l in
      let trees : u ≡ v = sym (back_is ts u (s.there u (at_is j h))) ∙ ap (back ts) same ∙ back_is ts v (s.there v (at_is k l)) in
      sym (s.once j h) ∙ ap (place same_tree ts) trees ∙ s.once k l

  -- the numbered list is a normal form
  pub numbered_parts_normal : 1 ≤ length ts → length ts ≤ 64 → IsNormal (numbered_parts ts)
  numbered_parts_normal h l =
      let e = length-map ts (part_value_of ts) in
      record {
        some = omega (arith, e, h);
        few = omega (arith, e, l);
        below = λ k. below_at k (cases_lt k (length ts));
        labels = λ k. labels_at k (cases_lt k (length ts));
        distinct = λ j k a b. distinct_at j k (omega (arith, e, a)) (omega (arith, e, b));
      }

  -- the part at the place of a subtree is its own
  tree_at : (u : Tree) → There ts u → part_value_at (numbered_parts ts) (place same_tree ts u) ≡ part_value_of ts u
  tree_at u h = piece_is (place same_tree ts u) (place_lt same_tree same_tree_decides ts u h) ∙ ap (part_value_of ts) (get_place same_tree same_tree_decides ts u (Label False) h)

  -- a part says what its operands make
  step_at : (u : Tree) → There ts u → part_meaning (numbered_parts ts) (place same_tree ts u) ≡ part_value_meaning (part_meaning (numbered_parts ts)) (part_value_of ts u)
  step_at u h = part_meaning_by (numbered_parts ts) (λ k. below_at k (cases_lt k (length ts))) (place same_tree ts u) ∙ ap (part_value_meaning (part_meaning (numbered_parts ts))) (tree_at u h)

  -- the part of a subtree says what the subtree says
  pub numbered_parts_says : (u : Tree) → There ts u → part_meaning (numbered_parts ts) (place same_tree ts u) ≡ tree_meaning u
  numbered_parts_says (Label f) h = step_at (Label f) h
  numbered_parts_says (Next a) h = step_at (Next a) h ∙ ap next_m (numbered_parts_says a (s.there (Next a) h))
  numbered_parts_says (And a b) h = let o = s.there (And a b) h in step_at (And a b) h ∙ ap₂ and_m (numbered_parts_says a o.0) (numbered_parts_says b o.1)
  numbered_parts_says (Or a b) h = let o = s.there (Or a b) h in step_at (Or a b) h ∙ ap₂ or_m (numbered_parts_says a o.0) (numbered_parts_says b o.1)
  numbered_parts_says (Until a b) h = let o = s.there (Until a b) h in step_at (Until a b) h ∙ ap₂ until_m (numbered_parts_says a o.0) (numbered_parts_says b o.1)
  numbered_parts_says (Release a b) h = let o = s.there (Release a b) h in step_at (Release a b) h ∙ ap₂ release_m (numbered_parts_says a o.0) (numbered_parts_says b o.1)
