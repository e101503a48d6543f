-- A list of subtrees in which each stands once, after its operands, and labels are proper.
use Rattle.std.proofs.Common.{◌≡◌, ℕ, ◌<◌, ◌≤◌, Bool, true, false, ◌||◌, cond, List, [], ◌∷◌, ◌++◌, length, get_or, refl, sym, ap, ◌∙◌, subst, ◌⊎◌, inl, inr, ⊎_elim, arith, length-append}
use Rattle.std.specs.Bool.{Decides}
use Rattle.std.proofs.Math.Seq.{get_or-append_seam}
use Rattle.std.proofs.lemmas.List.{get_or_append_left}
use Rattle.std.proofs.lemmas.Bool.{false≢true, cases_lt}
use Rattle.rv_model.specs.Ltl.{False}
use Rattle.rv_nnf.specs.Tree.{Tree, Label, Next, And, Or, Until, Release}
use Rattle.rv_model.specs.Labels.{IsLabel}
use Rattle.rv_nnf.specs.Lists.{among, place, with_new}
use Rattle.rv_nnf.specs.NormalForm.{same_tree}
use Rattle.rv_nnf.proofs.Places.{decided_decides, place_lt, place_append, place_end, among_append, among_kept, among_get}

-- the test of trees decides
pub same_tree_decides : (a b : Tree) → Decides (same_tree a b) (a ≡ b)
same_tree_decides a b = decided_decides _

-- each operand has P
abbrev pub Operands : (Tree → Type 0) → Tree → Type 0
Operands P (Label f) = Unit {0}
Operands P (Next a) = P a
Operands P (And a b) = P a × P b
Operands P (Or a b) = P a × P b
Operands P (Until a b) = P a × P b
Operands P (Release a b) = P a × P b

-- from one fact of the operands to another
pub operands_map : (P Q : Tree → Type 0) → ((u : Tree) → P u → Q u) → (t : Tree) → Operands P t → Operands Q t
operands_map P Q f (Label g) h = tt
operands_map P Q f (Next a) h = f a h
operands_map P Q f (And a b) h = (f a h.0, f b h.1)
operands_map P Q f (Or a b) h = (f a h.0, f b h.1)
operands_map P Q f (Until a b) h = (f a h.0, f b h.1)
operands_map P Q f (Release a b) h = (f a h.0, f b h.1)

-- from two facts to a third
operands_zip : (P Q R : Tree → Type 0) → ((u : Tree) → P u → Q u → R u) → (t : Tree) → Operands P t → Operands Q t → Operands R t
operands_zip P Q R f (Label g) h k = tt
operands_zip P Q R f (Next a) h k = f a h k
operands_zip P Q R f (And a b) h k = (f a h.0 k.0, f b h.1 k.1)
operands_zip P Q R f (Or a b) h k = (f a h.0 k.0, f b h.1 k.1)
operands_zip P Q R f (Until a b) h k = (f a h.0 k.0, f b h.1 k.1)
operands_zip P Q R f (Release a b) h k = (f a h.0 k.0, f b h.1 k.1)

-- a tree that is a label is a proper one
abbrev pub HasPlainRoot : Tree → Type 0
HasPlainRoot (Label f) = IsLabel f
HasPlainRoot t = Unit {0}

-- the tree is in the list
abbrev pub There : List Tree → Tree → Type 0
There ts u = among same_tree ts u ≡ true

-- operands are there, before what uses them; each stands once; labels are plain
pub record IsSettled (ts : List Tree) : Type 0 where
  pub there : (u : Tree) → There ts u → Operands (There ts) u
  pub before : (u : Tree) → There ts u → Operands (λ o. place same_tree ts o < place same_tree ts u) u
  pub once : (k : ℕ) → k < length ts → place same_tree ts (get_or ts k (Label False)) ≡ k
  pub plain : (u : Tree) → There ts u → HasPlainRoot u

-- the empty list is settled
pub settled_nil : IsSettled []
settled_nil = record { there = λ u h. absurd (false≢true h); before = λ u h. absurd (false≢true h); once = λ k h. absurd (omega arith); plain = λ u h. absurd (false≢true h) }

-- one more at the end, whose operands are there
module _ (ts : List Tree) (s : IsSettled ts) (t : Tree) (ops : Operands (There ts) t) (pl : HasPlainRoot t) (new : among same_tree ts t ≡ false) where
  -- the longer list
  more : List Tree
  more = ts ++ t ∷ []

  -- what is there stays
  kept : (u : Tree) → There ts u → There more u
  unfolding more
  kept u h = among_kept same_tree same_tree_decides ts (t ∷ []) u h

  -- at its place
  kept_place : (u : Tree) → There ts u → place same_tree more u ≡ place same_tree ts u
  unfolding more
  kept_place u h = place_append same_tree same_tree_decides ts (t ∷ []) u h

  -- the new one has the last place
  end_place : place same_tree more t ≡ length ts
  unfolding more
  end_place = place_end same_tree same_tree_decides ts t new

  -- whatever is there now was there, or is the new one
  old_or_end : (u : Tree) → There more u → There ts u ⊎ (t ≡ u)
  unfolding more
  old_or_end u h = go (among same_tree ts u) refl
    where
      last : (b : Bool) → same_tree t u ≡ b → (b || false) ≡ true → t ≡ u
      last true e r = (same_tree_decides t u).0 e
      last false e r = absurd (false≢true r)

      go : (b : Bool) → among same_tree ts u ≡ b → There ts u ⊎ (t ≡ u)
      go true e = inl e
      go false e = inr (last (same_tree t u) refl (sym (among_append same_tree same_tree_decides ts (t ∷ []) u ∙ ap (λ b. b || (same_tree t u || false)) e) ∙ h))

  -- what stood before stands there still
  get_old : (k : ℕ) → k < length ts → get_or more k (Label False) ≡ get_or ts k (Label False)
  unfolding more
  get_old k h = get_or_append_left ts (t ∷ []) (Label False) k h

  -- operands of the old ones stand before them
  before_old : (u : Tree) → There ts u → Operands (λ o. place same_tree more o < place same_tree more u) u
  before_old u h =
      operands_zip (There ts) (λ o. place same_tree ts o < place same_tree ts u) (λ o. place same_tree more o < place same_tree more u)
      (λ o a b. let p = kept_place o a in let q = kept_place u h in omega (arith, p, q, b)) u (s.there u h) (s.before u h)

  -- and those of the new one before it
  before_end : Operands (λ o. place same_tree more o < place same_tree more t) t
  before_end =
      operands_map (There ts) (λ o. place same_tree more o < place same_tree more t)
      (λ o a. let p = kept_place o a in let q = end_place in let l = place_lt same_tree same_tree_decides ts o a in omega (arith, p, q, l)) t ops

  -- each place is the first of what stands there
  once_at : (k : ℕ) → k < length more → (k < length ts) ⊎ (length ts ≤ k) → place same_tree more (get_or more k (Label False)) ≡ k
  unfolding more
  once_at k h (inl l) = ap (place same_tree more) (get_old k l) ∙ kept_place (get_or ts k (Label False)) (among_get same_tree same_tree_decides ts k (Label False) l) ∙ s.once k l
  once_at k h (inr l) =
      let e : k ≡ length ts = omega (arith, h, l, length-append ts (t ∷ [])) in
      ap (λ n. place same_tree more (get_or more n (Label False))) e ∙ ap (place same_tree more) (get_or-append_seam ts t [] (Label False)) ∙ end_place ∙ sym e

  -- the longer list is settled
  settled_more : IsSettled more
  settled_more = record {
    there = λ u h. ⊎_elim (λ o. operands_map (There ts) (There more) kept u (s.there u o)) (λ e. subst (λ u. Operands (There more) u) e (operands_map (There ts) (There more) kept t ops)) (old_or_end u h);
    before = λ u h. ⊎_elim (before_old u) (λ e. subst (λ u. Operands (λ o. place same_tree more o < place same_tree more u) u) e before_end) (old_or_end u h);
    once = λ k h. once_at k h (cases_lt k (length ts));
    plain = λ u h. ⊎_elim (s.plain u) (λ e. subst (λ u. HasPlainRoot u) e pl) (old_or_end u h);
  }

-- so is the list with the tree, whether or not it is new
pub settled_new : (ts : List Tree) → IsSettled ts → (t : Tree) → Operands (There ts) t → HasPlainRoot t → IsSettled (with_new same_tree ts t)
unfolding more
settled_new ts s t ops pl = go (among same_tree ts t) refl
  where
    go : (b : Bool) → among same_tree ts t ≡ b → IsSettled (cond b ts (ts ++ t ∷ []))
    go true e = s
    go false e = settled_more ts s t ops pl e
