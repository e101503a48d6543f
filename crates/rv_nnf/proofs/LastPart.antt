-- The whole formula stands last among the numbered parts.
use Rattle.std.proofs.Common.{◌≡◌, ℕ, ◌+◌, ◌-◌, ◌<◌, ◌≤◌, Bool, true, false, cond, List, [], ◌∷◌, ◌++◌, length, refl, sym, ap, ◌∙◌, subst, ⊎_elim, arith, length-append}
use Rattle.std.proofs.lemmas.List.{length-map}
use Rattle.std.proofs.lemmas.Bool.{false≢true, or_cases}
use Rattle.rv_model.specs.Formulas.{HasAtomsBelow}
use Rattle.rv_model.specs.Ltl.{Ltl}
use Rattle.rv_model.specs.Meaning.{meaning}
use Rattle.rv_nnf.specs.Tree.{Tree, Label, Next, And, Or, Until, Release, tree_of}
use Rattle.rv_nnf.specs.Parts.{part_meaning, IsNormal}
use Rattle.rv_nnf.specs.Lists.{among, place, with_new}
use Rattle.rv_nnf.specs.NormalForm.{same_tree, parts_of, part_value_of, numbered_parts}
use Rattle.rv_nnf.proofs.Places.{place_end, among_append}
use Rattle.rv_nnf.proofs.Settled.{same_tree_decides, There, settled_nil}
use Rattle.rv_nnf.proofs.Walked.{after, after_one, after_two, walked}
use Rattle.rv_nnf.proofs.NumberedSays.{numbered_parts_normal, numbered_parts_says}
use Rattle.rv_nnf.proofs.TreeLabels.{tree_plain}
use Rattle.rv_nnf.proofs.TruthKept.{keeps}

-- ---- the whole stands last

-- how many subtrees a tree has, repeats counted
abbrev size : Tree → ℕ
size (Label f) = 1
size (Next a) = size a + 1
size (And a b) = size a + size b + 1
size (Or a b) = size a + size b + 1
size (Until a b) = size a + size b + 1
size (Release a b) = size a + size b + 1

-- each in the list is at most that large
abbrev Small : ℕ → List Tree → Type 0
Small n ts = (u : Tree) → There ts u → size u ≤ n

-- of two such lists
small_append : (n : ℕ) (xs ys : List Tree) → Small n xs → Small n ys → Small n (xs ++ ys)
small_append n xs ys h k u i = ⊎_elim (h u) (k u) (or_cases _ _ (sym (among_append same_tree same_tree_decides xs ys u) ∙ i))

-- of one tree
small_one : (n : ℕ) (t : Tree) → size t ≤ n → Small n (t ∷ [])
small_one n t h u i = ⊎_elim (λ e. subst (λ u. size u ≤ n) ((same_tree_decides t u).0 e) h) (λ e. absurd (false≢true e)) (or_cases (same_tree t u) false i)

-- a bound may be wider
small_more : (m n : ℕ) (ts : List Tree) → m ≤ n → Small m ts → Small n ts
small_more m n ts h s u i = let l = s u i in omega arith

-- one more small tree
small_new : (n : ℕ) (ts : List Tree) (t : Tree) → Small n ts → size t ≤ n → Small n (with_new same_tree ts t)
small_new n ts t h l = go (among same_tree ts t)
  where
    go : (b : Bool) → Small n (cond b ts (ts ++ t ∷ []))
    go true = h
    go false = small_append n ts (t ∷ []) h (small_one n t l)

-- after a walk over a small tree
after_small : (n : ℕ) (t : Tree) (ts : List Tree) → size t ≤ n → Small n ts → Small n (after ts t)
after_small n (Label f) ts l h = small_new n ts (Label f) h l
after_small n (Next a) ts l h = subst (Small n) (sym (after_one ts a (Next a))) (small_new n (after ts a) (Next a) (after_small n a ts (omega arith) h) l)
after_small n (And a b) ts l h = subst (Small n) (sym (after_two ts a b (And a b))) (small_new n (after (after ts a) b) (And a b) (after_small n b (after ts a) (omega arith) (after_small n a ts (omega arith) h)) l)
after_small n (Or a b) ts l h = subst (Small n) (sym (after_two ts a b (Or a b))) (small_new n (after (after ts a) b) (Or a b) (after_small n b (after ts a) (omega arith) (after_small n a ts (omega arith) h)) l)
after_small n (Until a b) ts l h = subst (Small n) (sym (after_two ts a b (Until a b))) (small_new n (after (after ts a) b) (Until a b) (after_small n b (after ts a) (omega arith) (after_small n a ts (omega arith) h)) l)
after_small n (Release a b) ts l h = subst (Small n) (sym (after_two ts a b (Release a b))) (small_new n (after (after ts a) b) (Release a b) (after_small n b (after ts a) (omega arith) (after_small n a ts (omega arith) h)) l)

-- of no tree
small_nil : (n : ℕ) → Small n []
small_nil n u h = absurd (false≢true h)

-- the list ends with the tree, which isn't before
abbrev EndsWith : List Tree → Tree → Type 0
EndsWith ts t = (front : List Tree) × (among same_tree front t ≡ false) × (ts ≡ front ++ t ∷ [])

-- a tree that is larger than all others is new, and comes last
ends_new : (n : ℕ) (ts : List Tree) (t : Tree) → Small n ts → n < size t → EndsWith (with_new same_tree ts t) t
ends_new n ts t h l = go (among same_tree ts t) refl
  where
    go : (b : Bool) → among same_tree ts t ≡ b → EndsWith (cond b ts (ts ++ t ∷ [])) t
    go true e = let s = h t e in absurd (omega arith)
    go false e = (ts, e, refl)

-- the subtrees of two operands are no larger than both together
two_small : (a b : Tree) → Small (size a + size b) (after (after [] a) b)
two_small a b = after_small (size a + size b) b (after [] a) (omega arith) (after_small (size a + size b) a [] (omega arith) (small_nil _))

-- the whole tree stands last
ends : (t : Tree) → EndsWith (parts_of t) t
ends (Label f) = ([], refl, refl)
ends (Next a) = subst (λ ts. EndsWith ts (Next a)) (sym (after_one [] a (Next a))) (ends_new (size a) (after [] a) (Next a) (after_small (size a) a [] (omega arith) (small_nil _)) (omega arith))
ends (And a b) = subst (λ ts. EndsWith ts (And a b)) (sym (after_two [] a b (And a b))) (ends_new (size a + size b) (after (after [] a) b) (And a b) (two_small a b) (omega arith))
ends (Or a b) = subst (λ ts. EndsWith ts (Or a b)) (sym (after_two [] a b (Or a b))) (ends_new (size a + size b) (after (after [] a) b) (Or a b) (two_small a b) (omega arith))
ends (Until a b) = subst (λ ts. EndsWith ts (Until a b)) (sym (after_two [] a b (Until a b))) (ends_new (size a + size b) (after (after [] a) b) (Until a b) (two_small a b) (omega arith))
ends (Release a b) = subst (λ ts. EndsWith ts (Release a b)) (sym (after_two [] a b (Release a b))) (ends_new (size a + size b) (after (after [] a) b) (Release a b) (two_small a b) (omega arith))

-- its place is the last
last_place : (ts : List Tree) (t : Tree) → EndsWith ts t → place same_tree ts t ≡ length ts - 1
last_place ts t (front, h, e) =
    ap (λ ts. place same_tree ts t) e ∙ place_end same_tree same_tree_decides front t h ∙ (let l = length-append front (t ∷ []) in let m = ap length e in omega arith)

-- so there is some part
some_parts : (ts : List Tree) (t : Tree) → EndsWith ts t → 1 ≤ length ts
some_parts ts t (front, h, e) = let l = length-append front (t ∷ []) in let m = ap length e in omega arith

-- ---- the law

-- the last part of the numbered list
pub last_says : (f : Ltl) → HasAtomsBelow 32 f → part_meaning (numbered_parts (parts_of (tree_of f true))) (length (numbered_parts (parts_of (tree_of f true))) - 1) ≡ meaning f
last_says f a =
    let t = tree_of f true in
    let ts = parts_of t in
    let w = walked t (tree_plain f true a) [] settled_nil in
    let e : length (numbered_parts ts) - 1 ≡ place same_tree ts t = (let l = length-map ts (part_value_of ts) in let p = last_place ts t (ends t) in omega arith) in
    ap (part_meaning (numbered_parts ts)) e ∙ numbered_parts_says ts w.0 t w.1 ∙ keeps f true

-- up to 64 numbered parts are a normal form
pub normal_is : (f : Ltl) → HasAtomsBelow 32 f → length (parts_of (tree_of f true)) ≤ 64 → IsNormal (numbered_parts (parts_of (tree_of f true)))
normal_is f a h =
    let t = tree_of f true in
    numbered_parts_normal (parts_of t) (walked t (tree_plain f true a) [] settled_nil).0 (some_parts (parts_of t) t (ends t)) h
