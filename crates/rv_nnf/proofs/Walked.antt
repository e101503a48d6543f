-- A walk over a tree, whose subtrees join the list where they are not there yet.
use Rattle.std.proofs.Common.{◌≡◌, List, [], ◌∷◌, ◌++◌, sym, ◌∙◌, subst}
use Rattle.rv_nnf.specs.Tree.{Tree, Label, Next, And, Or, Until, Release}
use Rattle.rv_model.specs.Labels.{IsLabel}
use Rattle.rv_nnf.specs.Lists.{with_new, firsts}
use Rattle.rv_nnf.specs.NormalForm.{same_tree, walk}
use Rattle.rv_nnf.proofs.Places.{new_there, firsts_append, firsts_kept}
use Rattle.rv_nnf.proofs.Settled.{same_tree_decides, Operands, HasPlainRoot, There, IsSettled, settled_new}

-- ---- a whole walk

-- all labels of the tree are proper
abbrev pub IsPlainTree : Tree → Type 0
IsPlainTree (Label f) = IsLabel f
IsPlainTree (Next a) = IsPlainTree a
IsPlainTree (And a b) = IsPlainTree a × IsPlainTree b
IsPlainTree (Or a b) = IsPlainTree a × IsPlainTree b
IsPlainTree (Until a b) = IsPlainTree a × IsPlainTree b
IsPlainTree (Release a b) = IsPlainTree a × IsPlainTree b

-- the list after a walk
abbrev pub after : List Tree → Tree → List Tree
after ts t = firsts same_tree ts (walk t)

-- a walk over one operand, then the tree
pub after_one : (ts : List Tree) (a t : Tree) → firsts same_tree ts (walk a ++ t ∷ []) ≡ with_new same_tree (after ts a) t
after_one ts a t = firsts_append same_tree same_tree_decides ts (walk a) (t ∷ [])

-- a walk over two operands, then the tree
pub after_two : (ts : List Tree) (a b t : Tree) → firsts same_tree ts (walk a ++ (walk b ++ t ∷ [])) ≡ with_new same_tree (after (after ts a) b) t
after_two ts a b t = firsts_append same_tree same_tree_decides ts (walk a) (walk b ++ t ∷ []) ∙ after_one (after ts a) b t

-- the list is settled and has the tree
abbrev IsWalked : List Tree → Tree → Type 0
IsWalked ts t = IsSettled ts × There ts t

-- one more tree whose operands are there
walked_new : (ts : List Tree) → IsSettled ts → (t : Tree) → Operands (There ts) t → HasPlainRoot t → IsWalked (with_new same_tree ts t) t
walked_new ts s t ops pl = (settled_new ts s t ops pl, new_there same_tree same_tree_decides ts t)

-- the same for two operands
walked_two : (ts : List Tree) (a b t : Tree) → IsWalked (after ts a) a → IsWalked (after (after ts a) b) b → (There (after (after ts a) b) a → There (after (after ts a) b) b → Operands (There (after (after ts a) b)) t) → HasPlainRoot t → IsWalked (firsts same_tree ts (walk a ++ (walk b ++ t ∷ []))) t
walked_two ts a b t wa wb ops pl =
    subst (λ ts. IsWalked ts t) (sym (after_two ts a b t))
    (walked_new (after (after ts a) b) wb.0 t (ops (firsts_kept same_tree same_tree_decides (after ts a) (walk b) a wa.1) wb.1) pl)

-- after a walk the list is settled and has the tree
pub walked : (t : Tree) → IsPlainTree t → (ts : List Tree) → IsSettled ts → IsWalked (after ts t) t
walked (Label f) p ts s = walked_new ts s (Label f) tt p
walked (Next a) p ts s = let w = walked a p ts s in subst (λ ts. IsWalked ts (Next a)) (sym (after_one ts a (Next a))) (walked_new (after ts a) w.0 (Next a) w.1 tt)
walked (And a b) p ts s = let w = walked a p.0 ts s in walked_two ts a b (And a b) w (walked b p.1 (after ts a) w.0) (λ x y. (x, y)) tt
walked (Or a b) p ts s = let w = walked a p.0 ts s in walked_two ts a b (Or a b) w (walked b p.1 (after ts a) w.0) (λ x y. (x, y)) tt
walked (Until a b) p ts s = let w = walked a p.0 ts s in walked_two ts a b (Until a b) w (walked b p.1 (after ts a) w.0) (λ x y. (x, y)) tt
walked (Release a b) p ts s = let w = walked a p.0 ts s in walked_two ts a b (Release a b) w (walked b p.1 (after ts a) w.0) (λ x y. (x, y)) tt
