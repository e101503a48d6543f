-- Entering the parts one by one gives the numbered parts in the order of their first use.
use Rattle.std.proofs.Common.{◌≡◌, ℕ, suc, Bool, true, false, ◌||◌, cond, List, [], ◌∷◌, ◌++◌, map, refl, sym, ap, ◌∙◌}
use mathlib.Core.Path.{ap₂}
use Rattle.std.proofs.lemmas.Bool.Decides.{same_from_decides}
use Rattle.std.proofs.lemmas.List.{map-append}
use Rattle.rv_nnf.specs.Tree.{Tree, Label, Next, And, Or, Until, Release}
use Rattle.rv_nnf.specs.Parts.{PartValue}
use Rattle.rv_nnf.specs.Lists.{among, place, with_new, firsts}
use Rattle.rv_nnf.specs.NormalForm.{same_tree, walk, parts_of, part_value_of, numbered_parts}
use Rattle.rv_nnf.specs.inner.Entering.{same_part, Entered, enter}
use Rattle.rv_nnf.proofs.Places.{place_append, firsts_kept, firsts_place}
use Rattle.rv_nnf.proofs.Settled.{same_tree_decides, There, Operands, IsSettled, settled_nil}
use Rattle.rv_nnf.proofs.Walked.{IsPlainTree, after, after_one, after_two, walked}
use Rattle.rv_nnf.proofs.NumberedSays.{back, back_is}
use Rattle.rv_nnf.proofs.EnterLemmas.{same_part_decides}

-- the parts of a tree, entered one by one without a limit
abbrev pub numbering : List PartValue → Tree → Entered
numbering ps (Label f) = enter ps (PartValue.Label f)
numbering ps (Next a) = let r = numbering ps a in enter r.0 (PartValue.Next r.1)
numbering ps (And a b) = let r = numbering ps a in let q = numbering r.0 b in enter q.0 (PartValue.And r.1 q.1)
numbering ps (Or a b) = let r = numbering ps a in let q = numbering r.0 b in enter q.0 (PartValue.Or r.1 q.1)
numbering ps (Until a b) = let r = numbering ps a in let q = numbering r.0 b in enter q.0 (PartValue.Until r.1 q.1)
numbering ps (Release a b) = let r = numbering ps a in let q = numbering r.0 b in enter q.0 (PartValue.Release r.1 q.1)

-- two trees whose operands are there are the same exactly where their parts are
same_parts : (ts : List Tree) (u v : Tree) → Operands (There ts) u → Operands (There ts) v → same_part (part_value_of ts u) (part_value_of ts v) ≡ same_tree u v
same_parts ts u v h k =
    same_from_decides (same_part (part_value_of ts u) (part_value_of ts v)) (same_tree u v)
    ((λ e. sym (back_is ts u h) ∙ ap (back ts) ((same_part_decides _ _).0 e) ∙ back_is ts v k), (λ e. (same_part_decides _ _).1 (ap (part_value_of ts) e)))
    (same_tree_decides u v)

-- the operands of each of them are in ts
abbrev AllThere : List Tree → List Tree → Type 0
AllThere ts [] = Unit {0}
AllThere ts (u ∷ us) = Operands (There ts) u × AllThere ts us

-- a part is among the parts exactly where its subtree is among the subtrees
among_parts : (ts us : List Tree) (u : Tree) → AllThere ts us → Operands (There ts) u → among same_part (map (part_value_of ts) us) (part_value_of ts u) ≡ among same_tree us u
among_parts ts [] u h k = refl
among_parts ts (v ∷ us) u h k = ap₂ (λ a b. a || b) (same_parts ts v u h.0 k) (among_parts ts us u h.1 k)

-- and has the same place
place_parts : (ts us : List Tree) (u : Tree) → AllThere ts us → Operands (There ts) u → place same_part (map (part_value_of ts) us) (part_value_of ts u) ≡ place same_tree us u
place_parts ts [] u h k = refl
place_parts ts (v ∷ us) u h k = ap₂ (λ a n. cond a 0 (suc n)) (same_parts ts v u h.0 k) (place_parts ts us u h.1 k)

-- parts keep their numbers as the list goes on
piece_kept : (ts more : List Tree) (u : Tree) → Operands (There ts) u → part_value_of (ts ++ more) u ≡ part_value_of ts u
piece_kept ts more (Label f) h = refl
piece_kept ts more (Next a) h = ap PartValue.Next (place_append same_tree same_tree_decides ts more a h)
piece_kept ts more (And a b) h = ap₂ PartValue.And (place_append same_tree same_tree_decides ts more a h.0) (place_append same_tree same_tree_decides ts more b h.1)
piece_kept ts more (Or a b) h = ap₂ PartValue.Or (place_append same_tree same_tree_decides ts more a h.0) (place_append same_tree same_tree_decides ts more b h.1)
piece_kept ts more (Until a b) h = ap₂ PartValue.Until (place_append same_tree same_tree_decides ts more a h.0) (place_append same_tree same_tree_decides ts more b h.1)
piece_kept ts more (Release a b) h = ap₂ PartValue.Release (place_append same_tree same_tree_decides ts more a h.0) (place_append same_tree same_tree_decides ts more b h.1)

-- so do all of them
pieces_kept : (ts more us : List Tree) → AllThere ts us → map (part_value_of (ts ++ more)) us ≡ map (part_value_of ts) us
pieces_kept ts more [] h = refl
pieces_kept ts more (u ∷ us) h = ap₂ (λ p ps. p ∷ ps) (piece_kept ts more u h.0) (pieces_kept ts more us h.1)

-- the operands of a settled list are there
all_there : (ts : List Tree) → IsSettled ts → (us : List Tree) → ((u : Tree) → among same_tree us u ≡ true → There ts u) → AllThere ts us
all_there ts s [] h = tt
all_there ts s (u ∷ us) h = (s.there u (h u (first u us)), all_there ts s us (λ v e. h v (later u us v e)))
  where
    first : (u : Tree) (us : List Tree) → among same_tree (u ∷ us) u ≡ true
    first u us = ap (λ b. b || among same_tree us u) ((same_tree_decides u u).1 refl)

    later : (u : Tree) (us : List Tree) (v : Tree) → among same_tree us v ≡ true → among same_tree (u ∷ us) v ≡ true
    later u us v e = go (same_tree u v)
      where
        go : (b : Bool) → (b || among same_tree us v) ≡ true
        go true = refl
        go false = e

-- parts, and the number of one of them
pair : List PartValue → ℕ → List PartValue × ℕ
pair ps n = (ps, n)

-- one part entered
entered : (ts : List Tree) → IsSettled ts → (t : Tree) → Operands (There ts) t → enter (numbered_parts ts) (part_value_of ts t) ≡ (numbered_parts (with_new same_tree ts t), place same_tree (with_new same_tree ts t) t)
entered ts s t ops = ap (λ b. let qs = cond b (numbered_parts ts) (numbered_parts ts ++ part_value_of ts t ∷ []) in let r : List PartValue × ℕ = (qs, place same_part qs (part_value_of ts t)) in r) (among_parts ts ts t there ops) ∙ go (among same_tree ts t)
  where
    there : AllThere ts ts
    there = all_there ts s ts (λ u e. e)

    longer : numbered_parts ts ++ part_value_of ts t ∷ [] ≡ numbered_parts (ts ++ t ∷ [])
    longer =
        ap₂ (λ ps p. ps ++ p ∷ []) (sym (pieces_kept ts (t ∷ []) ts there)) (sym (piece_kept ts (t ∷ []) t ops))
        ∙ sym (map-append (part_value_of (ts ++ t ∷ [])) ts (t ∷ []))

    both : AllThere ts (ts ++ t ∷ [])
    both = go' ts there
      where
        go' : (us : List Tree) → AllThere ts us → AllThere ts (us ++ t ∷ [])
        go' [] h = (ops, tt)
        go' (u ∷ us) h = (h.0, go' us h.1)

    go : (b : Bool) → (let qs = cond b (numbered_parts ts) (numbered_parts ts ++ part_value_of ts t ∷ []) in let r : List PartValue × ℕ = (qs, place same_part qs (part_value_of ts t)) in r) ≡ (numbered_parts (cond b ts (ts ++ t ∷ [])), place same_tree (cond b ts (ts ++ t ∷ [])) t)
    go true = ap (λ n. let r : List PartValue × ℕ = (numbered_parts ts, n) in r) (place_parts ts ts t there ops)
    go false =
        ap₂ (λ ps n. let r : List PartValue × ℕ = (ps, n) in r) longer
        (ap (λ ps. place same_part ps (part_value_of ts t)) (sym (map-append (part_value_of ts) ts (t ∷ []))) ∙ place_parts ts (ts ++ t ∷ []) t both ops)

-- ---- a whole tree

-- the numbered list, and the number of a subtree
Numbered : List Tree → Tree → List PartValue × ℕ
Numbered ts t = (numbered_parts ts, place same_tree ts t)

-- a tree of two operands
linked_two : (C : Tree → Tree → Tree) (P : ℕ → ℕ → PartValue) (ts : List Tree) (a b : Tree) → ((ts : List Tree) → part_value_of ts (C a b) ≡ P (place same_tree ts a) (place same_tree ts b)) → IsSettled (after (after ts a) b) → There (after ts a) a → Operands (There (after (after ts a) b)) (C a b) → numbering (numbered_parts ts) a ≡ Numbered (after ts a) a → numbering (numbered_parts (after ts a)) b ≡ Numbered (after (after ts a) b) b → (let r = numbering (numbered_parts ts) a in let q = numbering r.0 b in enter q.0 (P r.1 q.1)) ≡ Numbered (firsts same_tree ts (walk a ++ (walk b ++ C a b ∷ []))) (C a b)
unfolding Numbered
linked_two C P ts a b shape s ha ops ea eb =
    let t1 = after ts a in
    let t2 = after t1 b in
    ap (λ (r : List PartValue × ℕ). let q = numbering r.0 b in enter q.0 (P r.1 q.1)) ea
    ∙ ap (λ (q : List PartValue × ℕ). enter q.0 (P (place same_tree t1 a) q.1)) eb
    ∙ ap (λ n. enter (numbered_parts t2) (P n (place same_tree t2 b))) (sym (firsts_place same_tree same_tree_decides t1 (walk b) a ha))
    ∙ ap (enter (numbered_parts t2)) (sym (shape t2))
    ∙ entered t2 s (C a b) ops
    ∙ ap (λ ts. let r : List PartValue × ℕ = (numbered_parts ts, place same_tree ts (C a b)) in r) (sym (after_two ts a b (C a b)))

-- entering a tree adds its subtrees to the numbered list
linked : (t : Tree) → IsPlainTree t → (ts : List Tree) → IsSettled ts → numbering (numbered_parts ts) t ≡ Numbered (after ts t) t
unfolding Numbered
linked (Label f) p ts s = entered ts s (Label f) tt
linked (Next a) p ts s =
    let w = walked a p ts s in
    ap (λ (r : List PartValue × ℕ). enter r.0 (PartValue.Next r.1)) (linked a p ts s) ∙ entered (after ts a) w.0 (Next a) w.1
    ∙ ap (λ ts. let r : List PartValue × ℕ = (numbered_parts ts, place same_tree ts (Next a)) in r) (sym (after_one ts a (Next a)))
linked (And a b) p ts s = let w = walked a p.0 ts s in let v = walked b p.1 (after ts a) w.0 in linked_two And PartValue.And ts a b (λ ts. refl) v.0 w.1 (firsts_kept same_tree same_tree_decides (after ts a) (walk b) a w.1, v.1) (linked a p.0 ts s) (linked b p.1 (after ts a) w.0)
linked (Or a b) p ts s = let w = walked a p.0 ts s in let v = walked b p.1 (after ts a) w.0 in linked_two Or PartValue.Or ts a b (λ ts. refl) v.0 w.1 (firsts_kept same_tree same_tree_decides (after ts a) (walk b) a w.1, v.1) (linked a p.0 ts s) (linked b p.1 (after ts a) w.0)
linked (Until a b) p ts s = let w = walked a p.0 ts s in let v = walked b p.1 (after ts a) w.0 in linked_two Until PartValue.Until ts a b (λ ts. refl) v.0 w.1 (firsts_kept same_tree same_tree_decides (after ts a) (walk b) a w.1, v.1) (linked a p.0 ts s) (linked b p.1 (after ts a) w.0)
linked (Release a b) p ts s = let w = walked a p.0 ts s in let v = walked b p.1 (after ts a) w.0 in linked_two Release PartValue.Release ts a b (λ ts. refl) v.0 w.1 (firsts_kept same_tree same_tree_decides (after ts a) (walk b) a w.1, v.1) (linked a p.0 ts s) (linked b p.1 (after ts a) w.0)

-- the parts entered one by one are the numbered parts
pub numbering_is : (t : Tree) → IsPlainTree t → numbering [] t ≡ (numbered_parts (parts_of t), place same_tree (parts_of t) t)
unfolding Numbered
numbering_is t p = linked t p [] settled_nil
