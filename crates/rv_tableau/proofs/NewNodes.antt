-- The pairs of a cover are nodes once its new nodes have been added.
use Rattle.std.proofs.Common.{◌≡◌, Bool, true, false, ◌||◌, cond, List, [], ◌∷◌, refl, ap, ◌∙◌, ◌⊎◌, inl, inr, ⊎_elim}
use Rattle.std.proofs.lemmas.Bool.{false≢true, or_cases, or_left, or_right}
use Rattle.rv_tableau.specs.declared.pairs.Pair.{Pair}
use Rattle.rv_tableau.specs.Pairs.{same_pair, is_one_of}
use Rattle.rv_tableau.specs.Nodes.{is_before, insert_pair, new_nodes}
use Rattle.rv_tableau.proofs.PairLists.{same_pair-true, same_pair-refl}

-- what is in a list stays there
in_insert : (p q : Pair) (xs : List Pair) → is_one_of p xs ≡ true → is_one_of p (insert_pair q xs) ≡ true
in_insert p q [] h = absurd (false≢true h)
in_insert p q (x ∷ xs) h = go (is_before q x) (same_pair q x) h (in_insert p q xs)
  where
    go : (a b : Bool) → (same_pair p x || is_one_of p xs) ≡ true → (is_one_of p xs ≡ true → is_one_of p (insert_pair q xs) ≡ true) → is_one_of p (cond a (q ∷ x ∷ xs) (cond b (x ∷ xs) (x ∷ insert_pair q xs))) ≡ true
    go true b e ih = or_right _ _ e
    go false true e ih = e
    go false false e ih = ⊎_elim (λ s. or_left _ _ s) (λ s. or_right _ _ (ih s)) (or_cases _ _ e)

-- what is inserted is there
insert_there : (q : Pair) (xs : List Pair) → is_one_of q (insert_pair q xs) ≡ true
insert_there q [] = or_left _ _ (same_pair-refl q)
insert_there q (x ∷ xs) = go (is_before q x) (same_pair q x) refl (insert_there q xs)
  where
    go : (a b : Bool) → same_pair q x ≡ b → is_one_of q (insert_pair q xs) ≡ true → is_one_of q (cond a (q ∷ x ∷ xs) (cond b (x ∷ xs) (x ∷ insert_pair q xs))) ≡ true
    go true b e ih = or_left _ _ (same_pair-refl q)
    go false true e ih = or_left _ _ e
    go false false e ih = or_right _ _ ih

-- each pair of the cover is a node then
pub new_covers : (nodes cover : List Pair) (p : Pair) → is_one_of p cover ≡ true → (is_one_of p nodes ≡ true) ⊎ (is_one_of p (new_nodes nodes cover) ≡ true)
new_covers nodes [] p h = absurd (false≢true h)
new_covers nodes (q ∷ cover) p h = go (is_one_of q nodes) refl (or_cases _ _ h) (new_covers nodes cover p)
  where
    go : (b : Bool) → is_one_of q nodes ≡ b → (same_pair p q ≡ true) ⊎ (is_one_of p cover ≡ true) → (is_one_of p cover ≡ true → (is_one_of p nodes ≡ true) ⊎ (is_one_of p (new_nodes nodes cover) ≡ true)) → (is_one_of p nodes ≡ true) ⊎ (is_one_of p (cond b (new_nodes nodes cover) (insert_pair q (new_nodes nodes cover))) ≡ true)
    go true e (inl s) ih = inl (ap (λ r. is_one_of r nodes) (same_pair-true p q s) ∙ e)
    go false e (inl s) ih = inr (ap (λ r. is_one_of r (insert_pair q (new_nodes nodes cover))) (same_pair-true p q s) ∙ insert_there q (new_nodes nodes cover))
    go true e (inr s) ih = ih s
    go false e (inr s) ih = ⊎_elim inl (λ i. inr (in_insert p q (new_nodes nodes cover) i)) (ih s)
