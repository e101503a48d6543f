-- The set of the rows of the nodes that are in a cover.
use Rattle.std.proofs.Common.{◌≡◌, ℕ, zero, suc, ◌+◌, ◌^◌, ◌<◌, Bool, true, false, cond, List, [], ◌∷◌, length, get_or, refl, sym, ap, ◌∙◌, ⊎_elim, arith, bit_or}
use Rattle.std.proofs.lemmas.Bool.{false≢true, or_cases, or_left, or_right, cases_eq}
use Rattle.rv_model.specs.Numbers.{has_bit}
use Rattle.rv_tableau.specs.declared.pairs.Pair.{Pair}
use Rattle.rv_tableau.specs.Pairs.{empty_pair, is_one_of}
use Rattle.rv_tableau.specs.Rows.{rows_in}
use Rattle.rv_model.proofs.SetLemmas.{has_or, has_none, has_same, has_other}

-- the row of a node that is in the cover is in the set
pub rows_has : (cover : List Pair) (n : ℕ) (nodes : List Pair) (k : ℕ) → k < length nodes → is_one_of (get_or nodes k empty_pair) cover ≡ true → has_bit (rows_in cover n nodes) (n + k) ≡ true
rows_has cover n [] k h e = absurd (omega arith)
rows_has cover n (p ∷ nodes) zero h e = ap (λ b. has_bit (cond b (bit_or (2 ^ n) (rows_in cover (suc n) nodes)) (rows_in cover (suc n) nodes)) (n + 0)) e ∙ has_or (2 ^ n) (rows_in cover (suc n) nodes) (n + 0) ∙ or_left _ _ (let i : n + 0 ≡ n = omega arith in ap (has_bit (2 ^ n)) i ∙ has_same n)
rows_has cover n (p ∷ nodes) (suc k) h e = go (is_one_of p cover) (let i : n + suc k ≡ suc n + k = omega arith in ap (has_bit (rows_in cover (suc n) nodes)) i ∙ rows_has cover (suc n) nodes k (omega arith) e)
  where
    go : (b : Bool) → has_bit (rows_in cover (suc n) nodes) (n + suc k) ≡ true → has_bit (cond b (bit_or (2 ^ n) (rows_in cover (suc n) nodes)) (rows_in cover (suc n) nodes)) (n + suc k) ≡ true
    go true r = has_or (2 ^ n) (rows_in cover (suc n) nodes) (n + suc k) ∙ or_right _ _ r
    go false r = r

-- q is the number of a node of the cover
abbrev pub IsNodeIn : List Pair → ℕ → List Pair → ℕ → Type 0
IsNodeIn cover n nodes q = (k : ℕ) × (q ≡ n + k) × (k < length nodes) × (is_one_of (get_or nodes k empty_pair) cover ≡ true)

-- a row of the set is that of a node of the cover
pub rows_only : (cover : List Pair) (n : ℕ) (nodes : List Pair) (q : ℕ) → has_bit (rows_in cover n nodes) q ≡ true → IsNodeIn cover n nodes q
rows_only cover n [] q h = absurd (false≢true (sym (has_none q) ∙ h))
rows_only cover n (p ∷ nodes) q h = go (is_one_of p cover) refl h (rows_only cover (suc n) nodes q)
  where
    next : IsNodeIn cover (suc n) nodes q → IsNodeIn cover n (p ∷ nodes) q
    next r = (suc r.0, omega (arith, r.1), omega (arith, r.2), r.3)

    go : (b : Bool) → is_one_of p cover ≡ b → has_bit (cond b (bit_or (2 ^ n) (rows_in cover (suc n) nodes)) (rows_in cover (suc n) nodes)) q ≡ true → (has_bit (rows_in cover (suc n) nodes) q ≡ true → IsNodeIn cover (suc n) nodes q) → IsNodeIn cover n (p ∷ nodes) q
    go true e s ih = ⊎_elim (λ here. ⊎_elim (λ i. (zero, omega (arith, i), omega arith, e)) (λ i. absurd (false≢true (sym (has_other n q i) ∙ here))) (cases_eq q n)) (λ there. next (ih there)) (or_cases _ _ (sym (has_or (2 ^ n) (rows_in cover (suc n) nodes) q) ∙ s))
    go false e s ih = next (ih s)
