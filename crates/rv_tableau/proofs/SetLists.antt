-- The list of the sets that are taken in turn.
use Rattle.std.proofs.Common.{◌≡◌, ℕ, zero, suc, ◌+◌, ◌<◌, ◌≤◌, Bool, true, false, cond, nat_eq, List, [], ◌∷◌, ◌++◌, map, length, refl, sym, ap, ◌∙◌, subst, ⊎_elim, arith, length-append}
use Rattle.std.specs.Prelude.{slice_index}
use Rattle.std.specs.Bool.{Decides}
use Rattle.std.proofs.lemmas.List.{get_or_append_left}
use Rattle.std.proofs.lemmas.Bool.{false≢true, or_cases, or_left, or_right, eqb-true, eq-eqb}
use Rattle.std.proofs.lemmas.Bool.Decides.{Decides-eqb}
use Rattle.rv_nnf.specs.Lists.{among, with_new, firsts}
use Rattle.rv_nnf.proofs.Places.{new_there, firsts_kept}
use Rattle.rv_tableau.specs.declared.pairs.Pair.{Pair}
use Rattle.rv_tableau.specs.Pairs.{is_one_of}
use Rattle.rv_tableau.proofs.PairLists.{same_pair-true}

-- the test of numbers decides
pub same_number : (a b : ℕ) → Decides (nat_eq a b) (a ≡ b)
same_number a b = Decides-eqb a b

-- the set is on the list
abbrev pub OnList : List ℕ → ℕ → Type 0
OnList sets set = among nat_eq sets set ≡ true

-- the list with more sets at its end
abbrev pub joined : List ℕ → List ℕ → List ℕ
joined sets xs = firsts nat_eq sets xs

-- one more set at most
new_len : (sets : List ℕ) (x : ℕ) → (length sets ≤ length (with_new nat_eq sets x)) × (length (with_new nat_eq sets x) ≤ length sets + 1)
new_len sets x = go (among nat_eq sets x)
  where
    go : (b : Bool) → (length sets ≤ length (cond b sets (sets ++ x ∷ []))) × (length (cond b sets (sets ++ x ∷ [])) ≤ length sets + 1)
    go true = (omega arith, omega arith)
    go false = let l = length-append sets (x ∷ []) in (omega arith, omega arith)

-- the sets before keep their places
new_get : (sets : List ℕ) (x k : ℕ) → k < length sets → slice_index (with_new nat_eq sets x) k ≡ slice_index sets k
new_get sets x k h = go (among nat_eq sets x)
  where
    go : (b : Bool) → slice_index (cond b sets (sets ++ x ∷ [])) k ≡ slice_index sets k
    go true = refl
    go false = get_or_append_left sets (x ∷ []) 0 k h

-- as many more sets at most
pub joined_len : (sets xs : List ℕ) → (length sets ≤ length (joined sets xs)) × (length (joined sets xs) ≤ length sets + length xs)
joined_len sets [] = (omega arith, omega arith)
joined_len sets (x ∷ xs) = let l = joined_len (with_new nat_eq sets x) xs in let m = new_len sets x in (omega (arith, l.0, m.0), omega (arith, l.1, m.1))

-- the sets before keep their places
pub joined_get : (sets xs : List ℕ) (k : ℕ) → k < length sets → slice_index (joined sets xs) k ≡ slice_index sets k
joined_get sets [] k h = refl
joined_get sets (x ∷ xs) k h = let m = new_len sets x in joined_get (with_new nat_eq sets x) xs k (omega (arith, m.0, h)) ∙ new_get sets x k h

-- what joins is on the list
pub joined_there : (sets xs : List ℕ) (x : ℕ) → among nat_eq xs x ≡ true → OnList (joined sets xs) x
joined_there sets [] x h = absurd (false≢true h)
joined_there sets (y ∷ ys) x h =
    ⊎_elim (λ e. subst (λ z. OnList (joined sets (y ∷ ys)) z) (eqb-true y x e) (firsts_kept nat_eq same_number (with_new nat_eq sets y) ys y (new_there nat_eq same_number sets y)))
    (λ e. joined_there (with_new nat_eq sets y) ys x e) (or_cases _ _ h)

-- the next set of each new node joins
pub next_there : (new : List Pair) (p : Pair) → is_one_of p new ≡ true → among nat_eq (map (λ (p : Pair). p.next) new) p.next ≡ true
next_there [] p h = absurd (false≢true h)
next_there (q ∷ qs) p h =
    ⊎_elim (λ e. or_left _ _ (eq-eqb q.next p.next (ap (λ (r : Pair). r.next) (sym (same_pair-true p q e))))) (λ e. or_right _ _ (next_there qs p e)) (or_cases _ _ h)

-- what is on the list has a place
pub on_index : (sets : List ℕ) (s : ℕ) → OnList sets s → (k : ℕ) × (k < length sets) × (slice_index sets k ≡ s)
on_index [] s h = absurd (false≢true h)
on_index (x ∷ xs) s h = ⊎_elim (λ e. (zero, omega arith, eqb-true x s e)) (λ e. let r = on_index xs s e in (suc r.0, omega (arith, r.1), r.2)) (or_cases _ _ h)
