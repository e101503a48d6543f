-- What a rule keeps: at most 32 atoms, ascending by bytes, and each atom of the formula among them.
use Rattle.std.proofs.Common.{◌≡◌, ℕ, zero, suc, ◌<◌, ◌≤◌, Bool, true, false, cond, eqb, List, [], ◌∷◌, length, get_or, refl, sym, subst, inl, inr, arith}
use Rattle.std.specs.Prelude.{map, AllPairs}
use Rattle.std.proofs.lemmas.Bool.{eqb-false}
use Rattle.std.specs.Cmp.Lexicographic.{slice_cmp}
use Rattle.std.specs.Ordering.{nat_cmp}
use Rattle.std.specs.declared.cmp.Ordering.TheVariants.{Less}
use Rattle.rv_model.specs.Ltl.{Ltl}
use Rattle.rv_model.specs.WellFormed.{IsBefore}
use Rattle.rv_model.specs.Formulas.{HasAtomsBelow, IsRule}
use Rattle.rv_ltl.specs.declared.token.Unary.{Unary}
use Rattle.rv_ltl.specs.declared.token.Unary.TheVariants as unary
use Rattle.rv_ltl.specs.declared.token.Binary.{Binary}
use Rattle.rv_ltl.specs.declared.token.Binary.TheVariants as binary
use Rattle.rv_ltl.specs.Grammar.{Expr, Paren, One, Two}
use Rattle.rv_text.specs.inner.Ascending.{Ascends}
use Rattle.rv_ltl.specs.Reach.{Mentions}
use Rattle.rv_ltl.specs.Atoms.{Has, Rises, place_of, one_of, two_of, formula_over, name_at}
use Rattle.rv_ltl.specs.RuleFile.{atoms_of, rule_of}
use Rattle.rv_text.proofs.AscendingLemmas.{all_at}
use Rattle.rv_ltl.proofs.Inserting.{has_low}
use Rattle.rv_ltl.proofs.Collecting.{names_rise, names_made}

-- a mapped list has at a place what the list's element there is mapped to
map_at : {A B : Type 0} (f : A → B) (xs : List A) (i : ℕ) (a : A) (b : B) → i < length xs → get_or (map f xs) i b ≡ f (get_or xs i a)
map_at f [] i a b lt = absurd (omega arith)
map_at f (x ∷ xs) zero a b lt = refl
map_at f (x ∷ xs) (suc i) a b lt = map_at f xs i a b (omega arith)

-- a mapped list is as long as the list
map_length : {A B : Type 0} (f : A → B) (xs : List A) → length (map f xs) ≡ length xs
map_length f [] = refl
map_length f (x ∷ xs) = let h = map_length f xs in omega arith

-- the number at a place of a list stands in the list
has_at : (xs : List ℕ) (i : ℕ) → i < length xs → Has xs (get_or xs i 0)
has_at [] i lt = absurd (omega arith)
has_at (x ∷ xs) zero lt = inl refl
has_at (x ∷ xs) (suc i) lt = inr (has_at xs i (omega arith))

-- of two places in an ascending list the later one has the larger number
rises_at : (low : ℕ) (xs : List ℕ) (i j : ℕ) → Rises low xs → i < j → j < length xs → get_or xs i 0 < get_or xs j 0
rises_at low [] i j r lt l = absurd (omega arith)
rises_at low (x ∷ xs) i zero r lt l = absurd (omega arith)
rises_at low (x ∷ xs) zero (suc j) r lt l = let h = has_low (suc x) xs (get_or xs j 0) r.1 (has_at xs j (omega arith)) in omega (arith, h)
rises_at low (x ∷ xs) (suc i) (suc j) r lt l = rises_at (suc x) xs i j r.1 (omega arith) (omega arith)

-- of two places in ascending names the earlier one has the name that comes first by bytes
before_at : (names : List (List ℕ)) (i j : ℕ) (d : List ℕ) → Ascends (slice_cmp nat_cmp) names → i < j → j < length names → slice_cmp nat_cmp (get_or names i d) (get_or names j d) ≡ Less
before_at [] i j d h lt l = absurd (omega arith)
before_at (x ∷ xs) i zero d h lt l = absurd (omega arith)
before_at (x ∷ xs) zero (suc j) d h lt l = all_at (λ y. slice_cmp nat_cmp x y ≡ Less) xs j d h.0 (omega arith)
before_at (x ∷ xs) (suc i) (suc j) d h lt l = before_at xs i j d h.1 (omega arith) (omega arith)

-- the atoms' names ascend
pairs : (names : List (List ℕ)) (xs : List ℕ) → Ascends (slice_cmp nat_cmp) names → Rises 0 xs → ((y : ℕ) → Has xs y → y < length names) → AllPairs IsBefore (map (name_at names) xs)
pairs names xs ascends rises inside i j d lt l =
    let below : j < length xs = omega (arith, l, map_length (name_at names) xs) in
    let at_i = map_at (name_at names) xs i 0 d (omega (arith, below, lt)) in
    let at_j = map_at (name_at names) xs j 0 d below in
    rw (at_i, at_j) (before_at names (get_or xs i 0) (get_or xs j 0) [] ascends (rises_at 0 xs i j rises lt below) (inside (get_or xs j 0) (has_at xs j below)))

-- the place of an atom is below the number of atoms
place_inside : (xs : List ℕ) (y : ℕ) → Has xs y → place_of xs y < length xs
place_inside [] y h = absurd h
place_inside (x ∷ xs) y h = by_test (eqb x y) refl h (place_inside xs y)
  where
    by_test : (b : Bool) → eqb x y ≡ b → Has (x ∷ xs) y → (Has xs y → place_of xs y < length xs) → cond b 0 (suc (place_of xs y)) < length (x ∷ xs)
    by_test true t k ih = omega arith
    by_test false t (inl e) ih = absurd (eqb-false x y t e)
    by_test false t (inr k) ih = let r = ih k in omega (arith, r)

-- a formula under an operator has its atoms below n where the operand has
one_below : (n : ℕ) (op : Unary) (f : Ltl) → HasAtomsBelow n f → HasAtomsBelow n (one_of op f)
one_below n unary.Always f h = h
one_below n unary.Eventually f h = h
one_below n unary.Next f h = h
one_below n unary.Not f h = h

-- two formulas with an operator between them have their atoms below n where both have
two_below : (n : ℕ) (op : Binary) (f g : Ltl) → HasAtomsBelow n f → HasAtomsBelow n g → HasAtomsBelow n (two_of op f g)
two_below n binary.And f g h k = (h, k)
two_below n binary.Or f g h k = (h, k)
two_below n binary.Until f g h k = (h, k)
two_below n binary.Release f g h k = (h, k)
two_below n binary.WeakUntil f g h k = (h, k)
two_below n binary.Imply f g h k = (h, k)
two_below n binary.Equivalent f g h k = (h, k)

-- where all names of a formula are among the atoms, the numbered formula has its atoms below their number
atoms_below : (xs : List ℕ) (f : Expr) → ((y : ℕ) → Mentions f y → Has xs y) → HasAtomsBelow (length xs) (formula_over xs f)
atoms_below xs Expr.True h = tt
atoms_below xs Expr.False h = tt
atoms_below xs (Expr.Name x) h = place_inside xs x (h x refl)
atoms_below xs (Paren f) h = atoms_below xs f h
atoms_below xs (One op f) h = one_below (length xs) op (formula_over xs f) (atoms_below xs f h)
atoms_below xs (Two op f g) h = two_below (length xs) op (formula_over xs f) (formula_over xs g) (atoms_below xs f (λ y m. h y (inl m))) (atoms_below xs g (λ y m. h y (inr m)))

-- the rule of a formula keeps it all
pub is_rule : (names : List (List ℕ)) (f : Expr) → Ascends (slice_cmp nat_cmp) names → length (atoms_of f) ≤ 32 → ((y : ℕ) → Has (atoms_of f) y → y < length names) → IsRule (rule_of names f)
is_rule names f ascends few inside =
    let l = map_length (name_at names) (atoms_of f) in
    let P : ℕ → Type 0 = λ n. HasAtomsBelow n (formula_over (atoms_of f) f) in
    record {
      few_atoms = omega (arith, l, few);
      atoms_ascend = pairs names (atoms_of f) ascends (names_rise (λ x. true) f [] tt) inside;
      in_range = subst P (sym l) (atoms_below (atoms_of f) f (λ y m. names_made (λ x. true) f [] y m refl));
    }
