-- Lists without repeats, by a test of equality.
use Rattle.std.specs.Prelude.{ℕ, suc, Bool, true, false, cond, List, [], ◌∷◌, ◌++◌}
use Rattle.std.specs.List.{list_any}

-- a decision as a test
abbrev pub decided : {P : Type 0} → Dec P → Bool
decided (yes p) = true
decided (no n) = false

-- whether it is among them
abbrev pub among : {A : Type 0} → (A → A → Bool) → List A → A → Bool
among same xs x = list_any (λ y. same y x) xs

-- the number of those before its first place
abbrev pub place : {A : Type 0} → (A → A → Bool) → List A → A → ℕ
place same [] x = 0
place same (y ∷ ys) x = cond (same y x) 0 (suc (place same ys x))

-- the list with one more at its end, where it is not there yet
abbrev pub with_new : {A : Type 0} → (A → A → Bool) → List A → A → List A
with_new same xs x = cond (among same xs x) xs (xs ++ x ∷ [])

-- those of the first list, and then each of the second at its first use
abbrev pub firsts : {A : Type 0} → (A → A → Bool) → List A → List A → List A
firsts same done [] = done
firsts same done (x ∷ xs) = firsts same (with_new same done x) xs
