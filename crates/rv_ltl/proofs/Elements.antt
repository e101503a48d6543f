-- A definition at its place in the program's list.
use Rattle.std.proofs.Common.{◌≡◌, ◌≢◌, ℕ, zero, suc, ◌<◌, Bool, true, false, cond, eqb, List, [], ◌∷◌, ◌++◌, length, get_or, Some, None, refl, sym, ap, ◌∙◌, arith}
use Rattle.std.proofs.lemmas.Bool.{eqb-true, eqb-false}
use Rattle.rv_ltl.specs.declared.token.CodeStep.{CodeStep}
use Rattle.rv_ltl.specs.declared.definitions.Definition.{Definition}
use Rattle.rv_ltl.specs.Parse.{◌>>=◌}
use Rattle.rv_ltl.specs.File.{Def}
use Rattle.rv_ltl.specs.inner.Postfix.{code}
use Rattle.rv_ltl.specs.inner.Machine.{Values, value, computed, formulas, def, defs, AllCoded}
use Rattle.rv_ltl.specs.inner.Weights.{index_of, def_at}
use Rattle.rv_ltl.proofs.Running.{coded_value}

-- there are as many definitions as the program has
pub length-defs : (xs : List Definition) → length (defs xs) ≡ length xs
length-defs [] = refl
length-defs (x ∷ xs) = let h = length-defs xs in omega arith

-- the definition at a place is that of the program's one at this place
pub read_def : (xs : List Definition) (i : ℕ) (x : Definition) → i < length xs → x ≡ get_or xs i x → def_at (defs xs) i ≡ def x
read_def [] i x lt e = absurd (omega arith)
read_def (y ∷ xs) zero x lt e = ap def (sym e)
read_def (y ∷ xs) (suc i) x lt e = read_def xs i x (omega arith) e

-- its code is that of a formula
pub coded_at : (xs : List Definition) (i : ℕ) (x : Definition) → i < length xs → x ≡ get_or xs i x → AllCoded xs → code (computed formulas x.code.items) ≡ x.code.items
coded_at [] i x lt e h = absurd (omega arith)
coded_at (y ∷ xs) zero x lt e h = ap (λ (d : Definition). code (computed formulas d.code.items)) e ∙ h.0 ∙ ap (λ (d : Definition). d.code.items) (sym e)
coded_at (y ∷ xs) (suc i) x lt e h = coded_at xs i x (omega arith) e h.1

-- and computes that formula's value
pub value_at : {A : Type 0} (v : Values A) (xs : List Definition) (i : ℕ) (x : Definition) (steps : List CodeStep) → i < length xs → x ≡ get_or xs i x → AllCoded xs → steps ≡ (get_or xs i x).code.items → computed v steps ≡ value v (def_at (defs xs) i).body
value_at v xs i x steps lt e h s =
    ap (λ c. computed v c) (s ∙ ap (λ (d : Definition). d.code.items) (sym e)) ∙ coded_value v x.code.items (coded_at xs i x lt e h) ∙ ap (λ (d : Def). value v d.body) (sym (read_def xs i x lt e))

-- a name is not that of any definition before a place
abbrev pub IsNoneBefore : List Def → ℕ → ℕ → Type 0
IsNoneBefore ds x i = (j : ℕ) → j < i → (def_at ds j).name ≢ x

-- a definition of the name with none before it is the first of that name
pub index_first : (ds : List Def) (x i : ℕ) → IsNoneBefore ds x i → i < length ds → (def_at ds i).name ≡ x → index_of ds x ≡ Some i
index_first [] x i none lt e = absurd (omega arith)
index_first (d ∷ ds) x zero none lt e = by_test (eqb d.name x) refl
  where
    by_test : (b : Bool) → eqb d.name x ≡ b → cond b (Some 0) (index_of ds x >>= λ i. Some (suc i)) ≡ Some 0
    by_test true t = refl
    by_test false t = absurd (eqb-false d.name x t e)
index_first (d ∷ ds) x (suc i) none lt e = by_test (eqb d.name x) refl (index_first ds x i (λ j below. none (suc j) (omega arith)) (omega arith) e)
  where
    by_test : (b : Bool) → eqb d.name x ≡ b → index_of ds x ≡ Some i → cond b (Some 0) (index_of ds x >>= λ i. Some (suc i)) ≡ Some (suc i)
    by_test true t r = absurd (none 0 (omega arith) (eqb-true d.name x t))
    by_test false t r = rw r refl

-- a name that no definition has is not defined
pub index_nowhere : (ds : List Def) (x : ℕ) → IsNoneBefore ds x (length ds) → index_of ds x ≡ None
index_nowhere [] x none = refl
index_nowhere (d ∷ ds) x none = by_test (eqb d.name x) refl (index_nowhere ds x (λ j below. none (suc j) (omega arith)))
  where
    by_test : (b : Bool) → eqb d.name x ≡ b → index_of ds x ≡ None → cond b (Some 0) (index_of ds x >>= λ i. Some (suc i)) ≡ None
    by_test true t r = absurd (none 0 (omega arith) (eqb-true d.name x t))
    by_test false t r = rw r refl

-- an element that is there does not depend on the default
pub any_default : {A : Type 0} (xs : List A) (i : ℕ) (a b : A) → i < length xs → get_or xs i b ≡ get_or xs i a
any_default [] i a b lt = absurd (omega arith)
any_default (x ∷ xs) zero a b lt = refl
any_default (x ∷ xs) (suc i) a b lt = any_default xs i a b (omega arith)

-- one more default changes no element
pub push-default : {A : Type 0} (xs : List A) (d : A) (k : ℕ) → get_or (xs ++ d ∷ []) k d ≡ get_or xs k d
push-default [] d zero = refl
push-default [] d (suc k) = refl
push-default (x ∷ xs) d zero = refl
push-default (x ∷ xs) d (suc k) = push-default xs d k
