-- The formula that code builds is that of what the name stands for.
use Rattle.std.proofs.Common.{◌≡◌, ◌≢◌, ℕ, zero, suc, ◌-◌, ◌<◌, ◌≤◌, true, List, [], ◌∷◌, ◌++◌, length, get_or, drop, Some, None, refl, sym, ap, ◌∙◌, arith}
use Rattle.std.specs.Prelude.{map, reverse}
use Rattle.std.proofs.lemmas.List.{length-map, map_push}
use Rattle.rv_model.specs.Ltl.{Ltl}
use Rattle.rv_model.specs.Formulas.{ltl}
use Rattle.rv_model.specs.declared.formula.Formula.{Formula}
use Rattle.rv_ltl.specs.declared.token.CodeStep.{CodeStep}
use Rattle.rv_ltl.specs.declared.definitions.Definition.{Definition}
use Rattle.rv_ltl.specs.Grammar.{Expr, Paren, One, Two}
use Rattle.rv_ltl.specs.Parse.{◌>>=◌}
use Rattle.rv_ltl.specs.File.{Def}
use Rattle.rv_ltl.specs.Replace.{replaced, value_of}
use Rattle.rv_ltl.specs.Atoms.{place_of, one_of, two_of, formula_over}
use Rattle.rv_ltl.specs.inner.Machine.{Values, value, run, computed, defs, AllCoded}
use Rattle.rv_ltl.specs.inner.Weights.{index_of, def_at}
use Rattle.rv_ltl.specs.inner.Collected.{ltls, built}
use Rattle.rv_ltl.proofs.OperatorLaws.{bind_some}
use Rattle.rv_ltl.proofs.Running.{last_value, no_value}
use Rattle.rv_ltl.proofs.Elements.{value_at}
use Rattle.rv_ltl.proofs.Settling.{Found, Free, Held, found, value_free, value_defined, value_zero}

-- ---- the end of the loop

-- all steps are done, and the last formula is the value
pub last_formula : (v : Values Ltl) (steps : List CodeStep) (i : ℕ) (items new : List Formula) (f : Formula) → length steps ≤ i → items ≡ new ++ f ∷ [] → run v (drop i steps) (reverse (map ltl items)) ≡ run v steps [] → ltl f ≡ computed v steps
last_formula v steps i items new f le pushed h = last_value v steps i (map ltl items) (map ltl new) (ltl f) le (ap (map ltl) pushed ∙ map_push ltl new f) h

-- all steps are done, and there is no formula
pub no_formula : (v : Values Ltl) (steps : List CodeStep) (i : ℕ) (items : List Formula) → length steps ≤ i → length items ≡ 0 → run v (drop i steps) (reverse (map ltl items)) ≡ run v steps [] → v.constant true ≡ computed v steps
no_formula v steps i items le none h = no_value v steps i (map ltl items) le (length-map items ltl ∙ none) h

-- what is built for a defined name is the value of its formula, with definitions one less deep
built_some : (ds : List Def) (atoms : List ℕ) (n x i : ℕ) → index_of ds x ≡ Some i → built ds atoms (suc n) x ≡ value (ltls (built ds atoms n)) (def_at ds i).body
unfolding built
built_some ds atoms n x i h = rw (h, built) refl

-- what is built for a name that is not defined is the atom at its place
built_none : (ds : List Def) (atoms : List ℕ) (n x : ℕ) → index_of ds x ≡ None → built ds atoms n x ≡ Ltl.Atom (place_of atoms x)
unfolding built
built_none ds atoms zero x h = rw (h, built) refl
built_none ds atoms (suc n) x h = rw (h, built) refl

-- what the code of a definition computes
pub built_code : (definitions : List Definition) (atoms : List ℕ) (n x i : ℕ) (d : Definition) (steps : List CodeStep) → n ≢ 0 → index_of (defs definitions) x ≡ Some i → i < length definitions → d ≡ get_or definitions i d → AllCoded definitions → steps ≡ (get_or definitions i d).code.items
    → computed (ltls (built (defs definitions) atoms (n - 1))) steps ≡ built (defs definitions) atoms n x
built_code definitions atoms n x i d steps ne h lt e coded s =
    let k : suc (n - 1) ≡ n = omega arith in
    value_at (ltls (built (defs definitions) atoms (n - 1))) definitions i d steps lt e coded s ∙ sym (built_some (defs definitions) atoms (n - 1) x i h) ∙ ap (λ (m : ℕ). built (defs definitions) atoms m x) k

-- ---- what is built

-- the value of a formula is that of what it stands for
value_formula_over : (ds : List Def) (atoms : List ℕ) (n : ℕ) → ((x : ℕ) (f : Expr) → value_of ds n x ≡ Some f → built ds atoms n x ≡ formula_over atoms f) → (e f : Expr) → replaced (value_of ds n) e ≡ Some f → value (ltls (built ds atoms n)) e ≡ formula_over atoms f
value_formula_over ds atoms n names Expr.True f h = let e : Expr.True ≡ f = cc in ap (λ (g : Expr). formula_over atoms g) e
value_formula_over ds atoms n names Expr.False f h = let e : Expr.False ≡ f = cc in ap (λ (g : Expr). formula_over atoms g) e
value_formula_over ds atoms n names (Expr.Name x) f h = names x f h
value_formula_over ds atoms n names (Paren e) f h = value_formula_over ds atoms n names e f h
value_formula_over ds atoms n names (One op e) f h =
    let b = bind_some (replaced (value_of ds n) e) (λ (g : Expr). Some (One op g)) f h in
    let same : One op b.0 ≡ f = cc in
    ap (λ (g : Ltl). one_of op g) (value_formula_over ds atoms n names e b.0 b.1) ∙ ap (λ (g : Expr). formula_over atoms g) same
value_formula_over ds atoms n names (Two op a b) f h =
    let p = bind_some (replaced (value_of ds n) a) (λ (g : Expr). replaced (value_of ds n) b >>= λ k. Some (Two op g k)) f h in
    let q = bind_some (replaced (value_of ds n) b) (λ (k : Expr). Some (Two op p.0 k)) f p.2 in
    let same : Two op p.0 q.0 ≡ f = cc in
    ap (λ (g : Ltl). two_of op g (value (ltls (built ds atoms n)) b)) (value_formula_over ds atoms n names a p.0 p.1) ∙ ap (λ (g : Ltl). two_of op (formula_over atoms p.0) g) (value_formula_over ds atoms n names b q.0 q.1) ∙ ap (λ (g : Expr). formula_over atoms g) same

-- what is built is the formula with its names numbered
pub built_is : (ds : List Def) (atoms : List ℕ) (n x : ℕ) (f : Expr) → value_of ds n x ≡ Some f → built ds atoms n x ≡ formula_over atoms f
built_is ds atoms zero x f h = by_case (found ds x)
  where
    by_case : Found ds x → built ds atoms 0 x ≡ formula_over atoms f
    by_case (Free i b) =
        let v = value_free ds 0 x b in
        let e : Expr.Name x ≡ f = cc in
        built_none ds atoms 0 x i ∙ ap (λ (g : Expr). formula_over atoms g) e
    by_case (Held i lt n k b) = let v = value_zero ds x (def_at ds i).body b in absurd cc
built_is ds atoms (suc n) x f h = by_case (found ds x) (λ e g r. value_formula_over ds atoms n (λ y k l. built_is ds atoms n y k l) e g r)
  where
    by_case : Found ds x → ((e g : Expr) → replaced (value_of ds n) e ≡ Some g → value (ltls (built ds atoms n)) e ≡ formula_over atoms g) → built ds atoms (suc n) x ≡ formula_over atoms f
    by_case (Free i b) ih =
        let v = value_free ds (suc n) x b in
        let e : Expr.Name x ≡ f = cc in
        built_none ds atoms (suc n) x i ∙ ap (λ (g : Expr). formula_over atoms g) e
    by_case (Held i lt name k b) ih = built_some ds atoms n x i k ∙ ih (def_at ds i).body f (sym (value_defined ds n x (def_at ds i).body b) ∙ h)
