-- Postfix code computes the value of its formula.
use Rattle.std.proofs.Common.{◌≡◌, ℕ, suc, ◌+◌, ◌<◌, ◌≤◌, true, List, [], ◌∷◌, ◌++◌, length, get_or, drop, drop-cons, add-one, refl, sym, ap, ◌∙◌, arith}
use Rattle.std.specs.Prelude.{map, reverse}
use Rattle.std.proofs.lemmas.List.{reverse-append, drop_all}
use Rattle.rv_ltl.specs.declared.token.CodeStep.{CodeStep}
use Rattle.rv_ltl.specs.declared.token.CodeStep.TheVariants as steps
use Rattle.rv_ltl.specs.declared.definitions.Definition.{Definition}
use Rattle.rv_ltl.specs.Grammar.{Expr, Paren, One, Two}
use Rattle.rv_ltl.specs.File.{Def}
use Rattle.rv_ltl.specs.inner.Postfix.{code, Coded, coded_def, seen, AreCodes}
use Rattle.rv_ltl.specs.Replace.{plain, plain_def}
use Rattle.rv_ltl.specs.inner.Machine.{Values, value, one_step, two_step, stepped, run, last_or, computed, formulas, def, defs, AllCoded}

-- code behind other code runs on the stack that the other leaves
run-append : {A : Type 0} (v : Values A) (front back : List CodeStep) (stack : List A) → run v (front ++ back) stack ≡ run v back (run v front stack)
run-append v [] back stack = refl
run-append v (step ∷ front) back stack = run-append v front back (stepped v step stack)

-- the code of a formula puts its value on the stack
pub run-code : {A : Type 0} (v : Values A) (e : Expr) (stack : List A) → run v (code e) stack ≡ value v e ∷ stack
run-code v Expr.True stack = refl
run-code v Expr.False stack = refl
run-code v (Expr.Name x) stack = refl
run-code v (Paren e) stack = run-code v e stack
run-code v (One op e) stack = run-append v (code e) (steps.Unary op ∷ []) stack ∙ ap (λ s. one_step (v.one op) s) (run-code v e stack)
run-code v (Two op a b) stack =
    run-append v (code a) (code b ++ steps.Binary op ∷ []) stack ∙ ap (λ s. run v (code b ++ steps.Binary op ∷ []) s) (run-code v a stack)
    ∙ run-append v (code b) (steps.Binary op ∷ []) (value v a ∷ stack) ∙ ap (λ s. two_step (v.two op) s) (run-code v b (value v a ∷ stack))

-- the value of a formula is what its code computes
pub computed-code : {A : Type 0} (v : Values A) (e : Expr) → computed v (code e) ≡ value v e
computed-code v e = ap (λ s. last_or (v.constant true) s) (run-code v e [])

-- with formulas as values, the value of a formula is the formula without its parentheses
value-plain : (e : Expr) → value formulas e ≡ plain e
value-plain Expr.True = refl
value-plain Expr.False = refl
value-plain (Expr.Name x) = refl
value-plain (Paren e) = value-plain e
value-plain (One op e) = ap (λ (f : Expr). One op f) (value-plain e)
value-plain (Two op a b) = ap (λ (f : Expr). Two op f (value formulas b)) (value-plain a) ∙ ap (λ (f : Expr). Two op (plain a) f) (value-plain b)

-- a formula without its parentheses has the same code
code-plain : (e : Expr) → code (plain e) ≡ code e
code-plain Expr.True = refl
code-plain Expr.False = refl
code-plain (Expr.Name x) = refl
code-plain (Paren e) = code-plain e
code-plain (One op e) = ap (λ (c : List CodeStep). c ++ steps.Unary op ∷ []) (code-plain e)
code-plain (Two op a b) = ap (λ (c : List CodeStep). c ++ (code (plain b) ++ steps.Binary op ∷ [])) (code-plain a) ∙ ap (λ (c : List CodeStep). code a ++ (c ++ steps.Binary op ∷ [])) (code-plain b)

-- a code that is that of a formula computes that formula's value
pub coded_value : {A : Type 0} (v : Values A) (steps : List CodeStep) → code (computed formulas steps) ≡ steps → computed v steps ≡ value v (computed formulas steps)
coded_value v steps coded = ap (λ s. computed v s) (sym coded) ∙ computed-code v (computed formulas steps)

-- a definition that the program has is the one that was read, without parentheses
one_def : (d : Def) (definition : Definition) → seen definition ≡ coded_def d → def definition ≡ plain_def d
one_def d definition e =
    let same : computed formulas definition.code.items ≡ plain d.body = ap (λ s. computed formulas s) (ap (λ (c : Coded). c.code) e) ∙ computed-code formulas d.body ∙ value-plain d.body in
    ap (λ (x : ℕ). record { name = x; body = computed formulas definition.code.items }) (ap (λ (c : Coded). c.name) e) ∙ ap (λ (x : Expr). record { name = d.name; body = x }) same

-- the code of a definition that was read is that of a formula
one_coded : (d : Def) (definition : Definition) → seen definition ≡ coded_def d → code (computed formulas definition.code.items) ≡ definition.code.items
one_coded d definition e =
    let text : definition.code.items ≡ code d.body = ap (λ (c : Coded). c.code) e in
    let same : computed formulas definition.code.items ≡ plain d.body = ap (λ s. computed formulas s) text ∙ computed-code formulas d.body ∙ value-plain d.body in
    ap code same ∙ code-plain d.body ∙ sym text

-- the definitions that the program has are those that were read, without parentheses
pub defs-codes : (ds : List Def) (definitions : List Definition) → AreCodes ds definitions → defs definitions ≡ map plain_def ds
defs-codes [] [] e = refl
defs-codes [] (x ∷ xs) e = absurd cc
defs-codes (d ∷ ds) [] e = absurd cc
defs-codes (d ∷ ds) (x ∷ xs) e =
    let head : seen x ≡ coded_def d = cc in
    let tail : map seen xs ≡ map coded_def ds = cc in
    ap (λ (y : Def). y ∷ defs xs) (one_def d x head) ∙ ap (λ (ys : List Def). plain_def d ∷ ys) (defs-codes ds xs tail)

-- and their codes are those of formulas
pub all_coded : (ds : List Def) (definitions : List Definition) → AreCodes ds definitions → AllCoded definitions
all_coded [] [] e = tt
all_coded [] (x ∷ xs) e = absurd cc
all_coded (d ∷ ds) [] e = absurd cc
all_coded (d ∷ ds) (x ∷ xs) e =
    let head : seen x ≡ coded_def d = cc in
    let tail : map seen xs ≡ map coded_def ds = cc in
    (one_coded d x head, all_coded ds xs tail)

-- ---- a loop over code, with the stack's last value in front

-- one step more
pub run_more : {A : Type 0} (v : Values A) (steps : List CodeStep) (i : ℕ) (d : CodeStep) (stack new total : List A) → i < length steps → new ≡ stepped v (get_or steps i d) stack → run v (drop i steps) stack ≡ total → run v (drop (i + 1) steps) new ≡ total
run_more v steps i d stack new total lt e h = rw add-one (ap (λ s. run v (drop (suc i) steps) s) e ∙ sym (ap (λ (s : List CodeStep). run v s stack) (drop-cons steps i d lt)) ∙ h)

-- all steps are done, and the last value is the code's
pub last_value : {A : Type 0} (v : Values A) (steps : List CodeStep) (i : ℕ) (items new : List A) (x : A) → length steps ≤ i → items ≡ new ++ x ∷ [] → run v (drop i steps) (reverse items) ≡ run v steps [] → x ≡ computed v steps
last_value v steps i items new x le pushed h =
    let done : reverse items ≡ run v steps [] = ap (λ (s : List CodeStep). run v s (reverse items)) (sym (drop_all i steps le)) ∙ h in
    let top : reverse items ≡ x ∷ reverse new = ap reverse pushed ∙ reverse-append new (x ∷ []) in
    ap (λ s. last_or (v.constant true) s) (sym top ∙ done)

-- all steps are done, and there is no value
pub no_value : {A : Type 0} (v : Values A) (steps : List CodeStep) (i : ℕ) (items : List A) → length steps ≤ i → length items ≡ 0 → run v (drop i steps) (reverse items) ≡ run v steps [] → v.constant true ≡ computed v steps
no_value v steps i [] le none h = ap (λ s. last_or (v.constant true) s) (ap (λ (s : List CodeStep). run v s []) (sym (drop_all i steps le)) ∙ h)
no_value v steps i (x ∷ items) le none h = absurd (omega arith)
