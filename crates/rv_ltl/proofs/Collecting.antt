-- The names of formulas, ascending: those of one formula, of its code, and of the flagged definitions.
use Rattle.std.proofs.Common.{◌≡◌, ℕ, zero, suc, ◌+◌, ◌-◌, ◌<◌, ◌≤◌, Bool, true, false, cond, List, [], ◌∷◌, ◌++◌, ◌⊎◌, length, get_or, drop, refl, sym, ap, subst, ◌∙◌, inl, inr, arith, add-one, drop-cons}
use Rattle.std.proofs.lemmas.List.{drop_all}
use Rattle.rv_ltl.specs.declared.token.CodeStep.{CodeStep}
use Rattle.rv_ltl.specs.declared.token.CodeStep.TheVariants as steps
use Rattle.rv_ltl.specs.declared.definitions.Definition.{Definition}
use Rattle.rv_ltl.specs.Grammar.{Expr, Paren, One, Two}
use Rattle.rv_ltl.specs.File.{Def}
use Rattle.rv_ltl.specs.inner.Postfix.{code}
use Rattle.rv_ltl.specs.Reach.{Mentions}
use Rattle.rv_ltl.specs.inner.Machine.{computed, formulas, defs, AllCoded}
use Rattle.rv_ltl.specs.inner.Weights.{def_at}
use Rattle.rv_ltl.specs.inner.Reached.{flag_at}
use Rattle.rv_ltl.specs.Atoms.{Has, Rises, inserted, names_into}
use Rattle.std.proofs.lemmas.Bool.{cases_lt, false≢true}
use Rattle.rv_ltl.specs.inner.Collected.{step_into, code_into, def_into, atoms_from, Puts}
use Rattle.rv_ltl.proofs.Elements.{read_def, coded_at}
use Rattle.rv_ltl.proofs.Inserting.{rises_inserted, has_inserted, inserted_has, inserted_keeps, length_inserted}

-- ---- the names of one formula

name_case : (b : Bool) (x : ℕ) (xs : List ℕ) (P : List ℕ → Type 0) → (b ≡ true → P (inserted x xs)) → (b ≡ false → P xs) → P (cond b (inserted x xs) xs)
name_case true x xs P f g = f refl
name_case false x xs P f g = g refl

-- an ascending list stays so with the names of a formula
pub names_rise : (test : ℕ → Bool) (e : Expr) (xs : List ℕ) → Rises 0 xs → Rises 0 (names_into test e xs)
names_rise test Expr.True xs h = h
names_rise test Expr.False xs h = h
names_rise test (Expr.Name x) xs h = name_case (test x) x xs (λ ys. Rises 0 ys) (λ t. rises_inserted 0 x xs (omega arith) h) (λ t. h)
names_rise test (Paren e) xs h = names_rise test e xs h
names_rise test (One op e) xs h = names_rise test e xs h
names_rise test (Two op a b) xs h = names_rise test b (names_into test a xs) (names_rise test a xs h)

-- a list with the names of a formula is no shorter
pub names_more : (test : ℕ → Bool) (e : Expr) (xs : List ℕ) → length xs ≤ length (names_into test e xs)
names_more test Expr.True xs = omega arith
names_more test Expr.False xs = omega arith
names_more test (Expr.Name x) xs = name_case (test x) x xs (λ ys. length xs ≤ length ys) (λ t. length_inserted x xs) (λ t. omega arith)
names_more test (Paren e) xs = names_more test e xs
names_more test (One op e) xs = names_more test e xs
names_more test (Two op a b) xs = omega (arith, names_more test a xs, names_more test b (names_into test a xs))

names_keep : (test : ℕ → Bool) (e : Expr) (xs : List ℕ) (y : ℕ) → Has xs y → Has (names_into test e xs) y
names_keep test Expr.True xs y h = h
names_keep test Expr.False xs y h = h
names_keep test (Expr.Name x) xs y h = name_case (test x) x xs (λ ys. Has ys y) (λ t. inserted_keeps x y xs h) (λ t. h)
names_keep test (Paren e) xs y h = names_keep test e xs y h
names_keep test (One op e) xs y h = names_keep test e xs y h
names_keep test (Two op a b) xs y h = names_keep test b (names_into test a xs) y (names_keep test a xs y h)

-- a name that the formula mentions and that passes the test is in the list
pub names_made : (test : ℕ → Bool) (e : Expr) (xs : List ℕ) (y : ℕ) → Mentions e y → test y ≡ true → Has (names_into test e xs) y
names_made test Expr.True xs y m f = absurd m
names_made test Expr.False xs y m f = absurd m
names_made test (Expr.Name x) xs y m f =
    let P : ℕ → Type 0 = λ z. Has (names_into test (Expr.Name z) xs) y in
    let at_y : P y = name_case (test y) y xs (λ ys. Has ys y) (λ t. inserted_has y xs) (λ t. absurd cc) in
    subst P (sym m) at_y
names_made test (Paren e) xs y m f = names_made test e xs y m f
names_made test (One op e) xs y m f = names_made test e xs y m f
names_made test (Two op a b) xs y (inl m) f = names_keep test b (names_into test a xs) y (names_made test a xs y m f)
names_made test (Two op a b) xs y (inr m) f = names_made test b (names_into test a xs) y m f

-- what is in the list was there before, or the formula mentions it and it passes the test
pub names_only : (test : ℕ → Bool) (e : Expr) (xs : List ℕ) (y : ℕ) → Has (names_into test e xs) y → Has xs y ⊎ (Mentions e y × (test y ≡ true))
names_only test Expr.True xs y h = inl h
names_only test Expr.False xs y h = inl h
names_only test (Expr.Name x) xs y h =
    (name_case (test x) x xs (λ ys. Has ys y → Has xs y ⊎ ((x ≡ y) × (test y ≡ true)))
    (λ t g. elim (has_inserted x y xs g) [ inl e ↦ inr (e, ap test (sym e) ∙ t) | inr k ↦ inl k ]) (λ t g. inl g)) h
names_only test (Paren e) xs y h = names_only test e xs y h
names_only test (One op e) xs y h = names_only test e xs y h
names_only test (Two op a b) xs y h =
    elim (names_only test b (names_into test a xs) y h) [
      | inl g ↦ elim (names_only test a xs y g) [ inl k ↦ inl k | inr m ↦ inr (inl m.0, m.1) ]
      | inr m ↦ inr (inr m.0, m.1)
    ]

-- ---- the names of a code

code_append : (test : ℕ → Bool) (front back : List CodeStep) (xs : List ℕ) → code_into test (front ++ back) xs ≡ code_into test back (code_into test front xs)
code_append test [] back xs = refl
code_append test (step ∷ front) back xs = code_append test front back (step_into test step xs)

-- a formula's code has its names, in its order
code_names : (test : ℕ → Bool) (e : Expr) (xs : List ℕ) → code_into test (code e) xs ≡ names_into test e xs
code_names test Expr.True xs = refl
code_names test Expr.False xs = refl
code_names test (Expr.Name x) xs = refl
code_names test (Paren e) xs = code_names test e xs
code_names test (One op e) xs = code_append test (code e) (steps.Unary op ∷ []) xs ∙ code_names test e xs
code_names test (Two op a b) xs =
    code_append test (code a) (code b ++ steps.Binary op ∷ []) xs ∙ ap (λ (ys : List ℕ). code_into test (code b ++ steps.Binary op ∷ []) ys) (code_names test a xs)
    ∙ code_append test (code b) (steps.Binary op ∷ []) (names_into test a xs) ∙ code_names test b (names_into test a xs)

-- a code that is that of a formula has that formula's names
pub coded_names : (test : ℕ → Bool) (steps : List CodeStep) (xs : List ℕ) → code (computed formulas steps) ≡ steps → code_into test steps xs ≡ names_into test (computed formulas steps) xs
coded_names test steps xs h = ap (λ (s : List CodeStep). code_into test s xs) (sym h) ∙ code_names test (computed formulas steps) xs

step_more : (test : ℕ → Bool) (step : CodeStep) (xs : List ℕ) → length xs ≤ length (step_into test step xs)
step_more test steps.True xs = omega arith
step_more test steps.False xs = omega arith
step_more test (steps.Name x) xs = name_case (test x) x xs (λ ys. length xs ≤ length ys) (λ t. length_inserted x xs) (λ t. omega arith)
step_more test (steps.Unary op) xs = omega arith
step_more test (steps.Binary op) xs = omega arith

pub code_more : (test : ℕ → Bool) (steps : List CodeStep) (xs : List ℕ) → length xs ≤ length (code_into test steps xs)
code_more test [] xs = omega arith
code_more test (step ∷ steps) xs = omega (arith, step_more test step xs, code_more test steps (step_into test step xs))

-- the loop over a code goes one step on
pub code_here : (test : ℕ → Bool) (steps : List CodeStep) (i : ℕ) (d : CodeStep) (xs : List ℕ) → i < length steps → code_into test (drop i steps) xs ≡ code_into test (drop (i + 1) steps) (step_into test (get_or steps i d) xs)
code_here test steps i d xs lt = rw add-one (ap (λ (s : List CodeStep). code_into test s xs) (drop-cons steps i d lt))

-- ---- the names of the flagged definitions

-- one of the first n definitions is flagged and mentions the name, which passes the test
abbrev pub Flagged : (ℕ → Bool) → List Def → List Bool → ℕ → ℕ → Type 0
Flagged test ds fs n y = (i : ℕ) × (i < n) × (flag_at fs i ≡ true) × Mentions (def_at ds i).body y × (test y ≡ true)

def_case : (b : Bool) (ys xs : List ℕ) (P : List ℕ → Type 0) → (b ≡ true → P ys) → (b ≡ false → P xs) → P (cond b ys xs)
def_case true ys xs P f g = f refl
def_case false ys xs P f g = g refl

-- the names of the flagged definitions ascend
pub atoms_rise : (test : ℕ → Bool) (ds : List Def) (fs : List Bool) (n : ℕ) → Rises 0 (atoms_from test ds fs n)
atoms_rise test ds fs zero = tt
atoms_rise test ds fs (suc n) =
    def_case (flag_at fs n) (names_into test (def_at ds n).body (atoms_from test ds fs n)) (atoms_from test ds fs n) (λ ys. Rises 0 ys)
    (λ t. names_rise test (def_at ds n).body (atoms_from test ds fs n) (atoms_rise test ds fs n)) (λ t. atoms_rise test ds fs n)

def_keep : (test : ℕ → Bool) (ds : List Def) (fs : List Bool) (n : ℕ) (xs : List ℕ) (y : ℕ) → Has xs y → Has (def_into test ds fs n xs) y
def_keep test ds fs n xs y h = def_case (flag_at fs n) (names_into test (def_at ds n).body xs) xs (λ ys. Has ys y) (λ t. names_keep test (def_at ds n).body xs y h) (λ t. h)

def_more : (test : ℕ → Bool) (ds : List Def) (fs : List Bool) (n : ℕ) (xs : List ℕ) → length xs ≤ length (def_into test ds fs n xs)
def_more test ds fs n xs = def_case (flag_at fs n) (names_into test (def_at ds n).body xs) xs (λ ys. length xs ≤ length ys) (λ t. names_more test (def_at ds n).body xs) (λ t. omega arith)

-- a name that a flagged definition mentions and that passes the test is among them
pub atoms_made : (test : ℕ → Bool) (ds : List Def) (fs : List Bool) (n y i : ℕ) → i < n → flag_at fs i ≡ true → Mentions (def_at ds i).body y → test y ≡ true → Has (atoms_from test ds fs n) y
atoms_made test ds fs zero y i lt t m f = absurd (omega arith)
atoms_made test ds fs (suc n) y i lt t m f =
    elim (cases_lt i n) [
      | inl below ↦ def_keep test ds fs n (atoms_from test ds fs n) y (atoms_made test ds fs n y i below t m f)
      | inr above ↦
          let same : i ≡ n = omega arith in
          let M : ℕ → Type 0 = λ k. (flag_at fs k ≡ true) × Mentions (def_at ds k).body y in
          let r = subst M same (t, m) in
          def_case (flag_at fs n) (names_into test (def_at ds n).body (atoms_from test ds fs n)) (atoms_from test ds fs n) (λ ys. Has ys y) (λ u. names_made test (def_at ds n).body (atoms_from test ds fs n) y r.1 f) (λ u. absurd (false≢true (sym u ∙ r.0)))
    ]

-- each of them is mentioned by a flagged definition and passes the test
pub atoms_only : (test : ℕ → Bool) (ds : List Def) (fs : List Bool) (n y : ℕ) → Has (atoms_from test ds fs n) y → Flagged test ds fs n y
atoms_only test ds fs zero y h = absurd h
atoms_only test ds fs (suc n) y h =
    let more : Flagged test ds fs n y → Flagged test ds fs (suc n) y = λ r. (r.0, omega (arith, r.1), r.2, r.3, r.4) in
    (def_case (flag_at fs n) (names_into test (def_at ds n).body (atoms_from test ds fs n)) (atoms_from test ds fs n) (λ ys. Has ys y → Flagged test ds fs (suc n) y)
    (λ t g. elim (names_only test (def_at ds n).body (atoms_from test ds fs n) y g) [ inl k ↦ more (atoms_only test ds fs n y k) | inr m ↦ (n, omega arith, t, m.0, m.1) ])
    (λ t g. more (atoms_only test ds fs n y g))) h

-- more definitions have no fewer
pub atoms_more : (test : ℕ → Bool) (ds : List Def) (fs : List Bool) (n more : ℕ) → length (atoms_from test ds fs n) ≤ length (atoms_from test ds fs (n + more))
atoms_more test ds fs n zero = let e : n + 0 ≡ n = omega arith in rw e (omega arith)
atoms_more test ds fs n (suc m) = let e : n + suc m ≡ suc (n + m) = omega arith in rw e (omega (arith, atoms_more test ds fs n m, def_more test ds fs (n + m) (atoms_from test ds fs (n + m))))

-- ---- for the code

-- where one step has no room, the code has none
pub code_fails : (test : ℕ → Bool) (steps : List CodeStep) (i : ℕ) (d : CodeStep) (xs new total : List ℕ) (fits : Bool) → i < length steps → fits ≡ false → Puts (step_into test (get_or steps i d) xs) new fits → code_into test (drop i steps) xs ≡ total → 32 < length total
code_fails test steps i d xs new total true lt f p e = absurd cc
code_fails test steps i d xs new total false lt f p e =
    let more = code_more test (drop (i + 1) steps) (step_into test (get_or steps i d) xs) in
    omega (arith, p, more, ap (λ (ys : List ℕ). length ys) (sym (code_here test steps i d xs lt) ∙ e))

-- a definition that is not flagged has no part
pub def_skip : (test : ℕ → Bool) (ds : List Def) (fs : List Bool) (i : ℕ) (xs : List ℕ) → flag_at fs i ≡ false → def_into test ds fs i xs ≡ xs
def_skip test ds fs i xs t = rw t refl

-- one that is flagged has its code's names
pub def_code : (test : ℕ → Bool) (ds : List Definition) (fs : List Bool) (i : ℕ) (d : Definition) (steps : List CodeStep) (xs : List ℕ) → flag_at fs i ≡ true → i < length ds → d ≡ get_or ds i d → AllCoded ds → steps ≡ (get_or ds i d).code.items
    → code_into test steps xs ≡ def_into test (defs ds) fs i xs
def_code test ds fs i d steps xs t lt e h s =
    let text : steps ≡ d.code.items = s ∙ ap (λ (x : Definition). x.code.items) (sym e) in
    let made : def_into test (defs ds) fs i xs ≡ names_into test (def_at (defs ds) i).body xs = rw t refl in
    ap (λ (c : List CodeStep). code_into test c xs) text ∙ coded_names test d.code.items xs (coded_at ds i d lt e h) ∙ ap (λ (x : Def). names_into test x.body xs) (sym (read_def ds i d lt e)) ∙ sym made

pub puts_true : (wanted new : List ℕ) (fits : Bool) → fits ≡ true → Puts wanted new fits → (new ≡ wanted) × (length wanted ≤ 32)
puts_true wanted new true t p = p
puts_true wanted new false t p = absurd cc

pub puts_false : (wanted new : List ℕ) (fits : Bool) → fits ≡ false → Puts wanted new fits → 32 < length wanted
puts_false wanted new true t p = absurd cc
puts_false wanted new false t p = p

-- where one definition has no room, all have none
pub atoms_fail : (test : ℕ → Bool) (ds : List Def) (fs : List Bool) (i n : ℕ) (out new : List ℕ) (fits : Bool) → i < n → fits ≡ false → Puts (def_into test ds fs i out) new fits → out ≡ atoms_from test ds fs i → 32 < length (atoms_from test ds fs n)
atoms_fail test ds fs i n out new fits lt f p e =
    let k : suc i + (n - suc i) ≡ n = omega arith in
    let here : length (def_into test ds fs i out) ≡ length (atoms_from test ds fs (suc i)) = ap (λ (xs : List ℕ). length (def_into test ds fs i xs)) e in
    let more : length (atoms_from test ds fs (suc i)) ≤ length (atoms_from test ds fs n) = subst (λ (m : ℕ). length (atoms_from test ds fs (suc i)) ≤ length (atoms_from test ds fs m)) k (atoms_more test ds fs (suc i) (n - suc i)) in
    omega (arith, puts_false (def_into test ds fs i out) new fits f p, here, more)

-- the loop over the definitions goes one on
pub atoms_fit : (test : ℕ → Bool) (ds : List Def) (fs : List Bool) (i : ℕ) (out new : List ℕ) (fits : Bool) → fits ≡ true → Puts (def_into test ds fs i out) new fits → out ≡ atoms_from test ds fs i → (length new ≤ 32) × (new ≡ atoms_from test ds fs (i + 1))
atoms_fit test ds fs i out new fits t p e =
    let q = puts_true (def_into test ds fs i out) new fits t p in
    (omega (arith, ap length q.0, q.1), rw add-one (q.0 ∙ ap (λ (xs : List ℕ). def_into test ds fs i xs) e))

-- where a step has room, the loop over a code goes on
pub code_fits : (test : ℕ → Bool) (steps : List CodeStep) (i : ℕ) (d : CodeStep) (xs new total : List ℕ) (fits : Bool) → i < length steps → fits ≡ true → Puts (step_into test (get_or steps i d) xs) new fits → code_into test (drop i steps) xs ≡ total
    → (length new ≤ 32) × (code_into test (drop (i + 1) steps) new ≡ total)
code_fits test steps i d xs new total fits lt t p h =
    let q = puts_true (step_into test (get_or steps i d) xs) new fits t p in
    (omega (arith, ap length q.0, q.1), ap (λ (ys : List ℕ). code_into test (drop (i + 1) steps) ys) q.0 ∙ sym (code_here test steps i d xs lt) ∙ h)

-- all steps are done
pub code_done : (test : ℕ → Bool) (steps : List CodeStep) (i : ℕ) (xs total : List ℕ) → length steps ≤ i → length xs ≤ 32 → code_into test (drop i steps) xs ≡ total → (xs ≡ total) × (length total ≤ 32)
code_done test steps i xs total le few h =
    let e : xs ≡ total = ap (λ (s : List CodeStep). code_into test s xs) (sym (drop_all i steps le)) ∙ h in
    (e, omega (arith, few, ap length e))
