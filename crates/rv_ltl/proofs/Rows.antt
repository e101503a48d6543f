-- Which definitions a definition uses, as rows of flags, and those that a definition reaches.
use Rattle.std.proofs.Common.{◌≡◌, ℕ, zero, suc, ◌+◌, ◌<◌, ◌≤◌, Bool, true, false, List, [], ◌∷◌, ◌++◌, ◌⊎◌, length, take, get_or, Option, Some, None, refl, sym, ap, subst, ◌∙◌, inl, inr, arith, get_or-set_same, length-append}
use Rattle.std.proofs.lemmas.List.{take_more}
use Rattle.std.specs.Prelude.{Vec}
use Rattle.std.specs.declared.alloc.Global.{Global}
use Rattle.std.proofs.Math.ListN.{set, length-set}
use Rattle.std.proofs.lemmas.Bool.{cases_lt, false≢true}
use Rattle.rv_ltl.specs.declared.token.CodeStep.{CodeStep}
use Rattle.rv_ltl.specs.declared.token.CodeStep.TheVariants as steps
use Rattle.rv_ltl.specs.declared.weight.Weight.{Weight}
use Rattle.rv_ltl.specs.declared.weight.Weight.TheVariants.{Open}
use Rattle.rv_ltl.specs.Grammar.{Expr, Paren, One, Two}
use Rattle.rv_ltl.specs.File.{Def}
use Rattle.rv_ltl.specs.inner.Postfix.{code}
use Rattle.rv_ltl.specs.Reach.{Mentions}
use Rattle.rv_ltl.specs.inner.Machine.{value}
use Rattle.rv_ltl.specs.inner.Weights.{index_of, def_at, known_at, weight_at, weights_by, IsDistinct}
use Rattle.rv_ltl.specs.inner.Reached.{flag_at, IsNameStep, Holds, IsRow, row_at, AreUses}
use Rattle.rv_ltl.specs.inner.Uses.{flagged}
use Rattle.rv_ltl.proofs.Settling.{body_at, weight_held}
use Rattle.rv_ltl.proofs.WeightLaws.{open_formula}

-- ---- flags

pub set_keeps : (fs : List Bool) (i j : ℕ) → flag_at fs j ≡ true → flag_at (set fs i true) j ≡ true
set_keeps [] i j h = absurd cc
set_keeps (f ∷ fs) zero zero h = refl
set_keeps (f ∷ fs) zero (suc j) h = h
set_keeps (f ∷ fs) (suc i) zero h = h
set_keeps (f ∷ fs) (suc i) (suc j) h = set_keeps fs i j h

-- where one more flag is set, what is flagged is that place or was flagged before
pub set_only : (fs : List Bool) (i j : ℕ) → flag_at (set fs i true) j ≡ true → (j ≡ i) ⊎ (flag_at fs j ≡ true)
set_only [] i j h = absurd cc
set_only (f ∷ fs) zero zero h = inl refl
set_only (f ∷ fs) zero (suc j) h = inr h
set_only (f ∷ fs) (suc i) zero h = inr h
set_only (f ∷ fs) (suc i) (suc j) h = elim (set_only fs i j h) [ inl e ↦ inl (ap suc e) | inr g ↦ inr g ]

-- ---- one row

holds_append : (front : List CodeStep) (step : CodeStep) (x : ℕ) → Holds (front ++ step ∷ []) x → Holds front x ⊎ IsNameStep step x
holds_append [] step x (inl n) = inr n
holds_append [] step x (inr n) = absurd n
holds_append (s ∷ front) step x (inl n) = inl (inl n)
holds_append (s ∷ front) step x (inr h) = elim (holds_append front step x h) [ inl k ↦ inl (inr k) | inr n ↦ inr n ]

holds_front : (front back : List CodeStep) (x : ℕ) → Holds front x → Holds (front ++ back) x
holds_front [] back x h = absurd h
holds_front (s ∷ front) back x (inl n) = inl n
holds_front (s ∷ front) back x (inr h) = inr (holds_front front back x h)

holds_back : (front back : List CodeStep) (x : ℕ) → Holds back x → Holds (front ++ back) x
holds_back [] back x h = h
holds_back (s ∷ front) back x h = inr (holds_back front back x h)

-- a name that stands in one code and another behind it stands in one of the two
holds_parts : (front back : List CodeStep) (x : ℕ) → Holds (front ++ back) x → Holds front x ⊎ Holds back x
holds_parts [] back x h = inr h
holds_parts (s ∷ front) back x (inl n) = inl (inl n)
holds_parts (s ∷ front) back x (inr h) = elim (holds_parts front back x h) [ inl k ↦ inl (inr k) | inr k ↦ inr k ]

-- a formula's code holds the names that the formula mentions
pub holds_mentioned : (e : Expr) (x : ℕ) → Mentions e x → Holds (code e) x
holds_mentioned Expr.True x m = absurd m
holds_mentioned Expr.False x m = absurd m
holds_mentioned (Expr.Name y) x m = inl m
holds_mentioned (Paren e) x m = holds_mentioned e x m
holds_mentioned (One op e) x m = holds_front (code e) (steps.Unary op ∷ []) x (holds_mentioned e x m)
holds_mentioned (Two op a b) x (inl m) = holds_front (code a) (code b ++ steps.Binary op ∷ []) x (holds_mentioned a x m)
holds_mentioned (Two op a b) x (inr m) = holds_back (code a) (code b ++ steps.Binary op ∷ []) x (holds_front (code b) (steps.Binary op ∷ []) x (holds_mentioned b x m))

-- and no other
pub mentioned_held : (e : Expr) (x : ℕ) → Holds (code e) x → Mentions e x
mentioned_held Expr.True x (inl n) = n
mentioned_held Expr.True x (inr n) = n
mentioned_held Expr.False x (inl n) = n
mentioned_held Expr.False x (inr n) = n
mentioned_held (Expr.Name y) x (inl n) = n
mentioned_held (Expr.Name y) x (inr n) = absurd n
mentioned_held (Paren e) x h = mentioned_held e x h
mentioned_held (One op e) x h = elim (holds_append (code e) (steps.Unary op) x h) [ inl k ↦ mentioned_held e x k | inr n ↦ absurd n ]
mentioned_held (Two op a b) x h =
    elim (holds_parts (code a) (code b ++ steps.Binary op ∷ []) x h) [
      | inl k ↦ inl (mentioned_held a x k)
      | inr k ↦ elim (holds_append (code b) (steps.Binary op) x k) [ inl l ↦ inr (mentioned_held b x l) | inr n ↦ absurd n ]
    ]

-- no code has no flags
pub row_start : (ds : List Def) (fs : List Bool) → length fs ≡ length ds → ((i : ℕ) → flag_at fs i ≡ false) → IsRow ds [] fs
row_start ds fs e none = record { each = e; made = λ j lt h. absurd h; only = λ j lt h. absurd (false≢true (sym (none j) ∙ h)) }

-- a step that names nothing
row_same : (ds : List Def) (front : List CodeStep) (step : CodeStep) (fs : List Bool) → ((x : ℕ) → IsNameStep step x → ⊥) → IsRow ds front fs → IsRow ds (front ++ step ∷ []) fs
row_same ds front step fs nothing r = record {
  each = r.each;
  made = λ j lt h. elim (holds_append front step (def_at ds j).name h) [ inl k ↦ r.made j lt k | inr n ↦ absurd (nothing (def_at ds j).name n) ];
  only = λ j lt h. holds_front front (step ∷ []) (def_at ds j).name (r.only j lt h);
}

-- with the flag of the name's definition the row is that of the code with the name behind it
row_name : (ds : List Def) (front : List CodeStep) (x : ℕ) (fs : List Bool) → IsDistinct ds → IsRow ds front fs → IsRow ds (front ++ steps.Name x ∷ []) (flagged ds (steps.Name x) fs)
row_name ds front x fs distinct r = by_index (index_of ds x) refl
  where
    by_index : (o : Option ℕ) → index_of ds x ≡ o → IsRow ds (front ++ steps.Name x ∷ []) (elim o as (λ _. List Bool) [ Some i ↦ set fs i true | None ↦ fs ])
    by_index None n = record {
      each = r.each;
      made = λ j lt h. elim (holds_append front (steps.Name x) (def_at ds j).name h) [ inl k ↦ r.made j lt k | inr e ↦ (let d = distinct j lt in let i : index_of ds x ≡ Some j = ap (λ (y : ℕ). index_of ds y) e ∙ d in absurd cc) ];
      only = λ j lt h. holds_front front (steps.Name x ∷ []) (def_at ds j).name (r.only j lt h);
    }
    by_index (Some i) n = record {
      each = length-set fs i true ∙ r.each;
      made = λ j lt h. elim (holds_append front (steps.Name x) (def_at ds j).name h) [
        | inl k ↦ set_keeps fs i j (r.made j lt k)
        | inr e ↦
            let at : index_of ds x ≡ Some j = ap (λ (y : ℕ). index_of ds y) e ∙ distinct j lt in
            let same : i ≡ j = cc in
            let P : ℕ → Type 0 = λ m. flag_at (set fs m true) j ≡ true in
            subst P (sym same) (get_or-set_same fs j true false (omega (arith, r.each)))
      ];
      only = λ j lt h. elim (set_only fs i j h) [
        | inl e ↦
            let name : (def_at ds i).name ≡ x = (body_at ds x i n).1 in
            holds_back front (steps.Name x ∷ []) (def_at ds j).name (inl (sym name ∙ ap (λ (m : ℕ). (def_at ds m).name) (sym e)))
        | inr k ↦ holds_front front (steps.Name x ∷ []) (def_at ds j).name (r.only j lt k)
      ];
    }

-- one step more
pub row_more : (ds : List Def) (front : List CodeStep) (step : CodeStep) (fs : List Bool) → IsDistinct ds → IsRow ds front fs → IsRow ds (front ++ step ∷ []) (flagged ds step fs)
row_more ds front steps.True fs distinct r = row_same ds front steps.True fs (λ x n. n) r
row_more ds front steps.False fs distinct r = row_same ds front steps.False fs (λ x n. n) r
row_more ds front (steps.Name x) fs distinct r = row_name ds front x fs distinct r
row_more ds front (steps.Unary op) fs distinct r = row_same ds front (steps.Unary op) fs (λ x n. n) r
row_more ds front (steps.Binary op) fs distinct r = row_same ds front (steps.Binary op) fs (λ x n. n) r

-- ---- the rows

pub read_row : (rows : List (Vec Bool Global)) (i : ℕ) (row : Vec Bool Global) → i < length rows → row ≡ get_or rows i row → row_at rows i ≡ row.items
read_row [] i row lt e = absurd (omega arith)
read_row (r ∷ rows) zero row lt e = ap (λ (v : Vec Bool Global). v.items) (sym e)
read_row (r ∷ rows) (suc i) row lt e = read_row rows i row (omega arith) e

row_pushed : (rows : List (Vec Bool Global)) (row : Vec Bool Global) → row_at (rows ++ row ∷ []) (length rows) ≡ row.items
row_pushed [] row = refl
row_pushed (r ∷ rows) row = row_pushed rows row

row_kept : (rows : List (Vec Bool Global)) (row : Vec Bool Global) (i : ℕ) → i < length rows → row_at (rows ++ row ∷ []) i ≡ row_at rows i
row_kept [] row i lt = absurd (omega arith)
row_kept (r ∷ rows) row zero lt = refl
row_kept (r ∷ rows) row (suc i) lt = row_kept rows row i (omega arith)

-- what is open keeps the formula that uses it open
pub not_ready : (ds : List Def) (ws : List Weight) (rows : List (Vec Bool Global)) (n i j : ℕ) → IsDistinct ds → AreUses ds rows n → i < n → j < length ds → flag_at (row_at rows i) j ≡ true → known_at ws j ≡ Open
    → value (weights_by (weight_at ds ws)) (def_at ds i).body ≡ Open
not_ready ds ws rows n i j distinct uses lt below h o =
    open_formula (weight_at ds ws) (def_at ds i).body (def_at ds j).name (uses.only i j lt below h) (weight_held ds ws (def_at ds j).name j (distinct j below) ∙ o)

-- the loop over a code goes one step on
pub row_step : (ds : List Def) (steps : List CodeStep) (i : ℕ) (d : CodeStep) (fs new : List Bool) → IsDistinct ds → i < length steps → IsRow ds (take i steps) fs → new ≡ flagged ds (get_or steps i d) fs → IsRow ds (take (i + 1) steps) new
row_step ds steps i d fs new distinct lt r e =
    let P : List CodeStep → Type 0 = λ front. IsRow ds front new in
    let Q : List Bool → Type 0 = λ gs. IsRow ds (take i steps ++ get_or steps i d ∷ []) gs in
    subst P (sym (take_more steps i d lt)) (subst Q (sym e) (row_more ds (take i steps) (get_or steps i d) fs distinct r))

-- one row more
pub uses_more : (ds : List Def) (rows new : List (Vec Bool Global)) (n : ℕ) (row : Vec Bool Global) (steps : List CodeStep) → new ≡ rows ++ row ∷ [] → steps ≡ code (def_at ds n).body → IsRow ds steps row.items → AreUses ds rows n → AreUses ds new (n + 1)
uses_more ds rows new n row steps pushed text r uses =
    let P : List (Vec Bool Global) → Type 0 = λ rs. AreUses ds rs (n + 1) in
    subst P (sym pushed) (record {
      each = omega (arith, length-append rows (row ∷ []), uses.each);
      width = λ i lt. elim (cases_lt i n) [
        | inl below ↦ ap (λ (fs : List Bool). length fs) (old i below) ∙ uses.width i below
        | inr above ↦ ap (λ (fs : List Bool). length fs) (here i above lt) ∙ r.each
      ];
      made = λ i j lt below m. elim (cases_lt i n) [
        | inl less ↦ ap (λ (fs : List Bool). flag_at fs j) (old i less) ∙ uses.made i j less below m
        | inr above ↦
            let same : i ≡ n = omega arith in
            let M : ℕ → Type 0 = λ k. Mentions (def_at ds k).body (def_at ds j).name in
            let H : List CodeStep → Type 0 = λ s. Holds s (def_at ds j).name in
            ap (λ (fs : List Bool). flag_at fs j) (here i above lt) ∙ r.made j below (subst H (sym text) (holds_mentioned (def_at ds n).body (def_at ds j).name (subst M same m)))
      ];
      only = λ i j lt below h. elim (cases_lt i n) [
        | inl less ↦ uses.only i j less below (sym (ap (λ (fs : List Bool). flag_at fs j) (old i less)) ∙ h)
        | inr above ↦
            let same : i ≡ n = omega arith in
            let M : ℕ → Type 0 = λ k. Mentions (def_at ds k).body (def_at ds j).name in
            let H : List CodeStep → Type 0 = λ s. Holds s (def_at ds j).name in
            subst M (sym same) (mentioned_held (def_at ds n).body (def_at ds j).name (subst H text (r.only j below (sym (ap (λ (fs : List Bool). flag_at fs j) (here i above lt)) ∙ h))))
      ];
    })
  where
    old : (i : ℕ) → i < n → row_at (rows ++ row ∷ []) i ≡ row_at rows i
    old i lt = row_kept rows row i (omega (arith, uses.each))

    here : (i : ℕ) → n ≤ i → i < n + 1 → row_at (rows ++ row ∷ []) i ≡ row.items
    here i le lt =
        let same : i ≡ length rows = omega (arith, uses.each) in
        ap (λ (k : ℕ). row_at (rows ++ row ∷ []) k) same ∙ row_pushed rows row
