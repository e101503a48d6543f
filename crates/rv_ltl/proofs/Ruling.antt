-- The checks of a rule, in their order.
use Rattle.std.proofs.Common.{◌≡◌, ◌≢◌, ℕ, zero, suc, ◌<◌, ◌≤◌, Bool, true, false, ◌&&◌, ◌||◌, cond, eqb, ltb, List, [], ◌∷◌, length, Option, Some, None, Ok, refl, sym, ap, ◌∙◌, arith}
use Rattle.std.proofs.lemmas.Bool.{eqb-true, eqb-false, ltb-true, ltb-false}
use Rattle.rv_text.specs.declared.numbers.TheConstants.{NO_RULE, DEFINED_TWICE, CYCLE, TOO_MANY_ATOMS, TOO_BIG}
use Rattle.rv_text.specs.Readings.{refused_with}
use Rattle.rv_ltl.specs.declared.weight.Weight.TheVariants.{Large, Is}
use Rattle.rv_ltl.specs.Grammar.{Expr}
use Rattle.rv_ltl.specs.Parse.{◌>>=◌}
use Rattle.rv_ltl.specs.File.{Def}
use Rattle.rv_ltl.specs.Replace.{body_of, is_none, once, value_of, any_endless, weight_of}
use Rattle.rv_ltl.specs.inner.Weights.{index_of, def_at, limited, IsDistinct}
use Rattle.rv_ltl.specs.RuleFile.{atoms_of, within_limits, formula_of}
use Rattle.rv_ltl.proofs.Settling.{Found, Free, Held, found, body_at, body_none}

-- ---- no name twice

-- two tests that hold together hold each
both_hold : (a b : Bool) → (a && b) ≡ true → (a ≡ true) × (b ≡ true)
both_hold true b e = (refl, e)
both_hold false b e = absurd cc

-- a name has no first definition exactly where it has no formula
same_none : (ds : List Def) (x : ℕ) → is_none (index_of ds x) ≡ is_none (body_of ds x)
same_none ds x = by_case (found ds x)
  where
    by_case : Found ds x → is_none (index_of ds x) ≡ is_none (body_of ds x)
    by_case (Free i b) = ap (λ (o : Option ℕ). is_none o) i ∙ sym (ap (λ (o : Option Expr). is_none o) b)
    by_case (Held i lt n k b) = ap (λ (o : Option ℕ). is_none o) k ∙ sym (ap (λ (o : Option Expr). is_none o) b)

-- where the test finds no name defined twice, each definition is the first of its name
pub once_distinct : (ds : List Def) → once ds ≡ true → IsDistinct ds
once_distinct [] h i lt = absurd (omega arith)
once_distinct (d ∷ ds) h zero lt = by_test (eqb d.name d.name) refl
  where
    by_test : (b : Bool) → eqb d.name d.name ≡ b → cond b (Some 0) (index_of ds d.name >>= λ i. Some (suc i)) ≡ Some 0
    by_test true t = refl
    by_test false t = absurd (eqb-false d.name d.name t refl)
once_distinct (d ∷ ds) h (suc i) lt = by_test (eqb d.name (def_at ds i).name) refl (both_hold (is_none (body_of ds d.name)) (once ds) h) (once_distinct ds (both_hold (is_none (body_of ds d.name)) (once ds) h).1 i (omega arith))
  where
    by_test : (b : Bool) → eqb d.name (def_at ds i).name ≡ b → (is_none (body_of ds d.name) ≡ true) × (once ds ≡ true) → index_of ds (def_at ds i).name ≡ Some i
        → cond b (Some 0) (index_of ds (def_at ds i).name >>= λ k. Some (suc k)) ≡ Some (suc i)
    by_test true t p q =
        let same : d.name ≡ (def_at ds i).name = eqb-true d.name (def_at ds i).name t in
        let there : is_none (index_of ds d.name) ≡ false = ap (λ (x : ℕ). is_none (index_of ds x)) same ∙ ap (λ (o : Option ℕ). is_none o) q in
        let free = same_none ds d.name in
        let first = p.0 in
        absurd cc
    by_test false t p q = rw q refl

-- without the definition in front, each is still the first of its name
tail_distinct : (d : Def) (ds : List Def) → IsDistinct (d ∷ ds) → IsDistinct ds
tail_distinct d ds h i lt = by_test (eqb d.name (def_at ds i).name) (index_of ds (def_at ds i).name) (h (suc i) (omega arith))
  where
    by_test : (b : Bool) (o : Option ℕ) → cond b (Some 0) (o >>= λ k. Some (suc k)) ≡ Some (suc i) → o ≡ Some i
    by_test true o e = absurd cc
    by_test false None e = absurd cc
    by_test false (Some k) e = let s : suc k ≡ suc i = cc in let t : k ≡ i = omega arith in ap (λ (m : ℕ). Some m) t

-- where each definition is the first of its name, the test finds no name defined twice
pub distinct_once : (ds : List Def) → IsDistinct ds → once ds ≡ true
distinct_once [] h = refl
distinct_once (d ∷ ds) h = both (is_none (body_of ds d.name)) (once ds) (by_case (found ds d.name)) (distinct_once ds (tail_distinct d ds h))
  where
    both : (a b : Bool) → a ≡ true → b ≡ true → (a && b) ≡ true
    both true b e f = f
    both false b e f = absurd cc

    by_test : (j : ℕ) → (def_at ds j).name ≡ d.name → (b : Bool) → eqb d.name (def_at ds j).name ≡ b → cond b (Some 0) (index_of ds (def_at ds j).name >>= λ k. Some (suc k)) ≡ Some (suc j) → ⊥
    by_test j e true t k = absurd cc
    by_test j e false t k = eqb-false d.name (def_at ds j).name t (sym e)

    by_case : Found ds d.name → is_none (body_of ds d.name) ≡ true
    by_case (Free i b) = ap (λ (o : Option Expr). is_none o) b
    by_case (Held j lt n i b) = absurd (by_test j n (eqb d.name (def_at ds j).name) refl (h (suc j) (omega arith)))

-- a definition that is not the first of its name
pub not_once : (ds : List Def) (i : ℕ) → i < length ds → index_of ds (def_at ds i).name ≢ Some i → once ds ≡ false
not_once ds i lt n = go (once ds) refl
  where
    go : (b : Bool) → once ds ≡ b → b ≡ false
    go true e = absurd (n (once_distinct ds e i lt))
    go false e = refl

-- ---- the refusals

-- RULE is not defined
pub no_rule : (ds : List Def) (root : ℕ) → index_of ds root ≡ None → formula_of ds root ≡ refused_with NO_RULE
no_rule ds root h = rw (body_none ds root h) refl

-- RULE is defined
defined : (ds : List Def) (root place : ℕ) → index_of ds root ≡ Some place → is_none (body_of ds root) ≡ false
defined ds root place h = ap (λ (o : Option Expr). is_none o) (body_at ds root place h).2

-- a name that is defined twice is refused
pub twice : (ds : List Def) (root place : ℕ) → index_of ds root ≡ Some place → once ds ≡ false → formula_of ds root ≡ refused_with DEFINED_TWICE
twice ds root place h o = rw (defined ds root place h, o) refl

-- an endless definition is refused
pub cyclic : (ds : List Def) (root place : ℕ) → index_of ds root ≡ Some place → once ds ≡ true → any_endless ds ds ≡ true → formula_of ds root ≡ refused_with CYCLE
cyclic ds root place h o e = rw (defined ds root place h, o, e) refl

-- no definition is endless
pub ends_at : (all ds : List Def) → any_endless all ds ≡ false → (i : ℕ) → i < length ds → (f : Expr) × (value_of all (length all) (def_at ds i).name ≡ Some f)
ends_at all [] e i lt = absurd (omega arith)
ends_at all (d ∷ ds) e zero lt = go (value_of all (length all) d.name) e
  where
    go : (o : Option Expr) → (is_none o || any_endless all ds) ≡ false → (f : Expr) × (o ≡ Some f)
    go None k = absurd cc
    go (Some f) k = (f, refl)
ends_at all (d ∷ ds) e (suc i) lt = ends_at all ds (go (is_none (value_of all (length all) d.name)) e) i (omega arith)
  where
    go : (b : Bool) → (b || any_endless all ds) ≡ false → any_endless all ds ≡ false
    go true k = absurd cc
    go false k = k

-- where no other check refuses it, the formula is checked against the limits
pub formula_is : (ds : List Def) (root place : ℕ) (f : Expr) → index_of ds root ≡ Some place → once ds ≡ true → any_endless ds ds ≡ false → value_of ds (length ds) root ≡ Some f → formula_of ds root ≡ within_limits f
formula_is ds root place f h o e v = rw (defined ds root place h, o, e, v) refl

-- a formula of more than 32 atoms is refused
pub many_atoms : (f : Expr) → 32 < length (atoms_of f) → within_limits f ≡ refused_with TOO_MANY_ATOMS
many_atoms f lt = by_test (ltb 32 (length (atoms_of f))) refl
  where
    by_test : (b : Bool) → ltb 32 (length (atoms_of f)) ≡ b → cond b (refused_with TOO_MANY_ATOMS) (cond (ltb 1024 (weight_of f)) (refused_with TOO_BIG) (Ok f)) ≡ refused_with TOO_MANY_ATOMS
    by_test true t = refl
    by_test false t = absurd (omega (arith, lt, ltb-false 32 (length (atoms_of f)) t))

-- at most 32 atoms are not too many
few_atoms : (f : Expr) → length (atoms_of f) ≤ 32 → ltb 32 (length (atoms_of f)) ≡ false
few_atoms f le = by_test (ltb 32 (length (atoms_of f))) refl
  where
    by_test : (b : Bool) → ltb 32 (length (atoms_of f)) ≡ b → b ≡ false
    by_test true t = absurd (omega (arith, le, ltb-true 32 (length (atoms_of f)) t))
    by_test false t = refl

-- a formula of at most 32 atoms and of a weight within the limit is taken
pub small : (f : Expr) (w : ℕ) → length (atoms_of f) ≤ 32 → limited (weight_of f) ≡ Is w → within_limits f ≡ Ok f
small f w le h = rw (few_atoms f le) (by_test (ltb 1024 (weight_of f)) h)
  where
    by_test : (b : Bool) → cond b Large (Is (weight_of f)) ≡ Is w → cond b (refused_with TOO_BIG) (Ok f) ≡ Ok f
    by_test true k = absurd cc
    by_test false k = refl

-- a formula of at most 32 atoms and of a weight over the limit is refused
pub heavy : (f : Expr) → length (atoms_of f) ≤ 32 → ((w : ℕ) → limited (weight_of f) ≢ Is w) → within_limits f ≡ refused_with TOO_BIG
heavy f le h = rw (few_atoms f le) (by_test (ltb 1024 (weight_of f)) (h (weight_of f)))
  where
    by_test : (b : Bool) → cond b Large (Is (weight_of f)) ≢ Is (weight_of f) → cond b (refused_with TOO_BIG) (Ok f) ≡ refused_with TOO_BIG
    by_test true k = refl
    by_test false k = absurd (k refl)
