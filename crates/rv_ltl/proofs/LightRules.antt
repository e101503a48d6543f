-- The formula of a rule that is read is within the limit of weights.
use Rattle.std.proofs.Common.{◌≡◌, ℕ, ◌+◌, ◌≤◌, Bool, true, false, cond, not, ltb, List, length, Option, Some, None, Result, Ok, Err, refl, sym, ap, subst, ◌∙◌}
use mathlib.Core.Path.{ap₂}
use Rattle.std.specs.Prelude.{codes, IfOk}
use Rattle.std.proofs.lemmas.Bool.{ltb-false}
use Rattle.rv_text.specs.declared.numbers.TheConstants.{LTL_SYNTAX, NO_RULE, DEFINED_TWICE, CYCLE, TOO_MANY_ATOMS, TOO_BIG}
use Rattle.rv_text.specs.declared.refusals.Refusal.{Refusal}
use Rattle.rv_text.specs.declared.refusals.Refused.{Refused}
use Rattle.rv_text.specs.Readings.{Gives, refused_with, and_then}
use Rattle.rv_model.specs.Formulas.{RuleValue}
use Rattle.rv_model.specs.Ltl.{Ltl}
use Rattle.rv_model.specs.Weights.{weight}
use Rattle.rv_ltl.specs.declared.token.Binary.{Binary}
use Rattle.rv_ltl.specs.declared.token.Binary.TheVariants as binary
use Rattle.rv_ltl.specs.declared.token.Unary.{Unary}
use Rattle.rv_ltl.specs.declared.token.Unary.TheVariants as unary
use Rattle.rv_ltl.specs.Atoms.{one_of, two_of, formula_over}
use Rattle.rv_ltl.specs.File.{Def}
use Rattle.rv_ltl.specs.Grammar.{Expr, Paren, One, Two}
use Rattle.rv_ltl.specs.Names.{names_of, place_in}
use Rattle.rv_ltl.specs.Operators.{weight_two}
use Rattle.rv_ltl.specs.Pieces.{pieces_of}
use Rattle.rv_ltl.specs.Replace.{body_of, is_none, once, any_endless, value_of, weight_of}
use Rattle.rv_ltl.specs.RuleFile.{atoms_of, within_limits, formula_of, rule_of, rule_in, definitions_of, ltl_of}

-- ---- what a formula weighs

-- with an operator
one-weight : (op : Unary) (f : Ltl) → weight (one_of op f) ≡ 1 + weight f
one-weight unary.Always f = refl
one-weight unary.Eventually f = refl
one-weight unary.Next f = refl
one-weight unary.Not f = refl

-- with an operator between two
two-weight : (op : Binary) (f g : Ltl) → weight (two_of op f g) ≡ weight_two op (weight f) (weight g)
two-weight binary.And f g = refl
two-weight binary.Or f g = refl
two-weight binary.Until f g = refl
two-weight binary.Release f g = refl
two-weight binary.WeakUntil f g = refl
two-weight binary.Imply f g = refl
two-weight binary.Equivalent f g = refl

-- as an expression weighs of which it is made
formula-weight : (atoms : List ℕ) (e : Expr) → weight (formula_over atoms e) ≡ weight_of e
formula-weight atoms Expr.True = refl
formula-weight atoms Expr.False = refl
formula-weight atoms (Expr.Name x) = refl
formula-weight atoms (Paren e) = formula-weight atoms e
formula-weight atoms (One op e) = one-weight op (formula_over atoms e) ∙ ap (λ (n : ℕ). 1 + n) (formula-weight atoms e)
formula-weight atoms (Two op a b) = two-weight op (formula_over atoms a) (formula_over atoms b) ∙ ap₂ (weight_two op) (formula-weight atoms a) (formula-weight atoms b)

-- ---- what is taken is within the limit

-- what is taken passed the test
test-passed : {X : Type 0} {r : Result X Refusal} {x : X} (b : Bool) (number : ℕ) → cond b (refused_with number) r ≡ Ok x → r ≡ Ok x
test-passed true number e = absurd (cc)
test-passed false number e = e

-- a formula within the limits
within-light : (f g : Expr) → within_limits f ≡ Ok g → weight_of g ≤ 1024
within-light f g e = by_test (ltb 1024 (weight_of f)) refl (test-passed (ltb 32 (length (atoms_of f))) TOO_MANY_ATOMS e)
  where
    by_test : (b : Bool) → ltb 1024 (weight_of f) ≡ b → cond b (refused_with TOO_BIG) (Ok f) ≡ Ok g → weight_of g ≤ 1024
    by_test true t k = absurd (cc)
    by_test false t k = let same : f ≡ g = cc in subst (λ (h : Expr). weight_of h ≤ 1024) same (ltb-false 1024 (weight_of f) t)

-- the formula of a name
formula-light : (ds : List Def) (root : ℕ) (f : Expr) → formula_of ds root ≡ Ok f → weight_of f ≤ 1024
formula-light ds root f e =
    by_value (value_of ds (length ds) root)
    (test-passed (any_endless ds ds) CYCLE (test-passed (not (once ds)) DEFINED_TWICE (test-passed (is_none (body_of ds root)) NO_RULE e)))
  where
    by_value : (o : Option Expr) → (elim o as (λ _. Result Expr Refusal) [ Some g ↦ within_limits g | None ↦ refused_with CYCLE ]) ≡ Ok f → weight_of f ≤ 1024
    by_value None k = absurd (cc)
    by_value (Some g) k = within-light g f k

-- the rule of definitions
rule-light : (names : List (List ℕ)) (ds : List Def) (rule : RuleValue) → rule_in names ds ≡ Ok rule → weight rule.formula ≤ 1024
rule-light names ds rule e = by_root (place_in names (codes "RULE")) e
  where
    by_formula : (root : ℕ) (r : Result Expr Refusal) → formula_of ds root ≡ r → and_then r (λ f. Ok (rule_of names f)) ≡ Ok rule → weight rule.formula ≤ 1024
    by_formula root (Err x) is k = absurd (cc)
    by_formula root (Ok f) is k =
        let same : rule_of names f ≡ rule = cc in
        subst (λ (r : RuleValue). weight r.formula ≤ 1024) same (subst (λ (n : ℕ). n ≤ 1024) (sym (formula-weight (atoms_of f) f)) (formula-light ds root f is))

    by_root : (o : Option ℕ) → (elim o as (λ _. Result RuleValue Refusal) [ Some root ↦ and_then (formula_of ds root) (λ f. Ok (rule_of names f)) | None ↦ refused_with NO_RULE ]) ≡ Ok rule → weight rule.formula ≤ 1024
    by_root None k = absurd (cc)
    by_root (Some root) k = by_formula root (formula_of ds root) refl k

-- the rule of a text
text-light : (bytes : List ℕ) (rule : RuleValue) → ltl_of bytes ≡ Ok rule → weight rule.formula ≤ 1024
unfolding ltl_of
text-light bytes rule e = by_pieces (pieces_of false bytes) (test-passed (ltb 1048576 (length bytes)) LTL_SYNTAX e)
  where
    by_definitions : (pieces : List (List ℕ)) (o : Option (List Def)) → (elim o as (λ _. Result RuleValue Refusal) [ None ↦ refused_with LTL_SYNTAX | Some ds ↦ rule_in (names_of pieces) ds ]) ≡ Ok rule → weight rule.formula ≤ 1024
    by_definitions pieces None k = absurd (cc)
    by_definitions pieces (Some ds) k = rule-light (names_of pieces) ds rule k

    by_pieces : (o : Option (List (List ℕ))) → (elim o as (λ _. Result RuleValue Refusal) [ None ↦ refused_with LTL_SYNTAX | Some pieces ↦ elim (definitions_of pieces) as (λ _. Result RuleValue Refusal) [ None ↦ refused_with LTL_SYNTAX | Some ds ↦ rule_in (names_of pieces) ds ] ]) ≡ Ok rule → weight rule.formula ≤ 1024
    by_pieces None k = absurd (cc)
    by_pieces (Some pieces) k = by_definitions pieces (definitions_of pieces) k

-- so is what the text gives
pub gives-light : (bytes : List ℕ) (result : Result RuleValue Refused) → Gives (λ rule. rule) result (ltl_of bytes) → IfOk result (λ rule. weight rule.formula ≤ 1024)
gives-light bytes (Ok rule) given = text-light bytes rule given
gives-light bytes (Err refused) given = tt
