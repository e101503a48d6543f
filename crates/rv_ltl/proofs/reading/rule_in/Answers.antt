use Rattle.std.proofs.Common.{◌≡◌, ◌<◌, ◌≤◌, ℕ, List, length, Some, Ok, sym, ap, subst, ◌∙◌, arith}
use Rattle.std.specs.Prelude.{map}
use Rattle.std.proofs.lemmas.List.{length-map}
use Rattle.rv_model.specs.Ltl.{Ltl}
use Rattle.rv_model.specs.Formulas.{RuleValue, IsRule}
use Rattle.rv_ltl.specs.inner.Texts.{texts}
use Rattle.rv_ltl.specs.Names.{place_in}
use Rattle.rv_ltl.specs.inner.Machine.{defs}
use Rattle.rv_ltl.specs.Atoms.{Has, formula_over, name_at}
use Rattle.rv_ltl.specs.Grammar.{Expr}
use Rattle.rv_ltl.specs.File.{Def}
use Rattle.rv_ltl.specs.Replace.{value_of}
use Rattle.rv_ltl.specs.inner.Collected.{rule_over}
use Rattle.rv_ltl.specs.RuleFile.{atoms_of}
use Rattle.rv_ltl.proofs.RuleKept.{is_rule}
use Rattle.rv_ltl.proofs.BuiltFormulas.{built_is}
use Rattle.rv_ltl.proofs.Naming.{named_at}
use Rattle.rv_ltl.proofs.ReadingSteps.{rule_found}
use Rattle.rv_ltl.proofs.reading.rule_in.Goals as goal

-- the rule over the atoms of the formula that root stands for is that of the formula
rule_is : (names : List (List ℕ)) (ds : List Def) (root : ℕ) (f : Expr) (atoms : List ℕ) → value_of ds (length ds) root ≡ Some f → atoms ≡ atoms_of f → rule_over names ds root atoms ≡ record { atoms = map (name_at names) (atoms_of f); formula = formula_over (atoms_of f) f }
rule_is names ds root f atoms value all =
    let R : Ltl → RuleValue = λ g. record { atoms = map (name_at names) (atoms_of f); formula = g } in
    ap (λ (xs : List ℕ). rule_over names ds root xs) all ∙ ap R (built_is ds (atoms_of f) (length ds) root f value)

pub rule_over-requires-clause-few : goal.rule_over-requires-clause-few
rule_over-requires-clause-few c = omega (arith, c.in_ok-atoms.ensures.4, ap (λ (xs : List ℕ). length xs) c.deref.ensures.value)

pub rule_over-requires-clause-rule : goal.rule_over-requires-clause-rule
rule_over-requires-clause-rule c =
    let ds = defs c.args.definitions.now in
    let names = texts c.args.names.now in
    let g = c.in_ok-atoms.ensures in
    let count : length names ≡ length c.args.names.now = length-map c.args.names.now (λ s. s.now) in
    let P : RuleValue → Type 0 = λ r. IsRule r in
    let inside : (y : ℕ) → Has (atoms_of g.0) y → y < length names = λ y h.
    let H : List ℕ → Type 0 = λ xs. Has xs y in
    let m = g.5 y (subst H (sym g.3) h) in
    let below = named_at (length c.args.names.now) ds m.0 y c.requires.named m.1 m.2 in
    omega (arith, count, below) in
    let few : length (atoms_of g.0) ≤ 32 = omega (arith, g.4, ap (λ (xs : List ℕ). length xs) g.3) in
    subst P (sym (rule_is names ds c.in-Some.root g.0 c.deref.result.now g.2 (c.deref.ensures.value ∙ g.3))) (is_rule names g.0 c.requires.ascending few inside)

pub returns : goal.returns
returns c =
    let ds = defs c.args.definitions.now in
    let names = texts c.args.names.now in
    let g = c.in_ok-atoms.ensures in
    let root = sym (c.in-Some.ensures ∙ ap (λ (w : List ℕ). place_in names w) c.as_slice.ensures) in
    rule_found names ds c.in-Some.root g.0 root g.1 ∙ ap (λ (r : RuleValue). Ok r) (sym (c.in_ok-rule.ensures ∙ rule_is names ds c.in-Some.root g.0 c.deref.result.now g.2 (c.deref.ensures.value ∙ g.3)))
