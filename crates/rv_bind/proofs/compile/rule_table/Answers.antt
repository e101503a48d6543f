use Rattle.std.proofs.Common.{◌≡◌, ◌≤◌, Ok, length, sym, ap, ◌∙◌, subst}
use Rattle.rv_model.specs.Formulas.{RuleValue, IsRule, ltl}
use Rattle.rv_model.specs.Weights.{weight}
use Rattle.rv_nnf.specs.NormalForm.{normal_of}
use Rattle.rv_tableau.proofs.AtomsBelow.{atoms_within}
use Rattle.rv_bind.proofs.TableLemmas.{answer_means, answer_gives}
use Rattle.rv_bind.proofs.compile.rule_table.Goals as goal

pub normal-requires-clause-atoms : goal.normal-requires-clause-atoms
normal-requires-clause-atoms c = atoms_within (length c.rule.inside.atoms) 32 c.rule.invariant.few_atoms (ltl c.rule.inside.formula) c.rule.invariant.in_range

pub normal-requires-clause-light : goal.normal-requires-clause-light
normal-requires-clause-light c = subst (λ (r : RuleValue). weight r.formula ≤ 1024) (sym c.rule.view_is) c.requires

pub returns-clause-gives : goal.returns-clause-gives
returns-clause-gives c = answer_gives (ltl c.rule.inside.formula) c.args.rule.now.formula c.in_ok-parts.parts c.tableau.result (ap (λ (r : RuleValue). r.formula) c.rule.view_is) c.in_ok-parts.ensures.gives c.tableau.ensures.gives

pub returns-clause-means : goal.returns-clause-means
returns-clause-means c =
    let is : IsRule c.args.rule.now = subst IsRule c.rule.view_is c.rule.invariant in
    let normal : normal_of c.args.rule.now.formula ≡ Ok c.in_ok-parts.parts = ap (λ (r : RuleValue). normal_of r.formula) (sym c.rule.view_is) ∙ c.in_ok-parts.ensures.gives in
    answer_means c.args.rule.now c.in_ok-parts.parts c.tableau.result (λ table e. c.table_means_rule.ensures c.args.rule.now is c.in_ok-parts.parts table normal e) c.tableau.ensures.gives
