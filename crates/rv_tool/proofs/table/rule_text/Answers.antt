-- A rule has at most 32 atoms.
use Rattle.std.proofs.Common.{◌≤◌, sym, subst}
use Rattle.rv_model.specs.Formulas.{RuleValue, ltl}
use Rattle.rv_model.specs.Weights.{weight}
use Rattle.rv_tableau.proofs.AtomsBelow.{atoms_within}
use Rattle.rv_tool.proofs.table.rule_text.Goals as goal

pub normal-requires-clause-atoms : goal.normal-requires-clause-atoms
normal-requires-clause-atoms c = atoms_within _ 32 c.rule.invariant.few_atoms (ltl c.rule.inside.formula) c.rule.invariant.in_range

pub normal-requires-clause-light : goal.normal-requires-clause-light
normal-requires-clause-light c = subst (λ (r : RuleValue). weight r.formula ≤ 1024) (sym c.rule.view_is) c.requires
