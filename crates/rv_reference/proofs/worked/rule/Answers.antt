use Rattle.std.proofs.Common.{sym, subst, List, ℕ}
use Rattle.rv_model.specs.Formulas.{ltl, IsRule}
use Rattle.rv_reference.proofs.WellFormedLemmas.{letters_well_formed}
use Rattle.rv_reference.proofs.worked.rule.Goals as goal

pub invariant_of-result : goal.invariant_of-result
invariant_of-result c = subst (λ (names : List (List ℕ)). IsRule (record { atoms = names; formula = ltl c.args.formula })) (sym c.in_ok-atoms.ensures) (letters_well_formed c.args.count (ltl c.args.formula) c.requires.few c.requires.in_range)
