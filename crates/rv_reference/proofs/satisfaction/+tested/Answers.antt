use Rattle.std.proofs.Common.{◌∙◌, sym}
use Rattle.rv_model.specs.Formulas.{ltl}
use Rattle.rv_model.proofs.TruthLemmas.{proper}
use Rattle.rv_reference.specs.Views.{view_of}
use Rattle.rv_reference.proofs.ListLemmas.{is_empty}
use Rattle.rv_reference.proofs.satisfaction.+tested.Goals as goal

pub returns-in_default : goal.returns-in_default
returns-in_default t c = rw (is_empty c.args.letters.now c.in_default.len_below) (c.is_weak.ensures ∙ sym (proper (ltl c.args.formula.now) (view_of c.args.view)))
