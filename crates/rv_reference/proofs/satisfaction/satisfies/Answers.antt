use Rattle.std.proofs.Common.{map}
use Rattle.rv_model.specs.Letters.{atoms_in}
use Rattle.rv_model.specs.Formulas.{ltl}
use Rattle.rv_model.proofs.TruthLemmas.{tells}
use Rattle.rv_reference.specs.Views.{view_of}
use Rattle.rv_reference.proofs.satisfaction.satisfies.Goals as goal

pub returns : goal.returns
returns c = rw c.tested.ensures (tells (ltl c.args.formula.now) (view_of c.args.view) (map atoms_in c.args.letters.now))
