use Rattle.rv_ltl.proofs.AtomLaws.{atoms_reached, atoms_ascend}
use Rattle.rv_ltl.proofs.laws.atoms_are_reached.Goals as goal

pub returns-clause-rise : goal.returns-clause-rise
returns-clause-rise c = atoms_ascend

pub returns-clause-exact : goal.returns-clause-exact
returns-clause-exact c = atoms_reached
