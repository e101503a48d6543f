use Rattle.std.proofs.Common.{◌≡◌, subst}
use Rattle.rv_model.specs.Table.{Table}
use Rattle.rv_model.specs.Stepping.{step_set}
use Rattle.rv_table.proofs.SetLemmas.{step_set-atoms}
use Rattle.rv_table.proofs.table.Table.step.Goals as goal

pub returns-in-Atoms : goal.returns-in-Atoms
returns-in-Atoms c =
    let P : Table → Type 0 = λ t. 0 ≡ step_set t c.args.set c.args.letter in
    subst P c.self.view_is (rw (c.in-Events.is, c.in-Atoms.is) (step_set-atoms _ _ _ _))
