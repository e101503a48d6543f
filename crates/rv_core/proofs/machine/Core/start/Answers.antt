-- The table judges, so its start row is that of no letters.
use Rattle.std.proofs.Common.{◌≡◌, ◌<◌, [], subst, sum, sym, ◌∙◌, ap}
use Rattle.rv_model.specs.Phases.{rows_of}
use Rattle.rv_model.specs.Setups.{judge_of}
use Rattle.rv_model.specs.Stepping.{start_set}
use Rattle.rv_core.specs.Core.{CoreValue}
use Rattle.rv_core.specs.Setup.{judges_of}
use Rattle.rv_core.proofs.PhaseLemmas.{start-rows}
use Rattle.rv_core.proofs.machine.Core.start.Goals as goal

pub returns : goal.returns
returns c =
    let s = c.self.inside.setup in
    let P : CoreValue → Type 0 = λ v. c.start.result ≡ rows_of (judge_of v.setup (judges_of v.setup) c.args.slot) [] in
    let within : c.args.slot < sum s.shape = let Q : CoreValue → Type 0 = λ v. c.args.slot < sum v.setup.shape in subst Q (sym c.self.view_is) c.requires in
    subst P c.self.view_is (c.start.ensures ∙ ap start_set c.table.ensures ∙ start-rows s c.self.invariant.is_setup c.args.slot within)
