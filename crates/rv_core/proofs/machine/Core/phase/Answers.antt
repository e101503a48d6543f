-- The phase of the history, by the word of the slot.
use Rattle.std.proofs.Common.{◌≡◌, ◌<◌, ◌∙◌, subst, sum, sym}
use Rattle.rv_model.specs.Setups.{judge_of}
use Rattle.rv_core.specs.Core.{CoreValue}
use Rattle.rv_core.specs.RowPhases.{phase_at, row_phase}
use Rattle.rv_core.specs.Setup.{judges_of}
use Rattle.rv_core.proofs.PhaseLemmas.{word-phase}
use Rattle.rv_core.proofs.machine.Core.phase.Goals as goal

-- the slot is one of the machine
within : (c : goal.After-phase_in) → c.args.slot < sum c.self.inside.setup.shape
within c = let P : CoreValue → Type 0 = λ v. c.args.slot < sum v.setup.shape in subst P (sym c.self.view_is) c.requires

pub returns : goal.returns
returns c =
    let i = c.self.inside in
    let P : CoreValue → Type 0 = λ v. c.phase_in.result ≡ row_phase (judge_of v.setup (judges_of v.setup) c.args.slot) (phase_at v c.args.slot) in
    subst P c.self.view_is (c.phase_in.ensures ∙ word-phase i.setup i.words.items i.history c.self.invariant c.args.slot (within c) c.index.result.now c.index.ensures)
