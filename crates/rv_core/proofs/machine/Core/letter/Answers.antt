-- The letter by the levels of the history, which the word of the slot has.
use Rattle.std.proofs.Common.{◌≡◌, ◌≢◌, ◌<◌, ap, ◌∙◌, subst, sum, reverse, sym}
use Rattle.rv_model.specs.Phases.{level, letter_at, stopped}
use Rattle.rv_model.specs.Setups.{start_of}
use Rattle.rv_core.specs.Advance.{letter_by}
use Rattle.rv_core.specs.Core.{CoreValue}
use Rattle.rv_core.specs.RowPhases.{phase_at}
use Rattle.rv_core.proofs.PhaseLemmas.{word-letter}
use Rattle.rv_core.proofs.machine.Core.letter.Goals as goal

-- the slot is one of the machine
within : (c : goal.After-letter_by) → c.args.slot < sum c.self.inside.setup.shape
within c = let P : CoreValue → Type 0 = λ v. c.args.slot < sum v.setup.shape in subst P (sym c.self.view_is) c.requires

pub returns : goal.returns
returns c =
    let i = c.self.inside in
    let P : CoreValue → Type 0 = λ v. phase_at v c.args.slot ≢ stopped → c.letter_by.result ≡ letter_at (level (start_of v.setup c.args.slot) (reverse v.history) c.args.slot) c.args.what.now in
    subst P c.self.view_is (λ goes.
    c.letter_by.ensures.letter ∙ ap (letter_by c.args.what.now) c.atoms_of.ensures.atoms
    ∙ word-letter i.setup i.words.items i.history c.self.invariant c.args.slot (within c) c.index.result.now c.index.ensures c.args.what.now c.letter_by.ensures.fits goes)
