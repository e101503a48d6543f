-- One act on the fields is one act on what they stand for.
use Rattle.std.proofs.Common.{◌≡◌, refl, sym, subst, ap, ◌∙◌, get_or}
use Rattle.rv_model.specs.declared.entry.Entry.{Entry}
use Rattle.rv_core.specs.Setup.{FitsAct, word_index}
use Rattle.rv_core.specs.Core.{CoreValue, Steps}
use Rattle.rv_core.proofs.CoreLemmas.{core-after, core-answer, fits-words}
use Rattle.rv_core.proofs.machine.Core.step.Goals as goal

fits : (c : goal.After-push) → FitsAct c.self.inside.setup c.args.act.now
fits c = let P : CoreValue → Type 0 = λ v. FitsAct v.setup c.args.act.now in subst P (sym c.self.view_is) c.requires

read : (c : goal.After-push) → c.index-before.result.now ≡ get_or c.self.inside.words.items (word_index c.args.act.now) c.index-before.result.now
read c = c.index-before.ensures ∙ ap (λ n. get_or c.self.inside.words.items n c.index-before.result.now) c.word_index-place.ensures

abbrev entry_of : goal.After-push → Entry
entry_of c = record { seat = c.args.seat; act = c.args.act.now; before = c.index-before.result.now; after = c.act_on-step.result.word }

pub invariant_of-self : goal.invariant_of-self
invariant_of-self c =
    let i = c.self.inside in
    rw (c.push.ensures, c.word_index-place.ensures) (core-after i.setup i.words.items i.history c.self.invariant c.args.seat c.args.act.now c.index-before.result.now c.act_on-step.result.word (fits c) c.act_on-step.ensures.fits (read c) c.act_on-step.ensures.word c.act_on-step.ensures.range)

pub returns : goal.returns
returns c =
    let i = c.self.inside in
    let old : CoreValue = record { setup = i.setup; history = i.history } in
    let s : Steps old (record old { history = c.push.new.self }) c.args.seat c.args.act.now c.act_on-step.result.answer = record {
      entry = entry_of c;
      seat_is = refl;
      act_is = refl;
      grows = ap (λ h. record old { history = h }) c.push.ensures;
      fits = fits-words i.setup i.words.items i.history c.self.invariant c.args.seat c.args.act.now c.index-before.result.now c.act_on-step.result.word (fits c) c.act_on-step.ensures.fits (read c) c.act_on-step.ensures.word c.act_on-step.ensures.range;
      answer = c.act_on-step.ensures.answer ∙ core-answer i.setup i.words.items i.history c.self.invariant c.args.seat c.args.act.now c.index-before.result.now c.act_on-step.result.word (fits c) c.act_on-step.ensures.fits (read c) c.act_on-step.ensures.word c.act_on-step.ensures.range;
    } in
    let P : CoreValue → Type 0 = λ v. Steps v (record old { history = c.push.new.self }) c.args.seat c.args.act.now c.act_on-step.result.answer in
    subst P c.self.view_is s
