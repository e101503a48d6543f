-- A delivery on the fields is one on what they stand for.
use Rattle.std.proofs.Common.{refl, sym, subst, ap, ◌∙◌}
use Rattle.rv_model.specs.declared.entry.Act.{Act}
use Rattle.rv_model.specs.declared.entry.Act.TheVariants.{Deliver}
use Rattle.rv_model.specs.declared.entry.Entry.{Entry}
use Rattle.rv_core.specs.Setup.{FitsAct}
use Rattle.rv_core.specs.Core.{CoreValue, Steps}
use Rattle.rv_core.proofs.CoreLemmas.{core-after, core-answer, fits-words}
use Rattle.rv_core.proofs.machine.Core.deliver.Goals as goal

abbrev act_of : goal.After-push → Act
act_of c = Deliver c.args.slot c.args.hit.now

fits : (c : goal.After-push) → FitsAct c.self.inside.setup (act_of c)
fits c = let P : CoreValue → Type 0 = λ v. FitsAct v.setup (act_of c) in subst P (sym c.self.view_is) c.requires.fits

pub invariant_of-self : goal.invariant_of-self
invariant_of-self c =
    let i = c.self.inside in
    rw c.push.ensures (core-after i.setup i.words.items i.history c.self.invariant c.args.seat (act_of c) c.index-before.result.now c.deliver_on-delivered.result.word (fits c) c.deliver_on-delivered.ensures.fits c.index-before.ensures c.deliver_on-delivered.ensures.word c.deliver_on-delivered.ensures.range)

pub returns : goal.returns
returns c =
    let i = c.self.inside in
    let old : CoreValue = record { setup = i.setup; history = i.history } in
    let e : Entry = record { seat = c.args.seat; act = act_of c; before = c.index-before.result.now; after = c.deliver_on-delivered.result.word } in
    let s : Steps old (record old { history = c.push.new.self }) c.args.seat (act_of c) c.deliver_on-delivered.result.answer = record {
      entry = e;
      seat_is = refl;
      act_is = refl;
      grows = ap (λ h. record old { history = h }) c.push.ensures;
      fits = fits-words i.setup i.words.items i.history c.self.invariant c.args.seat (act_of c) c.index-before.result.now c.deliver_on-delivered.result.word (fits c) c.deliver_on-delivered.ensures.fits c.index-before.ensures c.deliver_on-delivered.ensures.word c.deliver_on-delivered.ensures.range;
      answer = c.deliver_on-delivered.ensures.answer ∙ core-answer i.setup i.words.items i.history c.self.invariant c.args.seat (act_of c) c.index-before.result.now c.deliver_on-delivered.result.word (fits c) c.deliver_on-delivered.ensures.fits c.index-before.ensures c.deliver_on-delivered.ensures.word c.deliver_on-delivered.ensures.range;
    } in
    let P : CoreValue → Type 0 = λ v. Steps v (record old { history = c.push.new.self }) c.args.seat (act_of c) c.deliver_on-delivered.result.answer in
    subst P c.self.view_is s
