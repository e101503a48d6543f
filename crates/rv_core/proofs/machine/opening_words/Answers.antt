-- The opening words are those of an empty history.
use Rattle.std.proofs.Common.{◌≡◌, ◌∷◌, ◌++◌, [], ℕ, List, arith, sum, ap, sym, ◌∙◌, subst, rules}
use Rattle.rv_model.specs.Setups.{Setup}
use Rattle.rv_core.specs.Core.{IsCore}
use Rattle.rv_core.proofs.OpeningLemmas.{opening_words, opens-none, opens-more, core-opens}
use Rattle.rv_core.proofs.machine.opening_words.Goals as goal

pub loop-slot-init : goal.loop-slot-init
loop-slot-init c =
    let one : c.push.new.self.items ≡ c.setup.inside.switches ∷ [] = search rules in
    one ∙ ap (λ (s : Setup). s.switches ∷ []) c.setup.view_is ∙ opens-none c.args.setup.now

pub loop-slot-preserved : goal.loop-slot-preserved
loop-slot-preserved c =
    let more : c.push-in-loop-slot.new.self.items ≡ c.loop-slot.words.items ++ c.opening.result ∷ [] = search rules in
    more ∙ ap (λ (n : ℕ). c.loop-slot.words.items ++ n ∷ []) c.opening.ensures.word
    ∙ opens-more c.args.setup.now c.loop-slot.slot c.loop-slot.words.items c.opening.ensures.fits c.loop-slot.invariant

pub returns : goal.returns
returns c =
    let n : c.slots-slots.result ≡ sum c.args.setup.now.shape = c.slots-slots.ensures.sum ∙ ap (λ (s : Setup). sum s.shape) c.setup.view_is in
    let all : c.loop-slot.slot ≡ sum c.args.setup.now.shape = omega arith in
    subst (λ (ws : List ℕ). IsCore c.args.setup.now ws []) (sym (c.loop-slot.invariant ∙ ap (opening_words c.args.setup.now) all)) (core-opens c.args.setup.now c.assert_invariant.ensures)
