use Rattle.std.proofs.Common.{List, ℕ, ◌++◌, sym, append-nil, ap, ◌∙◌, arith}
use Rattle.std.specs.Prelude.{flat_map}
use Rattle.rv_control.specs.FileTexts.{name_line}
use Rattle.rv_control.proofs.TextLemmas.{grown-more, grown-all}
use Rattle.rv_control.proofs.control.Control.names.Goals as goal

pub loop-item-init : goal.loop-item-init
loop-item-init c = sym (append-nil c.args.out.now)

pub loop-item-preserved : goal.loop-item-preserved
loop-item-preserved c =
    c.in_ok-name_line.ensures
    ∙ grown-more (name_line c.args.self.now c.args.enabled) c.deref-item-items.result.now c.args.out.now c.loop-item.out c.loop-item.item-index _ c.loop-item-test.true c.loop-item.invariant

pub returns : goal.returns
returns c =
    c.loop-item.invariant
    ∙ ap (λ (z : List ℕ). c.args.out.now ++ z)
    (grown-all (name_line c.args.self.now c.args.enabled) c.deref-item-items.result.now c.loop-item.item-index c.loop-item-test.false
    ∙ ap (flat_map (name_line c.args.self.now c.args.enabled)) (c.deref-item-items.ensures.value ∙ c.in_ok-listed.ensures))
