use Rattle.std.proofs.Common.{[], ap, sym, ◌∙◌, arith}
use Rattle.std.specs.Prelude.{flat_map}
use Rattle.rv_control.specs.Trees.{ControlValue}
use Rattle.rv_control.specs.FileTexts.{with_held}
use Rattle.rv_control.proofs.TextLemmas.{grown-more, grown-all}
use Rattle.rv_control.proofs.control.Control.listed.Goals as goal

pub loop-item-init : goal.loop-item-init
loop-item-init c = c.new-listed.ensures.items

pub loop-item-preserved : goal.loop-item-preserved
loop-item-preserved c =
    c.in_ok-list.ensures ∙ grown-more (with_held c.args.self.now) c.deref-item-items.result.now [] c.loop-item.listed.items c.loop-item.item-index _ c.loop-item-test.true c.loop-item.invariant

pub returns : goal.returns
returns c =
    c.loop-item.invariant ∙ grown-all (with_held c.args.self.now) c.deref-item-items.result.now c.loop-item.item-index c.loop-item-test.false
    ∙ ap (flat_map (with_held c.args.self.now)) (c.deref-item-items.ensures.value ∙ ap (λ (tree : ControlValue). tree.items) c.self.view_is)
