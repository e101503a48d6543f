use Rattle.std.proofs.Common.{◌≡◌, ◌<◌, length, true, false, sym, ap, subst, ◌∙◌, arith, List, Bool}
use Rattle.rv_ltl.specs.inner.Reached.{flag_at, Joins}
use Rattle.rv_ltl.proofs.Rows.{read_row}
use Rattle.rv_ltl.proofs.Reaching.{way_start, way_on, way_end, undone-set}
use Rattle.rv_ltl.proofs.reached.reached.Goals as goal

pub loop-i-smaller : goal.loop-i-smaller
loop-i-smaller c =
    let d = c.deref-in-loop-i.ensures.value in
    let not_done : flag_at c.loop-i.done.items c.in-Some.i ≡ false = ap (λ (fs : List Bool). flag_at fs c.in-Some.i) (sym d) ∙ c.in-Some.ensures.2 in
    undone-set c.loop-i.done.items c.in-Some.i (omega (arith, ap (λ (fs : List Bool). length fs) d, c.in-Some.ensures.0)) not_done

pub loop-i-preserved : goal.loop-i-preserved
loop-i-preserved c =
    let rows = c.args.uses.now in
    let i = c.in-Some.i in
    let d = c.deref-in-loop-i.ensures.value in
    let inside : i < length rows = omega (arith, ap (λ (fs : List Bool). length fs) d, c.in-Some.ensures.0, c.loop-i.invariant.each_done) in
    let flagged : flag_at c.loop-i.flags.items i ≡ true = ap (λ (fs : List Bool). flag_at fs i) (sym c.deref.ensures.value) ∙ c.in-Some.ensures.1 in
    let row = c.deref-in-Some.ensures.value ∙ sym (read_row rows i c.index-uses-i.result inside c.index-uses-i.is) in
    let P : List Bool → Type 0 = λ r. Joins c.loop-i.flags.items r c.join.new.flags.items (length c.loop-i.flags.items) in
    way_on rows c.args.root c.loop-i.flags.items c.join.new.flags.items c.loop-i.done.items i c.loop-i.invariant flagged (subst P row c.join.ensures)

pub loop-i-init : goal.loop-i-init
loop-i-init c = way_start c.args.uses.now c.args.root c.in_ok-flags.flags.items c.in_ok-done.done.items c.in_ok-flags.ensures.each c.in_ok-done.ensures.each c.requires c.in_ok-flags.ensures.none c.in_ok-done.ensures.none

pub returns : goal.returns
returns c =
    let d = c.deref-in-loop-i.ensures.value in
    way_end c.args.uses.now c.args.root c.loop-i.flags.items c.loop-i.done.items c.loop-i.invariant (λ i below h.
    ap (λ (fs : List Bool). flag_at fs i) (sym d) ∙ c.in_default.ensures i (omega (arith, below, ap (λ (fs : List Bool). length fs) d)) (ap (λ (fs : List Bool). flag_at fs i) c.deref.ensures.value ∙ h))
