use Rattle.std.proofs.Common.{◌≡◌, ◌<◌, List, Bool, true, length, refl, sym, ap, ◌∙◌, arith}
use Rattle.rv_ltl.specs.declared.weight.Weight.{Weight}
use Rattle.rv_ltl.specs.declared.weight.Weight.TheVariants.{Open}
use Rattle.rv_ltl.specs.inner.Machine.{defs, value, computed}
use Rattle.rv_ltl.specs.inner.Weights.{weights_by, weight_at, def_at, known_at}
use Rattle.rv_ltl.specs.inner.Reached.{row_at, flag_at}
use Rattle.std.proofs.Math.ListN.{set}
use Rattle.std.proofs.lemmas.Bool.{false≢true}
use Rattle.rv_ltl.proofs.Elements.{value_at, any_default}
use Rattle.rv_ltl.proofs.Rows.{not_ready, read_row}
use Rattle.rv_ltl.proofs.settle.learn.Goals as goal

pub returns-then-not-is_ready : goal.returns-then-not-is_ready
returns-then-not-is_ready c =
    let ds = c.args.definitions.now in
    let i = c.args.i in
    let inside : i < length c.args.uses.now = omega (arith, c.requires.place, c.requires.uses.each) in
    let row = c.deref.ensures.value ∙ sym (read_row c.args.uses.now i c.index-uses-i.result inside c.index-uses-i.is) in
    let r = c.is_ready.ensures c.if-not-is_ready.true in
    let below : r.0 < length (defs ds) = omega (arith, r.1, ap (λ (fs : List Bool). length fs) row, c.requires.uses.width i c.requires.place) in
    let flag : flag_at (row_at c.args.uses.now i) r.0 ≡ true = ap (λ (fs : List Bool). flag_at fs r.0) (sym row) ∙ r.2 in
    let known : known_at c.args.weights.now.items r.0 ≡ Open = ap (λ (ws : List Weight). known_at ws r.0) (sym c.deref-2.ensures.value) ∙ r.3 in
    (refl, λ _. not_ready (defs ds) c.args.weights.now.items c.args.uses.now (length ds) i r.0 c.requires.distinct c.requires.uses c.requires.place below flag known)

pub returns-then-is_open : goal.returns-then-is_open
returns-then-is_open c =
    let ds = c.args.definitions.now in
    let i = c.args.i in
    let w : c.in_ok-weight.weight ≡ value (weights_by (weight_at (defs ds) c.args.weights.now.items)) (def_at (defs ds) i).body =
    c.in_ok-weight.ensures ∙ ap (λ (ws : List Weight). computed (weights_by (weight_at (defs ds) ws)) c.deref-4.result.now) c.deref-3.ensures.value
    ∙ value_at (weights_by (weight_at (defs ds) c.args.weights.now.items)) ds i c.index-definitions-i.result c.deref-4.result.now c.requires.place c.index-definitions-i.is c.requires.coded c.deref-4.ensures.value in
    (refl, λ _. sym w ∙ c.if-is_open.ensures.0 refl)

pub returns : goal.returns
returns c =
    let ds = c.args.definitions.now in
    let i = c.args.i in
    let w : c.in_ok-weight.weight ≡ value (weights_by (weight_at (defs ds) c.args.weights.now.items)) (def_at (defs ds) i).body =
    c.in_ok-weight.ensures ∙ ap (λ (ws : List Weight). computed (weights_by (weight_at (defs ds) ws)) c.deref-4.result.now) c.deref-3.ensures.value
    ∙ value_at (weights_by (weight_at (defs ds) c.args.weights.now.items)) ds i c.index-definitions-i.result c.deref-4.result.now c.requires.place c.index-definitions-i.is c.requires.coded c.deref-4.ensures.value in
    (ap (λ (x : Weight). set c.args.weights.now.items i x) w, (λ o. false≢true (c.if-is_open.ensures.1 (w ∙ o))), any_default c.args.weights.now.items i c.index.result.now Open (omega (arith, c.requires.each, c.requires.place)) ∙ sym c.index.ensures ∙ c.if-not-is_open.ensures.0 refl)
