-- The turns name the deliveries in order.
use Rattle.std.proofs.Common.{◌≡◌, ◌≤◌, length, get_or, sym, ap, subst, ◌∙◌, arith}
use Rattle.rv_model.specs.declared.work.Turn.{Turn}
use Rattle.rv_model.specs.Works.{Work, IsWork}
use Rattle.rv_check.proofs.PlaceLemmas.{names-in}
use Rattle.rv_check.proofs.work.turn_at.Goals as goal

pub returns-clause-in_list : goal.returns-clause-in_list
returns-clause-in_list c =
    let is : Work = c.args.work.now in
    let names : IsWork is = subst IsWork c.work.view_is c.work.invariant in
    let t : Turn = c.index.result.now in
    let at : t ≡ get_or is.turns c.args.place t = c.index.ensures ∙ ap (λ (w : Work). get_or w.turns c.args.place t) c.work.view_is in
    let in_list : (get_or is.turns c.args.place t).to ≤ length is.deliveries = names-in 0 is.turns (length is.deliveries) names c.args.place t c.requires in
    subst (λ (u : Turn). u.to ≤ length is.deliveries) (sym at) in_list

pub returns-clause-few : goal.returns-clause-few
returns-clause-few c =
    let small = c.work.inside.turns.small in
    let held = c.work.inside.turns.ok.0 in
    let room = c.work.inside.turns.ok.1 in
    let long : length c.args.work.now.turns ≡ length c.work.inside.turns.items = ap (λ (w : Work). length w.turns) (sym c.work.view_is) in
    omega arith
