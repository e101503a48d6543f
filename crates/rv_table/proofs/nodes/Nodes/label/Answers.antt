-- The number is that of the label at the place.
use Rattle.std.proofs.Common.{◌≡◌, ◌<◌, length, slice_index_or, ap, sym, ◌∙◌, subst, arith, rules}
use Rattle.std.specs.Vec.{vec_len}
use Rattle.std.proofs.lemmas.List.{get_or_default}
use Rattle.rv_model.specs.Ltl.{True}
use Rattle.rv_model.specs.Table.{node_at}
use Rattle.rv_table.specs.declared.label.Label.{Label}
use Rattle.rv_table.proofs.NumberedRows.{node-label}
use Rattle.rv_table.proofs.nodes.Nodes.label.Goals as goal

pub index-requires-2 : goal.index-requires-2
index-requires-2 c =
    let labels = c.self.inside.labels.items in
    let rows = c.self.inside.rows.items in
    let number = c.index-number.result.now in
    let lt = subst (λ ns. c.args.row < length ns) (sym c.self.view_is) c.requires.row in
    let below = subst (λ ns. c.args.place < length (node_at ns c.args.row).labels) (sym c.self.view_is) c.requires.place in
    let few : number < length labels = (node-label labels rows c.args.row c.args.place c.index.result.now number c.self.invariant.within lt c.index.ensures below c.index-number.ensures).0 in
    let same : vec_len c.self.inside.labels ≡ length labels = search rules in
    omega arith

pub returns : goal.returns
returns c =
    let labels = c.self.inside.labels.items in
    let rows = c.self.inside.rows.items in
    let number = c.index-number.result.now in
    let lt = subst (λ ns. c.args.row < length ns) (sym c.self.view_is) c.requires.row in
    let below = subst (λ ns. c.args.place < length (node_at ns c.args.row).labels) (sym c.self.view_is) c.requires.place in
    let both = node-label labels rows c.args.row c.args.place c.index.result.now number c.self.invariant.within lt c.index.ensures below c.index-number.ensures in
    let no_label : Label = record { masks = True; rows = 0 } in
    c.label.ensures
    ∙ ap (λ (l : Label). l.masks) (c.index-2.ensures ∙ get_or_default labels number c.index-2.result.now no_label both.0)
    ∙ both.1
    ∙ ap (λ ns. slice_index_or (node_at ns c.args.row).labels c.args.place True) c.self.view_is
