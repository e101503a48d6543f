use Rattle.std.proofs.Common.{◌≡◌, ◌<◌, ◌&&◌, ℕ, sym, subst}
use Rattle.std.specs.List.{list_all}
use Rattle.rv_model.specs.Meaning.{true_on}
use Rattle.rv_model.specs.Numbers.{has_bit}
use Rattle.rv_model.specs.Table.{node_at}
use Rattle.rv_table.proofs.LabelLemmas.{is_label_step}
use Rattle.rv_table.proofs.steps.follow_labels.Goals as goal

pub returns : goal.returns
returns c =
    λ x is.
    let nodes = c.args.nodes.now in
    let P : ℕ → Type 0 = λ letter. (q : ℕ) → q < 32 → has_bit c.entered.result q ≡ (has_bit c.next_of.result q && list_all (true_on letter) (node_at nodes q).labels) in
    is_label_step nodes c.args.set x c.next_of.result c.entered.result c.requires c.entered.type_inv c.next_of.ensures (subst P (sym is) c.entered.ensures)
