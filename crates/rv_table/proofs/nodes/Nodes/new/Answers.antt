-- One more node is a row.
use Rattle.std.proofs.Common.{◌≡◌, length, map, ap, sym, ◌∙◌, subst, rules}
use Rattle.std.specs.List.{All}
use Rattle.std.proofs.lemmas.List.Elements.{All-get_or}
use Rattle.rv_model.specs.Formulas.{ltl}
use Rattle.rv_model.specs.Table.{Node}
use Rattle.rv_model.specs.Labels.{IsLabel}
use Rattle.rv_table.specs.inner.Numbered.{AreEntered}
use Rattle.rv_table.proofs.LabelLemmas.{All-ltl}
use Rattle.rv_table.proofs.NumberedRows.{rows-more}
use Rattle.rv_table.proofs.nodes.Nodes.new.Goals as goal

pub enter_all-requires-clause-labels : goal.enter_all-requires-clause-labels
enter_all-requires-clause-labels c =
    let P : Node → Type 0 = λ n. All IsLabel n.labels in
    let node = c.node-item.result in
    let item : P node = subst P (sym c.node-item.is) (All-get_or P c.args.nodes.now c.loop-node.node-index node c.loop-node-test.true c.requires.labels) in
    let inside : All IsLabel (map ltl c.node.inside.labels.items) = subst P (sym c.node.view_is) item in
    rw c.deref.ensures.value (All-ltl c.node.inside.labels.items inside)

pub loop-node-preserved : goal.loop-node-preserved
loop-node-preserved c =
    let node = c.node-item.result in
    let old = c.loop-node.labels.items in
    let new = c.enter_all.new.labels.items in
    let rows = c.loop-node.rows.items in
    let kept = c.loop-node.invariant in
    let numbers = c.in_ok-numbers.numbers in
    let labels : map ltl c.deref.result.now ≡ node.labels = ap (map ltl) c.deref.ensures.value ∙ ap (λ (n : Node). n.labels) c.node.view_is in
    let count : c.len-row.result ≡ length rows = search rules in
    let entered : AreEntered old new (length rows) node.labels numbers.items =
    subst (λ n. AreEntered old new n node.labels numbers.items) count (subst (λ fs. AreEntered old new c.len-row.result fs numbers.items) labels c.in_ok-numbers.ensures) in
    rw c.in_ok-push-2.ensures.items (rows-more old new rows (record { labels = numbers; next = c.node.inside.next }) node c.args.first c.args.nodes.now c.loop-node.node-index c.loop-node-test.true c.node-item.is kept.0 kept.1 kept.2 entered (ap (λ (n : Node). n.next) c.node.view_is))
