use Rattle.std.proofs.Common.{◌∙◌, sym, ap, length, map, arith}
use Rattle.std.proofs.lemmas.List.{length-map}
use Rattle.rv_nnf.specs.Views.{part_value, part_values}
use Rattle.rv_tableau.specs.Rows.{node_row}
use Rattle.rv_tableau.proofs.TableMeans.{few_given, fit_given, made_given, first_given}
use Rattle.rv_tableau.proofs.rows.table_of.Goals as goal

pub branch_numbers-requires : goal.branch_numbers-requires
branch_numbers-requires c = c.requires.below

pub nodes-requires-clause-normal : goal.nodes-requires-clause-normal
nodes-requires-clause-normal c = c.requires

pub set_cover-requires-clause-few : goal.set_cover-requires-clause-few
set_cover-requires-clause-few c = rw (length-map c.args.parts.now part_value) at c.requires.few

pub set_cover-requires-clause-below : goal.set_cover-requires-clause-below
set_cover-requires-clause-below c = c.requires.below

pub node_rows-requires-clause-few : goal.node_rows-requires-clause-few
node_rows-requires-clause-few c = rw (length-map c.args.parts.now part_value) at c.requires.few

pub node_rows-requires-clause-below : goal.node_rows-requires-clause-below
node_rows-requires-clause-below c = c.requires.below

pub next_rows-first-requires : goal.next_rows-first-requires
next_rows-first-requires c =
    let f = few_given (part_values c.args.parts.now) c.in_ok-nodes.nodes.items c.in_ok-nodes.ensures in
    let e = ap length c.deref-3.ensures.value in omega arith

pub node_rows-requires-clause-nodes : goal.node_rows-requires-clause-nodes
node_rows-requires-clause-nodes c =
    let f = few_given (part_values c.args.parts.now) c.in_ok-nodes.nodes.items c.in_ok-nodes.ensures in
    let e = ap length c.deref-6.ensures.value in omega arith

pub from_nodes-requires : goal.from_nodes-requires
from_nodes-requires c =
    let ps = part_values c.args.parts.now in
    let first = first_given ps c.next_rows-first.result c.bit.result (length c.args.parts.now) c.deref-4.result.now c.in_ok-whole.whole.items c.in_ok-nodes.nodes.items c.deref-3.result.now c.next_rows-first.ensures c.deref-3.ensures.value c.deref-4.ensures.value c.in_ok-whole.ensures c.bit.ensures (sym (length-map c.args.parts.now part_value)) in
    let rows = c.in_ok-rows.ensures ∙ ap (λ ns. map (node_row ps ns) ns) c.deref-6.ensures.value in
    fit_given ps c.requires c.in_ok-nodes.nodes.items c.in_ok-nodes.ensures c.next_rows-first.result c.in_ok-rows.rows.items first rows

pub returns : goal.returns
returns c =
    let ps = part_values c.args.parts.now in
    let first = first_given ps c.next_rows-first.result c.bit.result (length c.args.parts.now) c.deref-4.result.now c.in_ok-whole.whole.items c.in_ok-nodes.nodes.items c.deref-3.result.now c.next_rows-first.ensures c.deref-3.ensures.value c.deref-4.ensures.value c.in_ok-whole.ensures c.bit.ensures (sym (length-map c.args.parts.now part_value)) in
    let rows = c.in_ok-rows.ensures ∙ ap (λ ns. map (node_row ps ns) ns) c.deref-6.ensures.value in
    made_given ps c.in_ok-nodes.nodes.items c.in_ok-nodes.ensures c.next_rows-first.result c.in_ok-rows.rows.items c.in_ok-from_nodes.field-0 first rows c.in_ok-from_nodes.ensures
