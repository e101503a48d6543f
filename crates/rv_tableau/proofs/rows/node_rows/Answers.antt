use Rattle.rv_tableau.proofs.rows.node_rows.Goals as goal

pub set_cover-requires-clause-few : goal.set_cover-requires-clause-few
set_cover-requires-clause-few c = c.requires.few

pub set_cover-requires-clause-below : goal.set_cover-requires-clause-below
set_cover-requires-clause-below c = c.requires.below

pub set_cover-requires-clause-numbers : goal.set_cover-requires-clause-numbers
set_cover-requires-clause-numbers c = c.requires.numbers

pub labels_of-requires : goal.labels_of-requires
labels_of-requires c = c.requires.few

pub next_rows-next-requires : goal.next_rows-next-requires
next_rows-next-requires c = c.requires.nodes
