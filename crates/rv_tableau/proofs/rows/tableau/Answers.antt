use Rattle.rv_tableau.proofs.TableMeans.{answer_given}
use Rattle.rv_tableau.proofs.rows.tableau.Goals as goal

pub returns-clause-holds : goal.returns-clause-holds
returns-clause-holds c = answer_given c.parts.inside.parts.items c.deref.result.now c.args.parts.now c.deref.ensures.value c.parts.view_is c.parts.invariant c.table_of.result c.table_of.ensures
