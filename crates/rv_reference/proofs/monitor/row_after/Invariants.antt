use Rattle.std.proofs.Common.{ℕ, ◌<◌, ◌≡◌, false}
use Rattle.rv_model.specs.declared.hit.Letter.TheVariants.{Event}
use Rattle.rv_reference.specs.inner.Edges.{is_edge_by}
use Rattle.rv_reference.proofs.PathLemmas.{edge_at}
use Rattle.rv_reference.proofs.monitor.row_after.Given as goal

abbrev pub invariant-loop-edge : goal.invariant-loop-edge
invariant-loop-edge l = (k : ℕ) → k < l.edge-index → is_edge_by l.state (Event l.event) (edge_at l.automaton k) ≡ false
