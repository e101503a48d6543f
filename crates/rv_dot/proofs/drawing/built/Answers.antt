use Rattle.std.proofs.Common.{length}
use Rattle.rv_dot.specs.inner.Numberings.{states_by, events_by}
use Rattle.rv_dot.proofs.InitialLaws.{small_moves}
use Rattle.rv_dot.proofs.drawing.built.Goals as goal

pub edges-requires : goal.edges-requires
edges-requires c = small_moves c.args.moves.now (length (states_by c.args.numbering)) (length (events_by c.args.numbering)) c.requires.few_states c.requires.few_events c.requires.in_range
