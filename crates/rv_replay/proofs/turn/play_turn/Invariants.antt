-- The deliveries so far are a part of the turn.
use Rattle.rv_feed.specs.Lane.{panics_of}
use Rattle.rv_replay.specs.inner.Turns.{PartListed}
use Rattle.rv_replay.proofs.turn.play_turn.Given as goal

abbrev pub invariant-loop-place : goal.invariant-loop-place
invariant-loop-place g l = PartListed (g.O.Observer.observed l.context) (panics_of l.reactors) l.cpu l.fn.core l.core l.word l.list l.from l.to l.place l.fn.observer l.observer
