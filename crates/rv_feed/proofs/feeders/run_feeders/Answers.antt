-- The control actor's changes, where there is one.
use Rattle.rv_feed.proofs.feeders.run_feeders.Goals as goal

pub returns-in-Some-clause-control : goal.returns-in-Some-clause-control
returns-in-Some-clause-control g c = rw c.in-Some.is c.run_beside.ensures.changer
