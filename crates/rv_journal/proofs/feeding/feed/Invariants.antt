use Rattle.rv_journal.proofs.CountedFeedLemmas.{FedIn, FedTurns}
use Rattle.rv_journal.proofs.feeding.feed.Given as goal

-- the turns so far were made
abbrev pub invariant-loop-place : goal.invariant-loop-place
invariant-loop-place g l = FedTurns l.fn.seat l.seat l.fn.lane l.lane l.place

-- the deliveries so far were made
abbrev pub invariant-loop-number : goal.invariant-loop-number
invariant-loop-number g l = FedIn l.fn.seat l.seat l.fn.lane l.lane l.place l.number-end l.number
