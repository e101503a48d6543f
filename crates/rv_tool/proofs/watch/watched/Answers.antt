-- The digests of the lanes may cross to their threads.
use denote.Param.Send.{sendable}
use Rattle.rv_replay.proofs.SendLemmas.{digested-send}
use Rattle.rv_tool.proofs.watch.watched.Goals as goal

pub feed_watched-requires-send-C : goal.feed_watched-requires-send-C
feed_watched-requires-send-C g c κs within = search (sendable, digested-send) depth 20
