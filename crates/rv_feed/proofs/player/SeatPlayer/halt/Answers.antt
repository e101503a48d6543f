-- A halt adds its entry to the seat's list.
use Rattle.rv_feed.proofs.AddLemmas.{halts}
use Rattle.rv_feed.proofs.player.SeatPlayer.halt.Goals as goal

pub returns : goal.returns
returns c = halts c.args.self.now c.halt.new.seat c.halt.ensures
