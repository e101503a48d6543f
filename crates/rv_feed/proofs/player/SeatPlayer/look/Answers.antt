-- A look adds its entry to the seat's list.
use Rattle.rv_feed.proofs.AddLemmas.{looks}
use Rattle.rv_feed.proofs.player.SeatPlayer.look.Goals as goal

pub returns : goal.returns
returns c = looks c.args.self.now c.look.new.seat c.look.result c.look.ensures
