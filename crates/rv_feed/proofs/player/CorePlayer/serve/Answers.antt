-- It is served by its hit.
use Rattle.rv_feed.proofs.player.CorePlayer.serve.Goals as goal

pub returns : goal.returns
returns g c = c.serve_hit.ensures c.args.delivery.now.order
