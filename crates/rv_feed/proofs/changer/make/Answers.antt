-- What it lowers, what it clears, and what it raises.
use Rattle.rv_model.specs.declared.entry.Act.TheVariants.{Lower, Raise}
use Rattle.rv_model.specs.Scripts.{bits_act, clears}
use Rattle.rv_feed.proofs.ChangeLemmas.{does-then}
use Rattle.rv_feed.proofs.changer.make.Goals as goal

pub returns : goal.returns
returns c =
    let change = c.args.change.now in
    let shape = c.args.board.now.setup.shape in
    let cleared = does-then c.args.seat.now c.lower.new.seat c.clear.new.seat (bits_act Lower change.lower) (clears shape change.clear) c.lower.ensures c.clear.ensures in
    does-then c.args.seat.now c.clear.new.seat c.raise.new.seat _ (bits_act Raise change.raise) cleared c.raise.ensures
