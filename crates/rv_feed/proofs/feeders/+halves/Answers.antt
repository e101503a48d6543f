-- A list of feeders ran where both its halves did, and what both threads borrow may cross to them.
use denote.Param.Send.{sendable}
use Rattle.std.proofs.Common.{List, ◌++◌, sym, subst}
use Rattle.std.specs.Prelude.{All}
use Rattle.std.specs.List.{AllZip}
use Rattle.rv_feed.specs.Lane.{panics_of}
use Rattle.std.proofs.Crossing.{crosses}
use Rattle.rv_board.proofs.ThreadLemmas.{board-sync}
use Rattle.rv_board.proofs.ListLemmas.{All-front, All-back, AllZip-append}
use Rattle.rv_feed.proofs.feeders.+halves.Goals as goal

pub run_halves-run_both-requires-clause-low : goal.run_halves-run_both-requires-clause-low
run_halves-run_both-requires-clause-low g t c κs within =
    let fits = g.F.CpuScript.fits c.args.board.now in
    All-front fits c.split_at_mut-low.result.0.now c.split_at_mut-low.result.1.now (subst (All fits) c.split_at_mut-low.ensures.value c.requires)

pub run_halves-run_both-requires-clause-high : goal.run_halves-run_both-requires-clause-high
run_halves-run_both-requires-clause-high g t c κs within =
    let fits = g.F.CpuScript.fits c.args.board.now in
    All-back fits c.split_at_mut-low.result.0.now c.split_at_mut-low.result.1.now (subst (All fits) c.split_at_mut-low.ensures.value c.requires)

pub run_halves-returns : goal.run_halves-returns
run_halves-returns g t c =
    let ran = g.F.CpuScript.runs (panics_of c.args.reactors.now) in
    subst (λ (l : List g.row.F.Denot). AllZip ran l (c.run_both.new.low ++ c.run_both.new.high)) (sym c.split_at_mut-low.ensures.value) (AllZip-append ran _ _ _ _ c.run_both.ensures.low c.run_both.ensures.high)

pub run_both-join_mut-requires-send-F : goal.run_both-join_mut-requires-send-F
run_both-join_mut-requires-send-F g t c κs within = let send = c.requires-raw.1.1.1.0 in let sync = c.requires-raw.1.1.1.1.0 in search (sendable, crosses, board-sync) depth 20
