-- What was observed is what was found.
use Rattle.std.proofs.Common.{[]}
use Rattle.rv_replay.proofs.walk.replay_list.Goals as goal

pub returns : goal.returns
returns c =
    let run = c.in_ok-run.ensures in
    record { rs = run.rs; ascend = run.ascend; is_run = run.is_run; is_found = run.observes c.args.tasks.now [] c.in_ok-found.ensures }
