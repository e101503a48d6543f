-- What was observed of the one history is what it reaches.
use Rattle.std.proofs.Common.{[], refl}
use Rattle.rv_reach.proofs.HasLemmas.{have-reached}
use Rattle.rv_reach.proofs.run.reach_list.Goals as goal

pub returns : goal.returns
returns c =
    let run = c.in_ok-done.ensures in
    let seen = run.observes c.args.tasks.now [] (c.in_ok-found.ensures, refl, c.in_ok-reached.ensures) in
    record {
      rs = run.rs;
      ascend = run.ascend;
      setup_is = run.setup_is;
      judges = run.judges;
      is_run = run.is_run;
      by_tables = run.by_tables;
      records_many = seen.1;
      is_found = seen.0;
      have_reached = have-reached c.args.setup c.in_ok-done.done.closed c.args.bindings.now c.observe_list.new.observer.reached seen.2;
    }
