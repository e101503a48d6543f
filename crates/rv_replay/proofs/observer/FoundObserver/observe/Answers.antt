-- The report counts the record, whatever the machine did.
use Rattle.std.proofs.lemmas.Result.{on_ok_weaker}
use Rattle.rv_replay.proofs.observer.FoundObserver.observe.Goals as goal

pub returns : goal.returns
returns c = on_ok_weaker c.add.result (λ finds old made tasks rs is. finds tasks rs is) c.add.ensures
