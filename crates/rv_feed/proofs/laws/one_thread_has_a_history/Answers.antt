use Rattle.rv_feed.proofs.AnyRunLemmas.{one_exists}
use Rattle.rv_feed.proofs.laws.one_thread_has_a_history.Goals as goal

pub returns : goal.returns
returns c = one_exists
