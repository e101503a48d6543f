use Rattle.rv_core.proofs.FollowLemmas.{words_follow_acts}
use Rattle.rv_core.proofs.laws.words_follow_acts.Goals as goal

pub returns : goal.returns
returns c = words_follow_acts
