use Rattle.rv_trace.proofs.StampLemmas.{stamp-places, places-stamp}
use Rattle.rv_trace.proofs.laws.stamps_by_places.Goals as goal

pub returns : goal.returns
returns c text word = (λ is. stamp-places text word is, λ is. places-stamp text word is.0 is.1)
