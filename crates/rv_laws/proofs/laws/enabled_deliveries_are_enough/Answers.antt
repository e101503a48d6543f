use Rattle.rv_laws.proofs.EnabledLemmas.{shown_is_enough}
use Rattle.rv_laws.proofs.laws.enabled_deliveries_are_enough.Goals as goal

pub returns : goal.returns
returns c = shown_is_enough
