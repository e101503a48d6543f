use Rattle.rv_laws.proofs.IdleLemmas.{idle_script_is_none}
use Rattle.rv_laws.proofs.laws.idle_scripts_are_none.Goals as goal

pub returns : goal.returns
returns c = idle_script_is_none
