use Rattle.rv_bind.proofs.FrontLaws.{looks_decides}
use Rattle.rv_control.specs.Scripts.{script_of}
use Rattle.rv_control.proofs.ScriptFront.{script-looks}
use Rattle.rv_control.proofs.laws.front_decides.Goals as goal

pub returns : goal.returns
returns c = looks_decides script_of script-looks
