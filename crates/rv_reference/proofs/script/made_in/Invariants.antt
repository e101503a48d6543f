use Rattle.std.proofs.Common.{◌≡◌, take, filter}
use Rattle.rv_model.specs.Records.{is_delivery}
use Rattle.rv_reference.proofs.script.made_in.Given as goal

abbrev pub invariant-loop-played : goal.invariant-loop-played
invariant-loop-played l = l.made.items ≡ filter is_delivery (take l.played-index l.script)
