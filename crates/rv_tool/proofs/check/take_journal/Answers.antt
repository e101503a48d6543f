use Rattle.std.specs.Prelude.{Result, Ok, Err, OnOk}
use Rattle.rv_tool.proofs.check.take_journal.Goals as goal

-- what always holds holds where it is asked of an `Ok` alone
on_ok : {X E : Type 0} (P : Type 0) (r : Result X E) → P → OnOk r P
on_ok P (Ok x) p = p
on_ok P (Err e) p = tt

pub returns-clause-same : goal.returns-clause-same
returns-clause-same g c = on_ok _ c.take_pieces.result c.take_pieces.ensures.same
