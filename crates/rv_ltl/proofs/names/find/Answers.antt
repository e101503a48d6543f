use Rattle.std.proofs.Common.{sym}
use Rattle.rv_ltl.proofs.NameSets.{find_ok, find_err, slices_ascend}
use Rattle.rv_ltl.proofs.names.find.Goals as goal

pub returns-in-Ok : goal.returns-in-Ok
returns-in-Ok c = sym (find_ok c.args.names.now c.args.word c.in-Ok.place (slices_ascend c.args.names.now c.requires) c.in-Ok.ensures.bound c.in-Ok.ensures.ok)

pub returns-in-Err : goal.returns-in-Err
returns-in-Err c = sym (find_err c.args.names.now c.args.word c.in-Err.field-0 (slices_ascend c.args.names.now c.requires) c.in-Err.ensures.position)
