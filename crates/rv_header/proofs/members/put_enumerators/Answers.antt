use Rattle.std.proofs.Common.{ap, ◌∙◌, sym}
use Rattle.std.specs.Prelude.{Some}
use Rattle.std.proofs.Common.{◌<◌, length, arith}
use Rattle.rv_header.proofs.Written.{enumerators_one, enumerators_many}
use Rattle.rv_header.proofs.ListSteps.{is_empty}
use Rattle.rv_header.proofs.members.put_enumerators.Goals as goal

pub returns-then-len-eq0 : goal.returns-then-len-eq0
returns-then-len-eq0 c =
    enumerators_one c.args.name.now c.args.most.now c.args.members.now c.args.out.now c.put_tagged.new.out c.text.new.self
    (is_empty c.args.members.now (sym c.len.ensures ∙ omega arith)) c.in_ok-put_tagged.ensures c.in_ok-text.ensures.ok

pub returns : goal.returns
returns c =
    let some : 0 < length c.args.members.now = rw (← c.len.ensures) (omega arith) in
    enumerators_many c.args.name.now c.args.most.now c.bytes.result.now c.args.members.now c.args.out.now _ _ _ _ _
    some (c.get.ensures ∙ ap Some (sym c.bytes.ensures)) c.in_ok-put_tagged-2.ensures c.in_ok-text-2.ensures.ok c.in_ok-put_later_names.ensures c.in_ok-text-3.ensures.ok c.in_ok-put_tagged-3.ensures
