-- What is ready is recorded, or the bindings are refused.
use Rattle.std.proofs.Common.{◌≡◌, true, false, sym, ◌∙◌}
use Rattle.rv_tool.specs.Journals.{can_record}
use Rattle.rv_tool.specs.inner.Prepared.{prepared_value}
use Rattle.rv_tool.proofs.RecordableLemmas.{may_record, ready_told, not_told}
use Rattle.rv_tool.proofs.journal.recordable.Goals as goal

pub returns-then-can_record : goal.returns-then-can_record
returns-then-can_record c =
    let on : can_record (prepared_value c.args.ready) ≡ true = sym c.can_record.ensures ∙ c.if-can_record.true in
    record { ready = may_record c.args.ready c.requires.ready c.requires.unchanged on; value = ready_told c.args.ready c.args.bindings.now on }

pub returns-else-can_record : goal.returns-else-can_record
returns-else-can_record c =
    let off : can_record (prepared_value c.args.ready) ≡ false = sym c.can_record.ensures ∙ c.if-can_record.false in
    record { ready = tt; value = not_told c.args.ready c.args.bindings.now c.not_recordable.result off c.not_recordable.ensures }
