use Rattle.std.proofs.lemmas.List.{drop_all}
use Rattle.std.proofs.lemmas.Result.{err_from_is_err_and}
use Rattle.rv_tool.proofs.ChangesLemmas.{asked_more, asked_refused, asked_all}
use Rattle.rv_tool.proofs.feed_beside.ask_all.Goals as goal

pub returns-in_err-change-clause-value : goal.returns-in_err-change-clause-value
returns-in_err-change-clause-value c =
    let given = err_from_is_err_and c.from_residual.result c.from_residual.ensures.1 in
    rw (given.1, given.2)
    (asked_refused c.args.control.now c.args.commands.now c.loop-numbered.numbered-index c.loop-numbered.control c.loop-numbered.changes.items c.numbered-item.result c.loop-numbered-test.true c.numbered-item.is
    c.loop-numbered.invariant c.in_err-change.field-0.0 c.in_err-change.ensures.refused)

pub loop-numbered-preserved : goal.loop-numbered-preserved
loop-numbered-preserved c =
    asked_more c.args.control.now c.args.commands.now c.loop-numbered.numbered-index c.loop-numbered.control c.loop-numbered.changes.items c.numbered-item.result c.loop-numbered-test.true c.numbered-item.is
    c.loop-numbered.invariant c.ask_in.new.control c.in_ok-change.change c.push.new.self.items c.in_ok-change.ensures.ok c.in_ok-change.ensures.below_halt c.in_ok-push.ensures.items

pub returns-clause-value : goal.returns-clause-value
returns-clause-value c =
    asked_all c.args.control.now c.args.commands.now c.loop-numbered.numbered-index c.loop-numbered.control c.loop-numbered.changes.items
    (drop_all c.loop-numbered.numbered-index c.args.commands.now c.loop-numbered-test.false) c.loop-numbered.invariant
