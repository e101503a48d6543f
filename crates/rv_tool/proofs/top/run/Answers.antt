use Rattle.std.proofs.lemmas.Result.{err_from_is_err_and}
use Rattle.rv_model.specs.Histories.{IsLegal}
use Rattle.rv_check.specs.declared.reading.Verdict.{Verdict}
use Rattle.rv_tool.specs.declared.input.Prepared.{Prepared}
use Rattle.rv_tool.specs.declared.watch.PreparedWatch.{PreparedWatch}
use Rattle.rv_tool.specs.Changes.{input_beside}
use Rattle.rv_tool.specs.Checks.{CheckedValue, IsCheckReport, checked_input}
use Rattle.rv_tool.specs.Headline.{IsReported}
use Rattle.rv_tool.specs.inner.Commands.{IsOneReport, IsVerdictReport, IsWatchVerdictReport, IsJournalVerdictReport, IsSessionText}
use Rattle.rv_tool.specs.Inputs.{run_input}
use Rattle.rv_tool.specs.Listed.{listed_value}
use Rattle.rv_tool.specs.inner.Prepared.{prepared_value}
use Rattle.rv_tool.specs.Journals.{recordable_input}
use Rattle.rv_tool.specs.Possible.{MayInput, MayRunBeside, MayWatch, MayRecord, MayCheck, MayControl}
use Rattle.rv_tool.specs.Sessions.{control_in}
use Rattle.rv_tool.specs.inner.SessionValues.{session_value}
use Rattle.rv_tool.specs.Watched.{watched_input}
use Rattle.rv_tool.specs.inner.WatchReports.{watch_value}
use Rattle.rv_tool.proofs.CommandLemmas.{done_comes, run_comes, fault_comes, verdict_comes}
use Rattle.rv_tool.proofs.OneLemmas.{runs_one}
use Rattle.rv_tool.proofs.VerdictLemmas.{runs_verdicts, watch_verdicts, journal_verdicts}
use Rattle.rv_tool.proofs.top.run.Goals as goal

pub returns-in_ok-ready-in-Replay-clause-comes : goal.returns-in_ok-ready-in-Replay-clause-comes
returns-in_ok-ready-in-Replay-clause-comes g c =
    let words = c.in-Replay in let read = c.in_ok-ready-in-Replay in
    rw words.is (run_comes listed_value (MayInput words.bindings.now words.trace.now) IsOneReport (λ files. run_input files words.bindings.now words.trace.now) _ _ _ read.ready c.replayed.result c.ended.result read.ensures.reads.value read.ensures.some
    (runs_one read.ready c.replayed.result read.ensures.ready c.replayed.ensures) c.ended.ensures)

pub returns-in_ok-ready-in-Feed-clause-comes : goal.returns-in_ok-ready-in-Feed-clause-comes
returns-in_ok-ready-in-Feed-clause-comes g c =
    let words = c.in-Feed in let read = c.in_ok-ready-in-Feed in
    rw words.is (run_comes prepared_value (MayInput words.bindings.now words.trace.now) IsVerdictReport (λ files. run_input files words.bindings.now words.trace.now) _ _ _ read.ready c.fed.result c.ended-in-Feed.result read.ensures.reads.value read.ensures.some
    (runs_verdicts read.ready c.fed.result read.ensures.ready read.ensures.unchanged read.ensures.one c.fed.ensures) c.ended-in-Feed.ensures)

pub returns-in_ok-session-in-Control-clause-comes : goal.returns-in_ok-session-in-Control-clause-comes
returns-in_ok-session-in-Control-clause-comes g c =
    let words = c.in-Control in let read = c.in_ok-session-in-Control in
    rw words.is (done_comes session_value (MayControl words.bindings.now words.script.now) IsSessionText (λ files. control_in files words.bindings.now words.script.now) _ (g.S.Store.faults c.args.store.now) (g.S.Store.faults c.read_control.new.store) read.session
    c.without_run-in-Control.result read.ensures.reads.value read.ensures.some c.without_run-in-Control.ensures)

pub returns-in_ok-ready-in-FeedBeside-clause-comes : goal.returns-in_ok-ready-in-FeedBeside-clause-comes
returns-in_ok-ready-in-FeedBeside-clause-comes g c =
    let words = c.in-FeedBeside in let read = c.in_ok-ready-in-FeedBeside in
    rw words.is (run_comes prepared_value (MayRunBeside words.bindings.now words.trace.now words.script.now) (IsReported IsLegal) (λ files. input_beside files words.bindings.now words.trace.now words.script.now) _ _ _ read.ready c.fed-in-FeedBeside.result
    c.ended-in-FeedBeside.result read.ensures.reads.value read.ensures.some c.fed-in-FeedBeside.ensures c.ended-in-FeedBeside.ensures)

pub returns-in_ok-ready-in-Journal-clause-comes : goal.returns-in_ok-ready-in-Journal-clause-comes
returns-in_ok-ready-in-Journal-clause-comes g c =
    let words = c.in-Journal in let read = c.in_ok-ready-in-Journal in
    rw words.is (run_comes prepared_value (MayRecord words.bindings.now words.trace.now) IsJournalVerdictReport (λ files. recordable_input files words.bindings.now words.trace.now) _ _ _ read.ready c.recorded.result c.ended-in-Journal.result
    read.ensures.reads.value read.ensures.some (journal_verdicts read.ready c.recorded.result read.ensures.ready c.assert_one-in-Journal.ensures c.recorded.ensures) c.ended-in-Journal.ensures)

pub returns-in_err-ready-in-FeedBeside-clause-comes : goal.returns-in_err-ready-in-FeedBeside-clause-comes
returns-in_err-ready-in-FeedBeside-clause-comes g c =
    let words = c.in-FeedBeside in let read = c.in_err-ready-in-FeedBeside in
    let given = err_from_is_err_and c.from_residual-in_err-ready-in-FeedBeside.result c.from_residual-in_err-ready-in-FeedBeside.ensures.1 in
    rw (words.is, given.1, given.2) (fault_comes prepared_value (MayRunBeside words.bindings.now words.trace.now words.script.now) (IsReported IsLegal) (λ files. input_beside files words.bindings.now words.trace.now words.script.now) _ _ _ Prepared read.field-0.0 read.ensures.reads.value read.ensures.reads.named read.ensures.some)

pub returns-in_err-ready-in-Watch-clause-comes : goal.returns-in_err-ready-in-Watch-clause-comes
returns-in_err-ready-in-Watch-clause-comes g c =
    let words = c.in-Watch in let read = c.in_err-ready-in-Watch in
    let given = err_from_is_err_and c.from_residual-in_err-ready-in-Watch.result c.from_residual-in_err-ready-in-Watch.ensures.1 in
    rw (words.is, given.1, given.2) (fault_comes watch_value (MayWatch words.bindings.now words.trace.now words.monitor.now words.instance.now) IsWatchVerdictReport (λ files. watched_input files words.bindings.now words.trace.now words.monitor.now words.instance.now) _ _ _ PreparedWatch read.field-0.0 read.ensures.reads.value read.ensures.reads.named read.ensures.some)

pub returns-in_err-ready-in-Journal-clause-comes : goal.returns-in_err-ready-in-Journal-clause-comes
returns-in_err-ready-in-Journal-clause-comes g c =
    let words = c.in-Journal in let read = c.in_err-ready-in-Journal in
    let given = err_from_is_err_and c.from_residual-in_err-ready-in-Journal.result c.from_residual-in_err-ready-in-Journal.ensures.1 in
    rw (words.is, given.1, given.2) (fault_comes prepared_value (MayRecord words.bindings.now words.trace.now) IsJournalVerdictReport (λ files. recordable_input files words.bindings.now words.trace.now) _ _ _ Prepared read.field-0.0 read.ensures.reads.value read.ensures.reads.named read.ensures.some)

pub returns-in_err-verdict-in-Check-clause-comes : goal.returns-in_err-verdict-in-Check-clause-comes
returns-in_err-verdict-in-Check-clause-comes g c =
    let words = c.in-Check in let read = c.in_err-verdict-in-Check in
    let given = err_from_is_err_and c.from_residual-in_err-verdict-in-Check.result c.from_residual-in_err-verdict-in-Check.ensures.1 in
    rw (words.is, given.1, given.2) (fault_comes (λ (y : CheckedValue). y) (MayCheck words.bindings.now words.trace.now words.journal.now) IsCheckReport (λ files. checked_input files words.bindings.now words.trace.now words.journal.now) _ _ _ Verdict read.field-0.0 read.ensures.value read.ensures.named read.ensures.some)

pub returns-in_ok-ready-in-Watch-clause-comes : goal.returns-in_ok-ready-in-Watch-clause-comes
returns-in_ok-ready-in-Watch-clause-comes g c =
    let words = c.in-Watch in let read = c.in_ok-ready-in-Watch in
    rw words.is (run_comes watch_value (MayWatch words.bindings.now words.trace.now words.monitor.now words.instance.now) IsWatchVerdictReport (λ files. watched_input files words.bindings.now words.trace.now words.monitor.now words.instance.now) _ _ _ read.ready
    c.watched.result c.ended-in-Watch.result read.ensures.reads.value read.ensures.some (watch_verdicts read.ready c.watched.result read.ensures.ready c.assert_one.ensures c.watched.ensures) c.ended-in-Watch.ensures)

pub returns-in_ok-verdict-in-Check-clause-comes : goal.returns-in_ok-verdict-in-Check-clause-comes
returns-in_ok-verdict-in-Check-clause-comes g c =
    let words = c.in-Check in let read = c.in_ok-verdict-in-Check in
    rw words.is (verdict_comes (MayCheck words.bindings.now words.trace.now words.journal.now) (λ files. checked_input files words.bindings.now words.trace.now words.journal.now) _ _ _ read.verdict c.judged.result c.ended-in-Check.result read.ensures.value
    read.ensures.some c.judged.ensures c.ended-in-Check.ensures)
