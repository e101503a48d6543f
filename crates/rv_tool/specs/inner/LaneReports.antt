-- What is told of the lanes of a run that has ended.
use Rattle.std.specs.Prelude.{◌≡◌, ℕ, List, [], ◌∷◌, ◌++◌}
use Rattle.rv_model.specs.declared.entry.Entry.{Entry}
use Rattle.rv_model.specs.declared.record.Record.{Record}
use Rattle.rv_model.specs.declared.record.Task.{Task}
use Rattle.rv_model.specs.Records.{sort_records, status_of}
use Rattle.rv_model.specs.Reports.{report_text}
use Rattle.rv_bind.specs.declared.bindings.Bindings.{Bindings}
use Rattle.rv_feed.specs.Lane.{lane_records}
use Rattle.rv_report.specs.Reported.{reported_of}
use Rattle.rv_watch.specs.declared.running.Watched.{Watched}
use Rattle.rv_watch.specs.Texts.{words_text}
use Rattle.rv_tool.specs.declared.replay.FinishedRun.{FinishedRun}

-- the text is the report of the records, the status is theirs, and the history is this one
pub record ReportsLanes (bindings : Bindings) (tasks : List Task) (rs : List Record) (h : List Entry) (done : FinishedRun) : Type 0 where
  pub text_is : done.text.items ≡ report_text (reported_of bindings) tasks (sort_records rs)
  pub status_is : done.status ≡ status_of rs
  pub history_is : done.closed ≡ h

-- the report of a watched run, and behind it the words of the slot
abbrev pub watch_report_text : {C : Type 0} → Bindings → List Task → Watched C → List ℕ
watch_report_text bindings tasks run = report_text (reported_of bindings) tasks (sort_records (lane_records run.lanes.items)) ++ words_text (run.words.items ++ run.last ∷ [])

-- the text is the report and the words of the run, the status is that of its records, and the history is its own
pub record ReportsWatched {C : Type 0} (bindings : Bindings) (tasks : List Task) (run : Watched C) (done : FinishedRun) : Type 0 where
  pub text_is : done.text.items ≡ watch_report_text bindings tasks run
  pub status_is : done.status ≡ status_of (lane_records run.lanes.items)
  pub history_is : done.closed ≡ run.closed
