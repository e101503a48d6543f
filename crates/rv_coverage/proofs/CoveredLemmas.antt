-- A run that was prepared, walked and counted: by the tables its history is the one history of the input, the counts are those of it, and what is told of them is its report.
use Rattle.std.proofs.Common.{◌≡◌, ℕ, List, [], map, length, refl, sym, ap, ◌∙◌, subst}
use Rattle.std.proofs.lemmas.List.{length-map}
use Rattle.std.specs.Prelude.{Result, Ok, Err, IfOk}
use Rattle.rv_text.specs.TextLines.{LineText, lines_of}
use Rattle.rv_model.specs.declared.entry.Entry.{Entry}
use Rattle.rv_model.specs.declared.formula.Spec.{Spec}
use Rattle.rv_model.specs.declared.record.Record.{Record}
use Rattle.rv_model.specs.declared.work.Scope.{Scope}
use Rattle.rv_model.specs.Cuts.{AtEach}
use Rattle.rv_model.specs.Histories.{AreJudges, Input, IsNoStop, IsOneHistory, LinesApart, input_with}
use Rattle.rv_model.specs.Judging.{Judge}
use Rattle.rv_model.specs.Records.{records_of}
use Rattle.rv_model.specs.Setups.{Setup}
use Rattle.rv_model.proofs.UniqueLemmas.{one_has_no_stop, one_is_unique}
use Rattle.rv_slots.specs.Shapes.{count_of}
use Rattle.rv_bind.specs.declared.bindings.Bindings.{Bindings}
use Rattle.rv_bind.specs.declared.bindings.Bound.{Bound}
use Rattle.rv_bind.specs.declared.bindings.Monitor.{Monitor}
use Rattle.rv_bind.specs.BoundViews.{bound_value}
use Rattle.rv_bind.specs.Values.{OnValue}
use Rattle.rv_core.specs.Setup.{judges_of}
use Rattle.rv_feed.specs.Lane.{panics_of}
use Rattle.rv_route.specs.Listing.{works_listed}
use Rattle.rv_replay.specs.Observing.{IsRunByTables}
use Rattle.rv_replay.proofs.RunLemmas.{fresh-works}
use Rattle.rv_report.specs.Reported.{reported, reported_of}
use Rattle.rv_report.specs.Tallies.{IsFound}
use Rattle.rv_matches.specs.RuleLines.{AreRuleLines, IsForRules}
use Rattle.rv_reach.specs.declared.run.ReachedRun.{ReachedRun}
use Rattle.rv_reach.specs.Reaching.{HaveReached, ReachesList}
use Rattle.rv_findings.specs.declared.coverage.CoverageReport.{CoverageReport}
use Rattle.rv_findings.specs.declared.coverage.Told.{Told}
use Rattle.rv_findings.specs.Whole.{coverage_status, coverage_text}
use Rattle.rv_counts.specs.Counts.{JudgedRun}
use Rattle.rv_counts.specs.Watching.{IsWatch, events_in}
use Rattle.rv_counts.specs.declared.watch.TraceWatch.{TraceWatch}
use Rattle.rv_counts.specs.KeptRun.{IsKeptOf}
use Rattle.rv_tool.specs.Inputs.{InputValue, run_of}
use Rattle.rv_tool.specs.Listed.{IsPreparedList, listed_value}
use Rattle.rv_tool.specs.declared.listed.PreparedList.{PreparedList}
use Rattle.rv_tool.proofs.ReportedLemmas.{input_is}
use Rattle.rv_coverage.specs.Headline.{IsCoverage, IsToldOf, judged_run}
use Rattle.rv_coverage.specs.Texts.{RunTexts}
use Rattle.rv_coverage.specs.Words.{CoverageCommandValue}
use Rattle.rv_coverage.specs.inner.Covering.{IsReportOf}

-- what is kept of lines under bindings is kept under others with the same rules
pub watch-rules : (one other : Bindings) (lines : List LineText) (w : TraceWatch) → one.rules.items ≡ other.rules.items → IsWatch one lines w → IsWatch other lines w
watch-rules one other lines w same is = record {
  text = is.text;
  events = is.events;
  rules = subst (λ (rules : List OnValue). AreRuleLines rules (events_in lines) w.rules) same is.rules;
  made = subst (λ (rules : List OnValue). IsForRules rules w.rules) same is.made;
}

-- the text and the status of what is told are a report of its lines, bindings and counts
pub told-report : {E : Type 0} (command : CoverageCommandValue) (told : Told) (r : Result CoverageReport E) → told.bindings.now ≡ command.bindings → told.trace.now ≡ command.trace
    → IfOk r (λ report. report.text.items ≡ coverage_text command.edges told) → IfOk r (λ report. report.status ≡ coverage_status command.edges told)
    → IfOk r (IsReportOf command told.lines.now (bound_value told.bound.now) told.counts.now)
told-report command told (Ok report) bindings trace text status = record {
  told = told;
  bindings = bindings;
  trace = trace;
  lines_are = refl;
  bound_is = refl;
  counts_are = refl;
  text = text;
  status = status;
}
told-report command told (Err e) bindings trace text status = tt

-- a setup that is prepared has a count of instances for each monitor
pub prepared_shape : (ready : PreparedList) → IsPreparedList ready → length ready.bindings.monitors.items ≡ length ready.setup.shape
prepared_shape ready is =
    let scopes : List Scope = map (λ (m : Monitor). m.scope) ready.bindings.monitors.items in
    sym (ap (λ (s : Setup). length s.shape) is.setup ∙ length-map scopes (count_of (length ready.tasks)) ∙ length-map ready.bindings.monitors.items (λ (m : Monitor). m.scope))

module _ (ready : PreparedList) (is : IsPreparedList ready) (run : ReachedRun) (reaches : ReachesList ready.bindings ready.tasks ready.setup (panics_of ready.reactors.items) ready.list run) where
  -- the input that is run
  abbrev input : InputValue
  input = listed_value ready

  -- the specifications of its monitors
  abbrev specs : List Spec
  specs = map (λ (m : Monitor). m.spec) ready.bindings.monitors.items

  -- its run with its history, by the tables
  abbrev pub judged : JudgedRun
  judged = judged_run input (judges_of ready.setup) run.closed

  -- what was walked is the run of the input
  walked_is : input_with ready.setup specs (panics_of ready.reactors.items) (works_listed ready.list) [] ≡ run_of input
  walked_is = input_is IsOneHistory input ready.setup ready.reactors.items (works_listed ready.list) [] is.setup is.reactors refl refl

  -- as the tables judge it
  by_tables : IsRunByTables ready.setup (panics_of ready.reactors.items) (works_listed ready.list) specs reaches.rs run.closed
  by_tables = reaches.by_tables specs is.mean

  -- its history is the one history of the input
  history : IsOneHistory (run_of input) (judges_of ready.setup) run.closed
  history = subst (λ (i : Input). IsOneHistory i (judges_of ready.setup) run.closed) walked_is by_tables.is_one

  -- no line makes turns of two CPUs
  apart : LinesApart (run_of input).works
  apart = subst LinesApart (fresh-works (works_listed ready.list)) is.fits.lanes.apart

  -- so nothing is stopped
  free : AtEach (λ before e. IsNoStop e.act) run.closed
  free = one_has_no_stop (run_of input) (judges_of ready.setup) run.closed apart history

  -- and no other history of one thread is one of the input
  same_history : (others : List Judge) (k : List Entry) → AreJudges (run_of input).specs (run_of input).setup.tables others → IsOneHistory (run_of input) others k → run.closed ≡ k
  same_history others k are one = one_is_unique (run_of input) (judges_of ready.setup) others run.closed k apart (reaches.judges specs is.mean) are history one

  -- and its records are those of it
  records : records_of (run_of input) (judges_of ready.setup) run.closed ≡ reaches.rs
  records = sym (ap (λ (i : Input). records_of i (judges_of ready.setup) run.closed) walked_is) ∙ by_tables.records_are

  -- there are as many monitors as tallies
  pub counted_alike : length run.watched.reached.monitors.items ≡ length run.watched.found.tallies
  counted_alike = reaches.have_reached.many ∙ sym (reaches.is_found.tallies.many ∙ length-map ready.bindings.monitors.items (reported ready.bindings.containers))

  -- the bindings with the tables of its setup are those of the input
  pub bound_again : (bound : Bound) → bound.bindings ≡ ready.bindings → bound.tables.items ≡ run.setup.tables → bound_value bound ≡ input.bound
  bound_again bound bindings tables = λ j. record {
    containers = ap (λ (b : Bindings). b.containers) bindings j;
    monitors = ap (λ (b : Bindings). b.monitors.items) bindings j;
    rules = ap (λ (b : Bindings). b.rules.items) bindings j;
    items = ap (λ (b : Bindings). b.items.items) bindings j;
    tables = (tables ∙ ap (λ (s : Setup). s.tables) reaches.setup_is) j;
  }

  -- what was watched is kept of it
  pub kept : (trace : List ℕ) (watch : TraceWatch) → IsWatch ready.bindings (lines_of trace) watch → IsKeptOf ready.bindings judged trace watch run.watched.found run.watched.reached run.watched.records
  kept trace watch watches = record {
    monitors = record {
      monitors = refl;
      found = subst (λ (rs : List Record). IsFound (reported_of ready.bindings) ready.tasks rs run.watched.found) (sym records) reaches.is_found;
      reached = subst (λ (s : Setup). HaveReached ready.bindings s (judges_of ready.setup) run.closed run.watched.reached) is.setup reaches.have_reached;
    };
    containers = refl;
    rules = refl;
    watch = watches;
    records = reaches.records_many ∙ ap (λ (rs : List Record). length rs) (sym records);
  }

  -- what is told of it is what it has watched
  pub covers : (command : CoverageCommandValue) (texts : RunTexts) (told : Told) (text : List ℕ) (status : ℕ) → texts.input ≡ input → IsToldOf command (record { bindings = texts.bindings; trace = texts.trace; input = input }) judged told
      → text ≡ coverage_text command.edges told → status ≡ coverage_status command.edges told → IsCoverage command texts run.closed text status
  covers command texts told text status same is_told text_is status_is = subst (λ (i : InputValue). IsCoverage command (record { bindings = texts.bindings; trace = texts.trace; input = i }) run.closed text status) (sym same) (record {
    judges = judges_of ready.setup;
    are_judges = reaches.judges specs is.mean;
    history = history;
    no_stop = free;
    only = same_history;
    told = told;
    is_told = is_told;
    text_is = text_is;
    status_is = status_is;
  })
