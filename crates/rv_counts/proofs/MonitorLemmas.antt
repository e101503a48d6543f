-- What was counted of a monitor is told by its definitions over the one history.
use Rattle.std.proofs.Common.{◌≡◌, ℕ, ◌<◌, List, ◌∷◌, length, get_or, drop, sym, ◌∙◌, subst, arith}
use Rattle.std.proofs.Math.ListN.{get_or-map}
use Rattle.rv_model.specs.Reports.{Reported}
use Rattle.rv_model.specs.declared.record.Record.{Record}
use Rattle.rv_model.specs.declared.record.Task.{Task}
use Rattle.rv_bind.specs.declared.bindings.Bindings.{Bindings}
use Rattle.rv_bind.specs.declared.bindings.Monitor.{Monitor}
use Rattle.rv_facts.specs.declared.counts.MonitorCounts.{MonitorCounts}
use Rattle.rv_reach.specs.Reaching.{HasReached}
use Rattle.rv_reach.specs.declared.monitor.MonitorReach.{MonitorReach}
use Rattle.rv_reach.specs.declared.reached.Reached.{Reached}
use Rattle.rv_report.specs.Reported.{reported, reported_of}
use Rattle.rv_report.specs.Summary.{IsSummary}
use Rattle.rv_report.specs.Tallies.{FoundValue, IsFound}
use Rattle.rv_report.specs.declared.summary.Summary.{Summary}
use Rattle.rv_counts.specs.Counts.{JudgedRun, TellsMonitor, run_records, setup_in}
use Rattle.rv_counts.specs.KeptRun.{AreOfRun}
use Rattle.rv_counts.specs.inner.Counting.{CountsMonitor}
use Rattle.rv_counts.proofs.ListLemmas.{left-inside, left-item}

-- ---- one monitor

-- what the report counts of it, and what its deliveries have reached
monitor-told : (run : JudgedRun) (place : ℕ) (containers : List (List ℕ)) (m : Monitor) (summary : Summary) (reach : MonitorReach) (c : MonitorCounts) → IsSummary run.tasks (run_records run) place (reported containers m) summary
    → HasReached (setup_in run) run.judges run.history place m.spec reach → CountsMonitor summary reach c → TellsMonitor run place m c
monitor-told run place containers m summary reach c counted reached is =
    let rows : c.rows.items ≡ reach.rows.items = λ i. (is.rows i).items in
    let edges : c.edges.items ≡ reach.edges.items = λ i. (is.edges i).items in
    let atoms : c.atoms.items ≡ reach.atoms.items = λ i. (is.atoms i).items in
    record {
      instances = is.instances ∙ counted.instances;
      deliveries = is.deliveries ∙ counted.deliveries;
      failures = is.failures ∙ counted.failures;
      stopped = is.stopped ∙ counted.stopped;
      instances_started = is.instances_started ∙ reached.instances_started;
      instances_failed = is.instances_failed ∙ reached.instances_failed;
      instances_running = is.instances_running ∙ reached.instances_running;
      passed = is.passed ∙ reached.passed;
      started = is.started ∙ reached.started;
      kept = is.kept ∙ reached.kept;
      failed = is.failed ∙ reached.failed;
      ended = is.ended ∙ reached.ended;
      rows = rows ∙ reached.rows;
      edges = edges ∙ reached.edges;
      letters = is.letters ∙ reached.letters;
      atoms = atoms ∙ reached.atoms;
    }

-- ---- the next of all

-- what is found of the monitor at a place
abbrev pub IsSummaryAt : FoundValue → ℕ → Summary → Type 0
IsSummaryAt found place summary = (monitors : List Reported) (tasks : List Task) (rs : List Record) (m : Reported) → IsFound monitors tasks rs found → IsSummary tasks rs place (get_or monitors place m) summary

-- the monitor at the place of the next that is left
pub next-told : (bindings : Bindings) (run : JudgedRun) (found : FoundValue) (reached : Reached) (place : ℕ) (reach : MonitorReach) (rest : List MonitorReach) (summary : Summary) (c : MonitorCounts) → AreOfRun bindings run found reached
    → drop place reached.monitors.items ≡ reach ∷ rest → IsSummaryAt found place summary → CountsMonitor summary reach c → (m : Monitor) → TellsMonitor run place (get_or run.bound.monitors place m) c
next-told bindings run found reached place reach rest summary c of left summary_is is m =
    let all : List Monitor = bindings.monitors.items in
    let inside : place < length all = let x = left-inside reached.monitors.items place reach rest left in let y = of.reached.many in omega arith in
    let counted : IsSummary run.tasks (run_records run) place (reported bindings.containers (get_or all place m)) summary =
    subst (λ (r : Reported). IsSummary run.tasks (run_records run) place r summary) (get_or-map (reported bindings.containers) all place m) (summary_is (reported_of bindings) run.tasks (run_records run) (reported bindings.containers m) of.found) in
    let has : HasReached (setup_in run) run.judges run.history place (get_or all place m).spec reach =
    subst (HasReached (setup_in run) run.judges run.history place (get_or all place m).spec) (left-item reached.monitors.items place reach reach rest left) (of.reached.each place m reach inside) in
    subst (λ (ms : List Monitor). TellsMonitor run place (get_or ms place m) c) (sym of.monitors) (monitor-told run place bindings.containers (get_or all place m) summary reach c counted has is)
