-- What a run has kept is told by its definitions.
use Rattle.std.proofs.Common.{◌≡◌, ℕ, ◌-◌, List, map, sym, ap, ◌∙◌, subst}
use Rattle.std.specs.Prelude.{option_map, sum}
use Rattle.rv_text.specs.TextLines.{LineText, lines_of}
use Rattle.rv_bind.specs.RuleValues.{OnValue}
use Rattle.rv_bind.specs.declared.bindings.Bindings.{Bindings}
use Rattle.rv_facts.specs.declared.counts.Counts.{Counts}
use Rattle.rv_facts.specs.declared.counts.TraceCounts.{TraceCounts}
use Rattle.rv_matches.specs.LineEvents.{LineEvent}
use Rattle.rv_matches.specs.TextFacts.{TextFactsValue}
use Rattle.rv_matches.specs.TraceFacts.{EventFactsValue}
use Rattle.rv_reach.specs.declared.reached.Reached.{Reached}
use Rattle.rv_report.specs.Halts.{halt_of}
use Rattle.rv_report.specs.Reported.{reported, reported_of}
use Rattle.rv_report.specs.Tallies.{FoundValue}
use Rattle.rv_counts.specs.Counts.{JudgedRun, TellsMonitors, TellsRun, fired_if, halt_told, run_records, undelivered}
use Rattle.rv_counts.specs.KeptRun.{IsKeptOf}
use Rattle.rv_counts.specs.RuleTold.{TellsRules, counted_told}
use Rattle.rv_counts.specs.TraceTold.{TellsTrace, entries_told, late_told, returns_told}
use Rattle.rv_counts.specs.Watching.{IsWatch, events_in}
use Rattle.rv_counts.specs.declared.watch.TraceWatch.{TraceWatch}

-- what is kept of lines is told of them
pub trace-told : (bindings : Bindings) (lines : List LineText) (w : TraceWatch) (c : TraceCounts) → c.lines ≡ w.text.lines → c.events ≡ w.events.events → c.named ≡ w.rules.named → c.fired ≡ w.rules.fired
    → map counted_told c.names.items ≡ w.events.names.words → c.overwritten ≡ option_map entries_told w.text.overwritten → c.returns ≡ returns_told w.text.returns → c.late ≡ late_told w.events.late
    → IsWatch bindings lines w → TellsTrace bindings.rules.items lines c
trace-told bindings lines w c many events named fired names overwritten returns late is = record {
  lines = many ∙ ap (λ (t : TextFactsValue). t.lines) is.text;
  events = events ∙ ap (λ (e : EventFactsValue). e.events) is.events;
  named = named ∙ is.rules.named;
  fired = fired ∙ is.rules.fired;
  names = names ∙ ap (λ (e : EventFactsValue). e.names.words) is.events;
  overwritten = overwritten ∙ ap (λ (t : TextFactsValue). option_map entries_told t.overwritten) is.text;
  returns = returns ∙ ap (λ (t : TextFactsValue). returns_told t.returns) is.text;
  late = late ∙ ap (λ (e : EventFactsValue). late_told e.late) is.events;
}

-- all that is told of a run
pub run-told : (bindings : Bindings) (run : JudgedRun) (trace : List ℕ) (w : TraceWatch) (found : FoundValue) (reached : Reached) (records fired : ℕ) (c : Counts) → IsKeptOf bindings run trace w found reached records → TellsMonitors run c.monitors.items
    → TellsRules (events_in (lines_of trace)) bindings.rules.items c.rules.items → TellsTrace bindings.rules.items (lines_of trace) c.trace → c.halt ≡ option_map halt_told (halt_of (reported_of bindings) (run_records run))
    → fired ≡ sum (map (fired_if bindings.monitors.items (events_in (lines_of trace))) bindings.rules.items) → c.undelivered ≡ fired - records → TellsRun run trace c
run-told bindings run trace w found reached records fired c kept monitors rules of_trace halt fired_is undelivered_is =
    let events : List LineEvent = events_in (lines_of trace) in
    let halted : option_map halt_told (halt_of (reported_of bindings) (run_records run)) ≡ option_map halt_told (halt_of (map (reported run.bound.containers) run.bound.monitors) (run_records run)) =
    λ i. option_map halt_told (halt_of (map (reported (sym kept.containers i)) (sym kept.monitors.monitors i)) (run_records run)) in
    let left : fired - records ≡ undelivered run events =
    λ i. (fired_is ∙ (λ j. sum (map (fired_if (sym kept.monitors.monitors j) events) (sym kept.rules j)))) i - kept.records i in
    record {
      monitors = monitors;
      rules = subst (λ (rs : List OnValue). TellsRules events rs c.rules.items) (sym kept.rules) rules;
      of_trace = subst (λ (rs : List OnValue). TellsTrace rs (lines_of trace) c.trace) (sym kept.rules) of_trace;
      halt = halt ∙ halted;
      undelivered = undelivered_is ∙ left;
    }
