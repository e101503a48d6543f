use Rattle.std.proofs.Common.{◌≡◌, List, map, sym, ap, ◌∙◌, subst}
use Rattle.std.specs.Prelude.{option_map, sum}
use Rattle.std.specs.List.{AllZip}
use Rattle.rv_text.specs.TextLines.{lines_of}
use Rattle.rv_bind.specs.RuleValues.{OnValue}
use Rattle.rv_facts.specs.declared.counts.Counts.{Counts}
use Rattle.rv_matches.specs.RuleLines.{IsRuleLine, rule_counts}
use Rattle.rv_matches.specs.TraceFacts.{EventFactsValue, counted_names}
use Rattle.rv_matches.specs.declared.rule_lines.RuleLine.{RuleLine}
use Rattle.rv_report.specs.Halts.{halt_of}
use Rattle.rv_report.specs.Reported.{reported_of}
use Rattle.rv_counts.specs.Counts.{fired_if, halt_told, run_records}
use Rattle.rv_counts.specs.RuleTold.{TellsRules}
use Rattle.rv_counts.specs.Watching.{events_in}
use Rattle.rv_counts.proofs.RunLemmas.{run-told}
use Rattle.rv_counts.proofs.counting.counts_of.Goals as goal
use Rattle.rv_counts.proofs.counting.counts_of.Goals.{in-Some, in-None}

pub returns : goal.returns
returns c = λ run trace kept.
    let b = c.args.bindings.now in
    let watched = c.args.watched in
    let events = events_in (lines_of trace) in
    let Kept : List OnValue → List RuleLine → Type 0 = λ rs ls. AllZip (λ (rule : OnValue) (line : RuleLine). IsRuleLine (rule_counts events rule) line) rs ls in
    let each : Kept c.as_slice.result.now c.rules.result.now =
    subst (λ (rs : List OnValue). Kept rs c.rules.result.now) (sym c.as_slice.ensures.value) (subst (Kept b.rules.items) (sym c.rules.ensures) kept.watch.rules.each) in
    let names : c.names.result.now ≡ counted_names events = c.names.ensures ∙ ap (λ (e : EventFactsValue). e.names) kept.watch.events in
    let told : TellsRules events b.rules.items c.in_ok-rules.rules.items = subst (λ (rs : List OnValue). TellsRules events rs c.in_ok-rules.rules.items) c.as_slice.ensures.value (c.in_ok-rules.ensures events names each) in
    let told_slices : TellsRules events c.as_slice-3.result.now c.as_slice-4.result.now =
    subst (λ (rs : List OnValue). TellsRules events rs c.as_slice-4.result.now) (sym c.as_slice-3.ensures.value) (subst (TellsRules events b.rules.items) (sym c.as_slice-4.ensures.value) told) in
    let same : sum (map (fired_if c.as_slice-2.result.now events) c.as_slice-3.result.now) ≡ sum (map (fired_if b.monitors.items events) b.rules.items) = λ i. sum (map (fired_if (c.as_slice-2.ensures.value i) events) (c.as_slice-3.ensures.value i)) in
    let halted : c.halt.result ≡ halt_of (reported_of b) (run_records run) = c.halt.ensures run.tasks (run_records run) kept.monitors.found in
    let halt_is : c.match-halt.halt ≡ option_map halt_told c.halt.result = elim c.match-halt.branch [ in-Some w ↦ w.halt-is ∙ ap (option_map halt_told) (sym w.in-Some.is) | in-None w ↦ w.halt-is ∙ ap (option_map halt_told) (sym w.in-None.is) ] in
    let counts : Counts = record { monitors = c.in_ok-monitors_counts.field-0; rules = c.in_ok-rules.rules; trace = c.in_ok-trace_counts.field-0; halt = c.match-halt.halt; undelivered = c.saturating_sub.result } in
    run-told b run trace c.args.watch.now watched.found watched.reached watched.records c.in_ok-fired.fired counts kept
    (c.in_ok-monitors_counts.ensures b run kept.monitors) told (c.in_ok-trace_counts.ensures b (lines_of trace) kept.watch) (halt_is ∙ ap (option_map halt_told) halted)
    (c.in_ok-fired.ensures events told_slices ∙ same) c.saturating_sub.ensures
