-- One more monitor.
use Rattle.std.proofs.Common.{◌≡◌, ℕ, ◌<◌, List, ◌++◌, take, length, get_or, arith, sym, ap, ◌∙◌, append_assoc, subst}
use Rattle.std.proofs.lemmas.List.{length-map, get_or-map}
use Rattle.rv_model.specs.Reports.{Reported, instances_in, summaries_text}
use Rattle.rv_bind.specs.declared.bindings.Monitor.{Monitor}
use Rattle.rv_report.specs.declared.tally.Tally.{Tally}
use Rattle.rv_report.specs.Reported.{reported, reported_of}
use Rattle.rv_report.specs.Tallies.{IsTally}
use Rattle.rv_report.specs.declared.summary.Summary.{Summary}
use Rattle.rv_report.specs.inner.Tallies.{count_line}
use Rattle.rv_report.proofs.SummaryLemmas.{summaries-more}
use Rattle.rv_report.proofs.TallyLemmas.{line-is}
use Rattle.rv_report.proofs.summary.summaries.Goals as goal

pub loop-place-preserved : goal.loop-place-preserved
loop-place-preserved c = λ tasks rs are.
    let b = c.args.bindings.now in
    let all : List Reported = reported_of b in
    let place : ℕ = c.loop-place.place in
    let monitor : Monitor = c.index-monitor.result.now in
    let tally : Tally = c.index-tallies-place.result in
    let m : Reported = reported b.containers monitor in
    let items : List Monitor = b.monitors.items in
    let many = length-map items (reported b.containers) in
    let inside : place < length items = let x = c.loop-place-test.true in let y = c.requires in omega arith in
    let below : place < length all = omega arith in
    let is : get_or all place m ≡ m = get_or-map (reported b.containers) items place monitor m inside ∙ ap (reported b.containers) (sym c.index-monitor.ensures) in
    let each : IsTally place (instances_in tasks (get_or all place m).scope) rs (get_or c.args.tallies.now place tally) = are.each place m tally below in
    let mine : IsTally place (instances_in tasks m.scope) rs tally = subst (λ (x : Reported). IsTally place (instances_in tasks x.scope) rs tally) is
    (subst (IsTally place (instances_in tasks (get_or all place m).scope) rs) (sym c.index-tallies-place.is) each) in
    let before : List ℕ = summaries_text tasks rs 0 (take place all) in
    let numbers : Summary = c.summary.result in
    let line : List ℕ = count_line m.display_name numbers in
    c.in_ok-count_line.ensures ∙ ap (λ (z : List ℕ). z ++ line) (c.loop-place.invariant tasks rs are)
    ∙ append_assoc c.args.out.now before line
    ∙ ap (λ (z : List ℕ). c.args.out.now ++ z) (ap (λ (z : List ℕ). before ++ z) (line-is tasks rs place m numbers (c.summary.ensures tasks rs place m mine)) ∙ sym (summaries-more tasks rs all place m below is))
