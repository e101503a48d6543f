-- The reactions that are printed are all reactions.
use Rattle.std.proofs.Common.{◌≡◌, ℕ, List, ◌++◌, ◌≤◌, length, arith, sym, ap, ◌∙◌, subst}
use Rattle.std.specs.Prelude.{flat_map, slice_get}
use Rattle.std.proofs.lemmas.List.{length-map, take_all}
use Rattle.rv_model.specs.declared.record.Record.{Record}
use Rattle.rv_model.specs.Reports.{Reported, record_text, summaries_text}
use Rattle.rv_report.specs.Reported.{reported, reported_of}
use Rattle.rv_report.specs.Tallies.{AreTallies, FoundValue}
use Rattle.rv_report.proofs.ExitLemmas.{status-is}
use Rattle.rv_report.proofs.PrintedLemmas.{printed-text}
use Rattle.rv_report.proofs.lines.report_found.Goals as goal

pub summaries-requires : goal.summaries-requires
summaries-requires c =
    let b = c.args.bindings.now in
    ap length (c.as_slice.ensures.value ∙ ap (λ (f : FoundValue). f.tallies) c.found.view_is) ∙ c.requires.1.tallies.many ∙ length-map b.monitors.items (reported b.containers)

pub returns-clause-text : goal.returns-clause-text
returns-clause-text c = λ rs is.
    let all : List Reported = reported_of c.args.bindings.now in
    let tasks = c.args.tasks.now in
    let text : Record → List ℕ = λ r. record_text (slice_get all r.monitor) tasks r in
    let printed : List Record = c.found.inside.printed.items in
    let all_printed : length printed ≤ c.loop-record.record-index = let a = c.loop-record-test.false in let b = c.deref-record-items.ensures.len in omega arith in
    let reactions : c.loop-record.out ≡ flat_map text rs =
    c.loop-record.invariant ∙ ap (flat_map text) (take_all c.loop-record.record-index printed all_printed ∙ ap (λ (f : FoundValue). f.printed) c.found.view_is ∙ is.printed) ∙ printed-text all tasks rs in
    c.into_bytes.ensures ∙ c.in_ok-summaries.ensures tasks rs (subst (AreTallies all tasks rs) (sym (c.as_slice.ensures.value ∙ ap (λ (f : FoundValue). f.tallies) c.found.view_is)) is.tallies) ∙ ap (λ (z : List ℕ). z ++ summaries_text tasks rs 0 all) reactions

pub returns-clause-status : goal.returns-clause-status
returns-clause-status c = λ rs is. status-is rs c.found.inside.status (ap (λ (f : FoundValue). f.status) c.found.view_is ∙ is.status)
