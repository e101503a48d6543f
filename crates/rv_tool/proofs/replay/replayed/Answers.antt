use Rattle.std.proofs.Common.{[], refl, ap, ◌∙◌}
use Rattle.rv_model.specs.Histories.{IsOneHistory}
use Rattle.rv_model.specs.Reports.{report_text}
use Rattle.rv_report.specs.Reported.{reported_of}
use Rattle.rv_route.specs.Listing.{works_listed}
use Rattle.rv_tool.specs.Listed.{listed_value}
use Rattle.rv_tool.proofs.ReportedLemmas.{reported_is}
use Rattle.rv_tool.proofs.replay.replayed.Goals as goal

pub report_found-requires : goal.report_found-requires
report_found-requires c = (c.in_ok-closed.ensures.rs, c.in_ok-closed.ensures.is_found)

pub returns : goal.returns
returns c =
    let ready = c.args.ready in
    let is = c.requires in
    let ran = c.in_ok-closed.ensures in
    let told = c.in_ok-text.ensures in
    reported_is IsOneHistory (listed_value ready) ready.setup c.as_slice.result.now (works_listed ready.list) [] is.setup (c.as_slice.ensures.value ∙ is.reactors) refl refl
    ran.rs c.in_ok-closed.field-0.closed c.in_ok-text.field-0.text.items c.in_ok-text.field-0.status (ran.is_run _ is.mean)
    (told.text ran.rs ran.is_found ∙ ap (report_text (reported_of ready.bindings) ready.tasks) ran.ascend) (told.status ran.rs ran.is_found).value
