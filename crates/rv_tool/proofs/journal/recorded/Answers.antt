use Rattle.std.proofs.Common.{ℕ, List, sym, ap, ◌∙◌, subst}
use Rattle.std.specs.List.{AllZip}
use Rattle.rv_model.specs.Works.{Work}
use Rattle.rv_core.specs.Setup.{judges_of}
use Rattle.rv_journal.specs.EntryTexts.{journal_of}
use Rattle.rv_journal.specs.Enabled.{IsEnabledWork}
use Rattle.rv_journal.specs.Whole.{IsWholeRun}
use Rattle.rv_laws.specs.Exits.{exit_of}
use Rattle.rv_tool.specs.Inputs.{run_of}
use Rattle.rv_tool.specs.inner.Prepared.{prepared_value}
use Rattle.rv_tool.proofs.RecordingLemmas.{shown_fits, shown_ascends, runs_on, recorded_report}
use Rattle.rv_tool.proofs.journal.recorded.Goals as goal

pub record_run-requires : goal.record_run-requires
record_run-requires g c =
    let ready = c.args.ready in
    let shown = c.in_ok-shown.shown.items in
    let are = subst (λ (z : ℕ × List Work). AllZip (IsEnabledWork z.0) z.1 shown) (λ i. ((c.setup.view_is i).switches, c.in_ok-works.ensures i)) c.in_ok-shown.ensures in
    (c.type_bounds.send-G, (c.type_bounds.sync-R, (c.in_ok-widths.ensures, (shown_fits ready c.requires shown are, (shown_ascends ready c.requires shown are, runs_on ready c.requires shown are)))))

pub returns : goal.returns
returns g c =
    let ready = c.args.ready in
    let shown = c.in_ok-shown.shown.items in
    let recorded = c.in_ok-recorded.recorded in
    let ran = c.in_ok-recorded.ensures in
    let are = subst (λ (z : ℕ × List Work). AllZip (IsEnabledWork z.0) z.1 shown) (λ i. ((c.setup.view_is i).switches, c.in_ok-works.ensures i)) c.in_ok-shown.ensures in
    let fit = shown_fits ready c.requires shown are in
    recorded_report ready c.requires shown are recorded.closed recorded.entries.items c.in_ok-text.text.items c.exit_status-status.result
    (record { is_setup = c.assert_invariant.ensures; fit = fit; legal = ran.legal }) (ran.specs (run_of (prepared_value ready)).specs c.requires.ready.mean) ran.closed ran.entries
    (c.in_ok-text.ensures ∙ ap journal_of c.as_slice-2.ensures.value)
    (λ whole. c.exit_status-status.ensures ready.setup shown (subst (IsWholeRun ready.setup shown) (sym c.as_slice-3.ensures.value) whole) ∙ ap (exit_of ready.setup (judges_of ready.setup)) c.as_slice-3.ensures.value)
