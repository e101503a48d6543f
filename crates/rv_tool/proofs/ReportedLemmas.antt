-- The history of a run that is ready is one of its input, and the report is its records'.
use Rattle.std.proofs.Common.{◌≡◌, ℕ, List, map, length, sym, ap, ◌∙◌, subst}
use Rattle.rv_model.specs.declared.entry.Entry.{Entry}
use Rattle.rv_model.specs.declared.formula.Spec.{Spec}
use Rattle.rv_model.specs.declared.reactor.Reactor.{Reactor}
use Rattle.rv_model.specs.declared.record.Record.{Record}
use Rattle.rv_model.specs.declared.work.Change.{Change}
use Rattle.rv_model.specs.Histories.{Input, input_with}
use Rattle.rv_model.specs.Records.{sort_records, status_of}
use Rattle.rv_model.specs.Reports.{report_text}
use Rattle.rv_model.specs.Setups.{Setup}
use Rattle.rv_model.specs.Works.{Work}
use Rattle.rv_feed.specs.Lane.{panics_of}
use Rattle.rv_feed.specs.Runs.{IsRunOf}
use Rattle.rv_report.specs.Reported.{reported}
use Rattle.rv_bind.specs.declared.bindings.Monitor.{Monitor}
use Rattle.rv_tool.specs.Inputs.{InputValue, setup_of, run_of}
use Rattle.rv_tool.specs.Headline.{Histories, IsReported}

module _ (Is : Histories) (i : InputValue) (setup : Setup) (reactors : List Reactor) (works : List Work) (changes : List Change) (setup_is : setup ≡ setup_of i.bound (length i.routed.tasks))
    (reactors_are : reactors ≡ map (λ (m : Monitor). m.reactor) i.bound.monitors) (works_are : works ≡ i.routed.works) (changes_are : changes ≡ i.changes) where
  -- the specifications of the monitors
  abbrev pub specs : List Spec
  specs = map (λ (m : Monitor). m.spec) i.bound.monitors

  -- what is run is the run of the input
  pub input_is : input_with setup specs (panics_of reactors) works changes ≡ run_of i
  input_is = λ j. record { setup = setup_is j; specs = specs; panics = panics_of (reactors_are j); works = works_are j; changes = changes_are j }

  -- a run of the works beside the changes
  pub reported_is : (rs : List Record) (h : List Entry) (text : List ℕ) (status : ℕ) → IsRunOf Is (input_with setup specs (panics_of reactors) works changes) rs h
      → text ≡ report_text (map (reported i.bound.containers) i.bound.monitors) i.routed.tasks (sort_records rs) → status ≡ status_of rs → IsReported Is i h text status
  reported_is rs h text status run text_is status_is =
      let o : IsRunOf Is (run_of i) rs h = subst (λ (x : Input). IsRunOf Is x rs h) input_is run in
      record {
        judges = o.judges;
        are_judges = o.are_judges;
        history = o.history;
        text_is = text_is ∙ ap (report_text (map (reported i.bound.containers) i.bound.monitors) i.routed.tasks) (sym o.records_are);
        status_is = status_is ∙ sym o.status_is;
      }
