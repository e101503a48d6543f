-- What is recorded has the journal of a legal history of the whole input.
use Rattle.std.proofs.Common.{◌≡◌, ℕ, ◌<◌, ◌^◌, ◌%◌, ◌==◌, Bool, true, false, List, [], length, refl, sym, ap, ◌∙◌, subst, arith}
use Rattle.std.specs.Prelude.{All, AllPairs, Any}
use Rattle.std.specs.List.{AllZip, list_any}
use Rattle.std.proofs.Math.Nat.{div-eq_of_lt}
use Rattle.std.proofs.lemmas.List.Elements.{All-weaker}
use Rattle.std.proofs.lemmas.List.Folds.{list_any-from_Any}
use Rattle.rv_model.specs.declared.entry.Entry.{Entry}
use Rattle.rv_model.specs.declared.hit.Hit.{Hit}
use Rattle.rv_model.specs.declared.work.Delivery.{Delivery}
use Rattle.rv_model.specs.Histories.{Input, input_with, IsLegal}
use Rattle.rv_model.specs.Numbers.{has_bit, number_of}
use Rattle.rv_model.specs.Scripts.{is_end}
use Rattle.rv_model.specs.Setups.{Setup}
use Rattle.rv_model.specs.Works.{Work}
use Rattle.rv_model.proofs.NumberLemmas.{number_of-lt}
use Rattle.rv_core.specs.Setup.{judges_of}
use Rattle.rv_bind.specs.declared.bindings.Monitor.{Monitor}
use Rattle.rv_bind.specs.Values.{OnValue}
use Rattle.rv_control.specs.Opening.{enables, opening_switches}
use Rattle.rv_feed.specs.Lane.{works_of}
use Rattle.rv_route.specs.Fitting.{IsDeliveryOf, FromRules}
use Rattle.rv_journal.specs.EntryTexts.{journal_of, IsEntry}
use Rattle.rv_journal.specs.Running.{FitsCountedWork, IsLegalBy}
use Rattle.rv_journal.specs.Enabled.{IsEnabledWork}
use Rattle.rv_journal.specs.Whole.{IsWholeRun}
use Rattle.rv_journal.proofs.EnabledFitLemmas.{shown-ascends, shown-of-each}
use Rattle.rv_laws.specs.Exits.{exit_of}
use Rattle.rv_laws.specs.Enabled.{IsEnabledOf}
use Rattle.rv_laws.specs.Verdicts.{IsSteady}
use Rattle.rv_laws.proofs.ExitLemmas.{status_is_seen}
use Rattle.rv_laws.proofs.EnabledLemmas.{shown_is_enough}
use Rattle.rv_tool.specs.declared.input.Prepared.{Prepared}
use Rattle.rv_tool.specs.Inputs.{run_of}
use Rattle.rv_tool.specs.Journals.{ends_instances, IsJournalReport}
use Rattle.rv_tool.specs.inner.Journals.{IsRecordable}
use Rattle.rv_tool.specs.inner.Prepared.{prepared_value}
use Rattle.rv_tool.proofs.FitLemmas.{IsOpened, HaveNoEnds, works-fit}
use Rattle.rv_tool.proofs.CountsFitLemmas.{all-calm}
use Rattle.rv_tool.proofs.VerdictLemmas.{calm}

-- no switch of those that a run opens with is past the two that react and monitor
low_switches : (monitors : List Monitor) → opening_switches monitors < 2 ^ 34
low_switches monitors = let low : number_of (enables monitors) 32 < 2 ^ 32 = number_of-lt (enables monitors) 32 in omega arith

-- so nothing is halted
not_halted : (monitors : List Monitor) → has_bit (opening_switches monitors) 34 ≡ false
not_halted monitors = ap (λ d. d % 2 == 1) (div-eq_of_lt (low_switches monitors))

-- where no rule ends an instance, no delivery of a rule does
no-end : (rules : List OnValue) (d : Delivery) → list_any ends_instances rules ≡ false → Any (IsDeliveryOf d) rules → is_end d.hit.mode ≡ false
no-end rules d none (place, rule, below, there, is) = go (ends_instances rule) refl
  where
    go : (b : Bool) → ends_instances rule ≡ b → is_end d.hit.mode ≡ false
    go false e = ap (λ (h : Hit). is_end h.mode) is.1 ∙ e
    go true e = absurd (let n : true ≡ false = sym (list_any-from_Any ends_instances rules (place, rule, below, there, e)) ∙ none in cc)

-- so no delivery of the works does
no-ends : (rules : List OnValue) (works : List Work) → list_any ends_instances rules ≡ false → FromRules rules works → HaveNoEnds works
no-ends rules works none from =
    All-weaker (λ (w : Work). All (λ d. Any (IsDeliveryOf d) rules) w.deliveries) (λ (w : Work). All (λ d. is_end d.hit.mode ≡ false) w.deliveries)
    (λ w. All-weaker (λ (d : Delivery). Any (IsDeliveryOf d) rules) (λ d. is_end d.hit.mode ≡ false) (λ d. no-end rules d none) w.deliveries) works from

module _ (ready : Prepared) (is : IsRecordable ready) (shown : List Work) (are : AllZip (IsEnabledWork ready.setup.switches) (works_of ready.lanes.items) shown) where
  -- the setup is the one that the monitors open with
  opened_so : IsOpened ready.bindings.monitors.items (length ready.tasks) ready.setup
  opened_so = record { shape = ap (λ (s : Setup). s.shape) is.ready.setup; tables = is.ready.tables; starts = ap (λ (s : Setup). s.starts) is.ready.setup }

  -- what is shown can be recorded
  pub shown_fits : All (FitsCountedWork ready.setup) shown
  shown_fits =
      works-fit ready.bindings.monitors.items (length ready.tasks) ready.setup opened_so is.narrow (works_of ready.lanes.items) shown is.ready.routed
      (no-ends ready.bindings.rules.items (works_of ready.lanes.items) is.no_ends is.ready.rules) are

  -- what is shown ascends by CPU
  pub shown_ascends : AllPairs (λ (v w : Work). v.cpu < w.cpu) shown
  shown_ascends = shown-ascends ready.setup.switches (works_of ready.lanes.items) shown is.ready.routed.cpus are

  -- the run does not begin halted
  pub runs_on : has_bit ready.setup.switches 34 ≡ false
  runs_on = ap (λ (s : Setup). has_bit s.switches 34) is.ready.setup ∙ not_halted ready.bindings.monitors.items

  -- nothing changes beside the CPUs, and no reactor is panic
  steady : IsSteady (run_of (prepared_value ready))
  steady = record { no_changes = is.unchanged; no_panics = calm ready.bindings.monitors.items (all-calm ready.bindings.monitors.items ready.setup.tables is.narrow) }

  -- the input of what is shown is the run's with these works
  input_is : input_with ready.setup (run_of (prepared_value ready)).specs (λ _. false) shown [] ≡ record (run_of (prepared_value ready)) { works = shown }
  input_is = λ j. record { setup = is.ready.setup j; specs = (run_of (prepared_value ready)).specs; panics = λ m. (sym (steady.no_panics m)) j; works = shown; changes = (sym is.unchanged) j }

  -- a history of what is shown is one of the run
  whole_legal : (h : List Entry) → IsLegal (input_with ready.setup (run_of (prepared_value ready)).specs (λ _. false) shown []) (judges_of ready.setup) h → IsLegal (run_of (prepared_value ready)) (judges_of ready.setup) h
  whole_legal h legal =
      let low = low_switches ready.bindings.monitors.items in
      shown_is_enough (run_of (prepared_value ready)) (judges_of ready.setup) shown h steady (omega arith)
      (subst (λ (look : ℕ). AllZip (IsEnabledOf look) (works_of ready.lanes.items) shown) (ap (λ (s : Setup). s.switches) is.ready.setup) (shown-of-each ready.setup.switches (works_of ready.lanes.items) shown are))
      (subst (λ (x : Input). IsLegal x (judges_of ready.setup) h) input_is legal)

  -- the text and the status of what was recorded are those of a legal history of the run
  pub recorded_report : (h entries : List Entry) (text : List ℕ) (status : ℕ) → IsWholeRun ready.setup shown h → IsLegalBy ready.setup (run_of (prepared_value ready)).specs shown h → h ≡ entries → All IsEntry entries
      → text ≡ journal_of entries → (IsWholeRun ready.setup shown entries → status ≡ exit_of ready.setup (judges_of ready.setup) entries) → IsJournalReport (prepared_value ready) h text status
  recorded_report h entries text status whole by same fit text_is exits =
      let legal = whole_legal h by.legal in
      record {
        judges = judges_of ready.setup;
        are_judges = by.are_judges;
        history = legal;
        entries = subst (All IsEntry) (sym same) fit;
        text_is = text_is ∙ ap journal_of (sym same);
        status_is =
            exits (subst (IsWholeRun ready.setup shown) same whole) ∙ ap (exit_of ready.setup (judges_of ready.setup)) (sym same)
            ∙ ap (λ (s : Setup). exit_of s (judges_of ready.setup) h) is.ready.setup ∙ sym (status_is_seen (run_of (prepared_value ready)) (judges_of ready.setup) h legal);
      }
