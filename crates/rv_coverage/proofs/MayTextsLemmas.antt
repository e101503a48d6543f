-- What was read of the two files may come of some texts.
use Rattle.std.proofs.Common.{◌≡◌, ℕ, List, [], refl, sym, ap, ◌∙◌}
use Rattle.std.specs.Prelude.{Option, Some}
use Rattle.rv_io.specs.Files.{Files}
use Rattle.rv_bind.specs.declared.bindings.Bound.{Bound}
use Rattle.rv_bind.specs.declared.fault.BindFault.{BindFault}
use Rattle.rv_bind.specs.declared.fault.BindFault.TheVariants as faults
use Rattle.rv_bind.specs.BoundTexts.{BoundTextValue, MayBoundText, bound_text_of}
use Rattle.rv_bind.specs.BoundViews.{bound_value}
use Rattle.rv_bind.specs.Outcomes.{Outcome, accepted, reading, of_name, of_text}
use Rattle.rv_bind.specs.Possible.{MayFault, MayRead}
use Rattle.rv_bind.specs.WellFormed.{IsWellFormed}
use Rattle.rv_bind.proofs.OutcomeLemmas.{of_name-reading}
use Rattle.rv_facts.specs.BindingLines.{AreLinesOf}
use Rattle.rv_facts.specs.declared.lines.BindingLines.{BindingLines}
use Rattle.rv_route.specs.Routing.{RoutedValue}
use Rattle.rv_route.specs.Routed.{list_value}
use Rattle.rv_route.specs.declared.listing.RoutedList.{RoutedList}
use Rattle.rv_stream.specs.Listed.{IsListed}
use Rattle.rv_stream.specs.Observing.{ObservesTrace}
use Rattle.rv_stream.specs.RoutedTraces.{routed_text}
use Rattle.rv_counts.specs.Watching.{IsWatch}
use Rattle.rv_counts.specs.declared.watch.TraceWatch.{TraceWatch}
use Rattle.rv_tool.specs.Possible.{AreWorksOf, Keeping}
use Rattle.rv_tool.proofs.PossibleLemmas.{first_fails, keeping_fails, next_fails}
use Rattle.rv_coverage.specs.Texts.{MayBindText, MayTexts, RunTexts, texts_by}
use Rattle.rv_coverage.specs.inner.Covering.{ReadsTexts}
use Rattle.rv_coverage.proofs.TextsLemmas.{missing_before, refused_before, texts-routed}

-- what a trace may come to under bindings, with its text
abbrev MayTraceText : List ℕ → BoundTextValue → Outcome RunTexts → Type 0
MayTraceText trace read = Keeping (λ texts. AreWorksOf read.bound texts.input.routed) (MayRead trace (texts_by trace read))

module _ (bindings trace : List ℕ) where
  -- the bindings have a fault
  pub texts_unbound : (fault : BindFault) → MayFault fault (MayBoundText bindings) → MayFault fault (MayTexts bindings trace)
  texts_unbound fault may = first_fails (MayBindText bindings) (MayTraceText trace) fault (keeping_fails (λ (read : BoundTextValue). IsWellFormed read.bound) (MayBoundText bindings) fault may)

  module _ (read : BoundTextValue) (may : MayBoundText bindings (accepted read)) (formed : IsWellFormed read.bound) where
    -- a fault of the routing is one of the texts
    trace_fault : (fault : BindFault) → MayFault fault (MayRead trace (routed_text trace read.bound)) → MayFault fault (MayRead trace (texts_by trace read))
    trace_fault faults.Memory some = tt
    trace_fault (faults.Refused file refusal) some = (some.0, sym (refused_before (λ (t : RunTexts). t.input.routed) (of_text trace some.0 (texts_by trace read)) file refusal (texts-routed trace read some.0 ∙ sym some.1)))
    trace_fault (faults.Unread file) some = (some.0, sym (missing_before (λ (t : RunTexts). t.input.routed) (of_text trace some.0 (texts_by trace read)) file (texts-routed trace read some.0 ∙ sym some.1)))

    -- the trace has a fault
    pub texts_unrouted : (fault : BindFault) → MayFault fault (MayRead trace (routed_text trace read.bound)) → MayFault fault (MayTexts bindings trace)
    texts_unrouted fault some =
        next_fails (MayBindText bindings) (MayTraceText trace) read (may, formed) fault
        (keeping_fails (λ (texts : RunTexts). AreWorksOf read.bound texts.input.routed) (MayRead trace (texts_by trace read)) fault (trace_fault fault some))

-- ---- both were read

module _ (told mid : Option Files) (bindings trace text : List ℕ) (bound : Bound) (lines : BindingLines) (routed : RoutedList) (watch : TraceWatch) where
  -- the pair that was read of the bindings
  abbrev pair : BoundTextValue
  pair = record { text = text; bound = bound_value bound }

  -- what was read is that of texts to which the names may come, and come where the store tells its files
  pub texts_read : ((files : Files) → told ≡ Some files → bound_text_of files bindings ≡ accepted pair) → MayBoundText bindings (accepted pair) → IsWellFormed (bound_value bound) → AreLinesOf text lines
      → mid ≡ told → IsListed bound.bindings routed → ObservesTrace (IsWatch bound.bindings) mid trace (bound_value bound) (list_value routed) watch
      → ReadsTexts told bindings trace (record { lines = lines; bound = bound; watch = watch; routed = routed })
  texts_read known may formed are same_files listed seen = record {
    texts = texts;
    are = record { input = refl; lines = are; watch = seen.lines };
    may = (accepted pair, (may, formed), ((Some seen.text, sym routes), record { fit = listed.fit; rules = listed.rules }));
    whole = λ files is. ap (λ o. reading o (λ b. of_name files trace (texts_by trace b))) (known files is) ∙ of_name-reading files trace (texts_by trace pair) ∙ ap (λ o. reading o (texts_by trace pair)) (seen.whole files (same_files ∙ is)) ∙ routes;
  }
    where
      texts : RunTexts
      texts = record { bindings = text; trace = seen.text; input = record { bound = bound_value bound; routed = list_value routed; changes = [] } }

      routes : texts_by trace pair seen.text ≡ accepted texts
      routes = ap (λ o. reading o (λ (r : RoutedValue). accepted (record { bindings = text; trace = seen.text; input = record { bound = bound_value bound; routed = r; changes = [] } }))) seen.routes
