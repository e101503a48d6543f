-- From what the readers of the two files answer to what their texts come to.
use Rattle.std.proofs.Common.{◌≡◌, ℕ, List, [], ◌∷◌, refl, sym, inl, inr}
use Rattle.std.specs.Prelude.{Option, Some, None, Err, option_map}
use Rattle.rv_text.specs.declared.refusals.Refusal.{Refusal}
use Rattle.rv_text.specs.TextLines.{LineText, lines_of}
use Rattle.rv_io.specs.Files.{Files, front_read}
use Rattle.rv_bind.specs.declared.fault.BindFault.{BindFault}
use Rattle.rv_bind.specs.declared.fault.BindFault.TheVariants as faults
use Rattle.rv_bind.specs.Bound.{line_bound, lines_bound, nothing_bound}
use Rattle.rv_bind.specs.BoundTexts.{BoundTextValue, bound_text_of, text_bound}
use Rattle.rv_bind.specs.FilePieces.{FailsAs}
use Rattle.rv_bind.specs.Outcomes.{Outcome, accepted, refused, missing, reading, of_name, of_text, files_without, ReadsOutcome}
use Rattle.rv_bind.specs.Values.{BoundValue}
use Rattle.rv_bind.proofs.OutcomeLemmas.{fault_counted}
use Rattle.rv_bind.proofs.ReachedLemmas.{IsLocal, line-local, of_name-local, reading-local}
use Rattle.rv_bind.proofs.ReadsLemmas.{behind_reads, later_reads, same_reads, step_reads}
use Rattle.rv_route.specs.Routing.{RoutedValue}
use Rattle.rv_stream.specs.RoutedTraces.{routed_in, routed_text}
use Rattle.rv_coverage.specs.Texts.{RunTexts, texts_by, texts_in}

-- ---- what an outcome is that something was made of

module _ {Y W : Type 0} (made : Y → W) where
  -- where it is refused, the outcome is
  pub refused_before : (o : Outcome Y) (file : List ℕ) (refusal : Refusal) → reading o (λ y. accepted (made y)) ≡ refused file refusal → o ≡ refused file refusal
  refused_before (accepted y) file refusal is = cc
  refused_before (refused named given) file refusal is = cc
  refused_before (missing named) file refusal is = cc

  -- where it is missing, the outcome is
  pub missing_before : (o : Outcome Y) (file : List ℕ) → reading o (λ y. accepted (made y)) ≡ missing file → o ≡ missing file
  missing_before (accepted y) file is = cc
  missing_before (refused named given) file is = cc
  missing_before (missing named) file is = cc

  -- so its fault is the outcome's
  pub fault_before : {X : Type 0} (view : X → W) (told left : Option Files) (before now : ℕ) (fault : BindFault) (outcome : Files → Outcome Y)
      → ReadsOutcome view told left before now (Err fault) (λ files. reading (outcome files) (λ y. accepted (made y))) → ReadsOutcome (λ (y : Y). y) told left before now (Err fault) outcome
  fault_before view told left before now faults.Memory outcome reads = record { kept = reads.kept; counts = reads.counts; value = tt; named = tt }
  fault_before view told left before now (faults.Refused file refusal) outcome reads = record {
    kept = reads.kept;
    counts = reads.counts;
    value = (reads.value.0, λ files known. refused_before (outcome files) file refusal (reads.value.1 files known));
    named = tt;
  }
  fault_before view told left before now (faults.Unread file) outcome reads = record {
    kept = reads.kept;
    counts = reads.counts;
    value = elim reads.value [
      | inl lacks ↦ inl (lacks.0, lacks.1, missing_before (outcome lacks.0) file lacks.2)
      | inr rose ↦ inr rose
    ];
    named = λ files known. missing_before (outcome (files_without file files)) file (reads.named files known);
  }

-- ---- a fault

-- what a reader answers to a fault is how it fails
pub fails_as : {X Y : Type 0} (told left : Option Files) (before now : ℕ) (fault : BindFault) (outcome : Files → Outcome Y) → ReadsOutcome (λ (y : Y). y) told left before now (Err fault) outcome → FailsAs {X = X} told left before now (Err fault) outcome
fails_as {X} {Y} told left before now fault outcome reads = record { kept = reads.kept; counts = fault_counted Y X before now fault reads.counts; fault = reads.value; named = reads.named }

-- ---- the text of the bindings

-- without a file the lines come to that file, or stay what they are
lines-local : (here : List ℕ) (lines : List LineText) (bound : BoundValue) → IsLocal (λ files. lines_bound files here bound lines)
lines-local here [] bound = λ files file. inr refl
lines-local here (line ∷ lines) bound =
    reading-local (λ files. line_bound files here bound line) (λ files next. lines_bound files here next lines) (line-local here bound line) (λ next. lines-local here lines next)

-- so do the bindings with their text
pub bound_text-local : (here : List ℕ) → IsLocal (λ files. bound_text_of files here)
bound_text-local here =
    of_name-local here (λ files text. text_bound files here text)
    (λ text. reading-local (λ files. lines_bound files here nothing_bound (lines_of text)) (λ files bound. accepted (record { text = text; bound = bound })) (lines-local here (lines_of text) nothing_bound) (λ bound files file. inr refl))

-- ---- the text of the trace

module _ (trace : List ℕ) (read : BoundTextValue) where
  -- what the texts are routed to is what the trace is
  routed_alike : (text : List ℕ) (o : Outcome RoutedValue) → reading (reading o (λ routed. accepted (record { bindings = read.text; trace = text; input = record { bound = read.bound; routed = routed; changes = [] } }))) (λ (t : RunTexts). accepted t.input.routed) ≡ o
  routed_alike text (accepted routed) = refl
  routed_alike text (refused file refusal) = refl
  routed_alike text (missing file) = refl

  pub texts-routed : (text : Option (List ℕ)) → reading (of_text trace text (texts_by trace read)) (λ (t : RunTexts). accepted t.input.routed) ≡ of_text trace text (routed_text trace read.bound)
  texts-routed None = refl
  texts-routed (Some text) = routed_alike text (routed_text trace read.bound text)

  -- a fault of the trace is that of its texts
  pub trace_fails : {X : Type 0} (view : X → RoutedValue) (told left : Option Files) (before now : ℕ) (fault : BindFault)
      → ReadsOutcome view told left before now (Err fault) (λ files. routed_in files trace read.bound) → ReadsOutcome (λ (t : RunTexts). t) told left before now (Err fault) (λ files. of_name files trace (texts_by trace read))
  trace_fails view told left before now fault reads =
      fault_before (λ (t : RunTexts). t.input.routed) view told left before now fault (λ files. of_name files trace (texts_by trace read))
      (same_reads view told left before now (Err fault) (λ files. routed_in files trace read.bound) (λ files. reading (of_name files trace (texts_by trace read)) (λ (t : RunTexts). accepted t.input.routed))
      (λ files. sym (texts-routed (option_map front_read (files trace)))) reads)

-- ---- both files

module _ (told : Option Files) (bindings trace : List ℕ) where
  -- a fault of the bindings is that of both
  pub unbound_fails : {X Z : Type 0} (view : Z → BoundTextValue) (left : Option Files) (before now : ℕ) (fault : BindFault)
      → ReadsOutcome view told left before now (Err fault) (λ files. bound_text_of files bindings) → FailsAs {X = X} told left before now (Err fault) (λ files. texts_in files bindings trace)
  unbound_fails view left before now fault reads =
      fails_as told left before now fault (λ files. texts_in files bindings trace)
      (step_reads view (λ (t : RunTexts). t) told left before now fault (λ files. bound_text_of files bindings) (λ files read. of_name files trace (texts_by trace read)) reads)

  module _ (read : BoundTextValue) (known : (files : Files) → told ≡ Some files → bound_text_of files bindings ≡ accepted read) where
    -- where the bindings were read, a fault of the trace is that of both
    pub unrouted_fails : {X Z : Type 0} (view : Z → RoutedValue) (mid left : Option Files) (before count now : ℕ) (fault : BindFault) → mid ≡ told → count ≡ before
        → ReadsOutcome view mid left count now (Err fault) (λ files. routed_in files trace read.bound) → FailsAs {X = X} told left before now (Err fault) (λ files. texts_in files bindings trace)
    unrouted_fails view mid left before count now fault same le reads =
        fails_as told left before now fault (λ files. texts_in files bindings trace)
        (behind_reads (λ (t : RunTexts). t) told left before now (Err fault) (λ files. bound_text_of files bindings) read (λ files b. of_name files trace (texts_by trace b)) (bound_text-local bindings) known
        (trace_fails trace read view told left before now fault
        (later_reads view told mid left before count now (Err fault) (λ files. routed_in files trace read.bound) same le reads)))
