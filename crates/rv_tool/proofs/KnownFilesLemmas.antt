-- What known files come to may come on any store.
use Rattle.std.proofs.Common.{◌≡◌, ℕ, ◌<◌, List, [], refl, subst, arith}
use Rattle.std.specs.Prelude.{IfOk, length, option_map, Result, Ok, Err}
use Rattle.std.proofs.lemmas.List.Elements.{All-weaker}
use Rattle.rv_text.specs.declared.refusals.Refusal.{Refusal}
use Rattle.rv_io.specs.Files.{Files, front_read}
use Rattle.rv_model.specs.declared.kind.SpecKind.{SpecKind}
use Rattle.rv_model.specs.declared.work.Change.{Change}
use Rattle.rv_trace.specs.declared.line.TraceLine.{TraceLine}
use Rattle.rv_trace.specs.Lines.{LiesIn}
use Rattle.rv_trace.specs.Traces.{trace_of}
use Rattle.rv_trace.proofs.AscendLemmas.{trace_ascends}
use Rattle.rv_trace.proofs.TraceLemmas.{trace_of-lies}
use Rattle.rv_bind.specs.Bound.{bound_of}
use Rattle.rv_bind.specs.Outcomes.{Outcome, accepted, refused, missing, reading, of_file, of_name, of_text}
use Rattle.rv_bind.specs.Possible.{Only, MayRead, MayFollow, MayThen, MayBound}
use Rattle.rv_bind.specs.Values.{BoundValue}
use Rattle.rv_bind.specs.WellFormed.{IsWellFormed, kinds_of}
use Rattle.rv_bind.proofs.KnownLemmas.{bound_known}
use Rattle.rv_route.specs.Fitting.{WorksFit, FromRules}
use Rattle.rv_route.specs.Routing.{RoutedValue, route_of}
use Rattle.rv_route.proofs.AcceptedLemmas.{routed_works_fit}
use Rattle.rv_route.proofs.RuleLemmas.{from_rules}
use Rattle.rv_stream.specs.RoutedTraces.{routed_text, routed_in}
use Rattle.rv_tool.specs.Changes.{changes_text, changes_in, input_beside}
use Rattle.rv_tool.specs.Checks.{CheckedValue, checked_input}
use Rattle.rv_tool.specs.HeaderFiles.{header_of_text, header_in}
use Rattle.rv_tool.specs.Inputs.{InputValue, run_input}
use Rattle.rv_tool.specs.Journals.{if_recordable, recordable_input}
use Rattle.rv_tool.specs.KnownFiles.{AcceptedIsWellFormed, KnownFilesMayCome}
use Rattle.rv_tool.specs.Possible.{Keeping, AreWorksOf, MayBind, MayRoute, MayInput, MayRunBeside, MayWatch, MayRecord, MayCheck, MayTable, MayHeader, MayControl}
use Rattle.rv_tool.specs.Sessions.{control_value, control_in, session_in, session_text}
use Rattle.rv_tool.specs.Tables.{table_text, table_in}
use Rattle.rv_tool.specs.Watched.{WatchValue, watched_by, watched_slot, watched_input}
use Rattle.rv_tool.proofs.FormedLemmas.{AcceptedIs, IsAnything, any_is, file_is, text_is, reading_is, file_gives, bindings_formed}
use Rattle.rv_tool.proofs.PossibleLemmas.{changed}

-- ---- what a trace is routed to

module _ (trace : List ℕ) (bound : BoundValue) (w : IsWellFormed bound) where
  -- the works of lines that were read fit the monitors and come of the rules
  routed_works : (text : List ℕ) (lines : List TraceLine) (routed : RoutedValue) → trace_of text ≡ Ok lines → route_of bound.monitors bound.rules text lines ≡ Ok routed → AreWorksOf bound routed
  routed_works text lines routed read e = record {
    fit =
        subst (λ (r : Result RoutedValue Refusal). IfOk r (λ value. WorksFit (kinds_of bound.monitors) (length value.tasks) value.works)) e
        (routed_works_fit text bound.monitors bound.rules lines (trace_ascends text lines read)
        (All-weaker (LiesIn text) (λ (l : TraceLine). l.cpu < 64) (λ l lies. let few = lies.cpu in omega arith) lines (trace_of-lies text lines read)) w.rules);
    rules = subst (λ (r : Result RoutedValue Refusal). IfOk r (λ value. FromRules bound.rules value.works)) e (from_rules text bound.monitors bound.rules lines);
  }

  -- so do those of a text
  text_works : (text : List ℕ) → AcceptedIs (AreWorksOf bound) (routed_text trace bound text)
  text_works text =
      reading_is (AreWorksOf bound) (of_file trace (trace_of text)) (λ lines. of_file trace (route_of bound.monitors bound.rules text lines))
      (λ lines read. file_is (AreWorksOf bound) trace (route_of bound.monitors bound.rules text lines) (λ routed e. routed_works text lines routed (file_gives trace (trace_of text) lines read) e))

-- ---- what is read of known files

-- what may come and is such a value, or is none
kept_known : {Y : Type 0} (Is : Y → Type 0) (May : Outcome Y → Type 0) (o : Outcome Y) → May o → AcceptedIs Is o → Keeping Is May o
kept_known Is May (accepted y) may is = (may, is)
kept_known Is May (refused file refusal) may is = may
kept_known Is May (missing file) may is = may

-- what follows an outcome that may come is what is read on from it
then_known : {X Y : Type 0} (Is : X → Type 0) (First : Outcome X → Type 0) (Next : X → Outcome Y → Type 0) (o : Outcome X) (next : X → Outcome Y) → First o → AcceptedIs Is o → ((x : X) → Is x → Next x (next x)) → MayThen First Next (reading o next)
then_known Is First Next (accepted x) next may is each = (accepted x, may, each x is)
then_known Is First Next (refused file refusal) next may is each = (refused file refusal, may, refl)
then_known Is First Next (missing file) next may is each = (missing file, may, refl)

-- the same where nothing is known of the value
on_known : {X Y : Type 0} (First : Outcome X → Type 0) (Next : X → Outcome Y → Type 0) (o : Outcome X) (next : X → Outcome Y) → First o → ((x : X) → Next x (next x)) → MayThen First Next (reading o next)
on_known First Next o next may each = then_known IsAnything First Next o next may (any_is o) (λ x any. each x)

-- the input of bindings and of what a trace is routed to, beside which nothing changes
abbrev input_of : BoundValue → RoutedValue → InputValue
input_of bound routed = record { bound = bound; routed = routed; changes = [] }

module _ (files : Files) where
  -- a file that is known has one text, or none
  read_known : {Y : Type 0} (file : List ℕ) (read : List ℕ → Outcome Y) → MayRead file read (of_name files file read)
  read_known file read = (option_map front_read (files file), refl)

  -- the bindings
  bindings_known : (bindings : List ℕ) → AcceptedIs IsWellFormed (bound_of files bindings)
  bindings_known bindings = bindings_formed bindings (bound_of files bindings) (bound_known files bindings)

  bind_known : (bindings : List ℕ) → MayBind bindings (bound_of files bindings)
  bind_known bindings = kept_known IsWellFormed (MayBound bindings) (bound_of files bindings) (bound_known files bindings) (bindings_known bindings)

  -- the trace
  route_known : (trace : List ℕ) (bound : BoundValue) → IsWellFormed bound → MayRoute trace bound (routed_in files trace bound)
  route_known trace bound w =
      kept_known (AreWorksOf bound) (MayRead trace (routed_text trace bound)) (routed_in files trace bound) (read_known trace (routed_text trace bound))
      (text_is (AreWorksOf bound) trace (option_map front_read (files trace)) (routed_text trace bound) (text_works trace bound w))

  module _ (bindings trace : List ℕ) where
    -- both
    input_known : MayInput bindings trace (run_input files bindings trace)
    input_known =
        then_known IsWellFormed (MayBind bindings) (λ bound. MayThen (MayRoute trace bound) (λ routed. Only (accepted (input_of bound routed)))) (bound_of files bindings)
        (λ bound. reading (routed_in files trace bound) (λ routed. accepted (input_of bound routed))) (bind_known bindings) (bindings_known bindings)
        (λ bound w. on_known (MayRoute trace bound) (λ routed. Only (accepted (input_of bound routed))) (routed_in files trace bound) (λ routed. accepted (input_of bound routed)) (route_known trace bound w) (λ routed. refl))

    module _ {Y : Type 0} (Next : InputValue → Outcome Y → Type 0) (next : InputValue → Outcome Y) where
      -- what follows the input
      behind_known : ((i : InputValue) → Next i (next i)) → MayThen (MayInput bindings trace) Next (reading (run_input files bindings trace) next)
      behind_known each = on_known (MayInput bindings trace) Next (run_input files bindings trace) next input_known each

    -- the script that runs beside the CPUs
    beside_known : (script : List ℕ) → MayRunBeside bindings trace script (input_beside files bindings trace script)
    beside_known script =
        behind_known (changed script) (λ i. reading (changes_in files script (control_value i.bound)) (λ changes. accepted (record i { changes = changes }))) (λ i.
        on_known (MayRead script (changes_text script (control_value i.bound))) (λ (changes : List Change). Only (accepted (record i { changes = changes }))) (changes_in files script (control_value i.bound))
        (λ changes. accepted (record i { changes = changes })) (read_known script (changes_text script (control_value i.bound))) (λ changes. refl))

    -- the instance that is watched
    watch_known : (monitor instance : List ℕ) → MayWatch bindings trace monitor instance (watched_input files bindings trace monitor instance)
    watch_known monitor instance =
        behind_known (λ i. Only (of_file trace (watched_by i (watched_slot i monitor instance)))) (λ i. of_file trace (watched_by i (watched_slot i monitor instance))) (λ i. refl)

    -- a run that is recorded
    journal_known : MayRecord bindings trace (recordable_input files bindings trace)
    journal_known = behind_known (λ i. Only (of_file bindings (if_recordable i))) (λ i. of_file bindings (if_recordable i)) (λ i. refl)

    -- a journal that is checked
    check_known : (journal : List ℕ) → MayCheck bindings trace journal (checked_input files bindings trace journal)
    check_known journal =
        behind_known (λ i. MayRead journal (λ text. accepted (record { input = i; journal = text }))) (λ i. of_text journal (files journal) (λ text. accepted (record { input = i; journal = text })))
        (λ i. (files journal, refl))

  -- the control files
  control_known : (bindings script : List ℕ) → MayControl bindings script (control_in files bindings script)
  control_known bindings script =
      on_known (MayBind bindings) (λ bound. MayRead script (session_text script bound)) (bound_of files bindings) (session_in files script) (bind_known bindings) (λ bound. read_known script (session_text script bound))

-- ---- the laws

-- whatever is accepted is well formed
pub accepted_formed : AcceptedIsWellFormed
accepted_formed = record {
  bindings = λ here bound may. bindings_formed here (accepted bound) may;
  works = λ trace bound text routed w e. subst (AcceptedIs (AreWorksOf bound)) e (text_works trace bound w text);
}

-- each command's outcome may come
pub known_may_come : KnownFilesMayCome
known_may_come = record {
  run = input_known;
  beside = beside_known;
  watch = watch_known;
  journal = journal_known;
  check = check_known;
  table = λ files kind file. read_known files file (λ bytes. of_file file (table_text kind bytes));
  header = λ files name file. read_known files file (λ bytes. of_file file (header_of_text name bytes));
  control = control_known;
}
