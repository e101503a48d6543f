-- A command is refused by the numbers of its steps.
use Rattle.std.proofs.Common.{◌≡◌, ℕ, Bool, true, false, List, [], refl, sym, ap, ◌∙◌, subst, inl, inr, arith}
use Rattle.std.specs.Prelude.{Option, Some, None, Ok, option_map, if◌then◌else◌}
use Rattle.rv_io.specs.Files.{Files, front_read}
use Rattle.rv_text.specs.declared.numbers.TheConstants.{NOT_NUMBERED, NO_INSTANCE}
use Rattle.rv_text.specs.declared.refusals.Refusal.{Refusal}
use Rattle.rv_text.specs.Readings.{refused_with}
use Rattle.rv_bind.specs.Bound.{bound_of}
use Rattle.rv_bind.specs.Outcomes.{Outcome, accepted, refused, missing, reading, of_file, IsBindingsNumber, IsRefusedBy}
use Rattle.rv_bind.specs.Possible.{MayBound, MayRead, MayThen, Only}
use Rattle.rv_bind.specs.Values.{BoundValue}
use Rattle.rv_bind.specs.WellFormed.{IsWellFormed}
use Rattle.rv_bind.proofs.KnownLemmas.{bound_known}
use Rattle.rv_bind.proofs.RefusedLemmas.{reading_refused, file_refused, follow_refused, more_refused, bindings_refused}
use Rattle.rv_route.specs.Routing.{RoutedValue}
use Rattle.rv_control.specs.Scripts.{script_of}
use Rattle.rv_control.specs.Trees.{ControlValue}
use Rattle.rv_stream.specs.Numbers.{IsRoutedNumber}
use Rattle.rv_stream.specs.RoutedTraces.{routed_text, routed_in}
use Rattle.rv_stream.proofs.RefusedLemmas.{trace_refused_by}
use Rattle.rv_tool.specs.Changes.{changes_of, changes_text}
use Rattle.rv_tool.specs.HeaderFiles.{header_of_text}
use Rattle.rv_tool.specs.Inputs.{InputValue, run_input}
use Rattle.rv_tool.specs.Journals.{can_record, if_recordable}
use Rattle.rv_tool.specs.Possible.{Keeping, AreWorksOf, MayBind, MayRoute, MayInput}
use Rattle.rv_tool.specs.Sessions.{control_value, session_of, session_text}
use Rattle.rv_tool.specs.Steps.{IsScriptNumber, IsRunNumber, IsBesideNumber, IsWatchNumber, IsJournalNumber, IsHeaderNumber, IsControlNumber, AreRefusedByStep, NoInstance}
use Rattle.rv_tool.specs.Tables.{table_text}
use Rattle.rv_tool.specs.Watched.{watched_slot, watched_by}
use Rattle.rv_tool.proofs.NumberLemmas.{script_by_step, changes_by_step, table_by_step, header_by_step}

module _ (Numbers : ℕ → Type 0) where
  -- what is kept is refused as it was
  keeping_refused : {Y : Type 0} (Is : Y → Type 0) (May : Outcome Y → Type 0) (o : Outcome Y) → (May o → IsRefusedBy Numbers o) → Keeping Is May o → IsRefusedBy Numbers o
  keeping_refused Is May (accepted y) may is = tt
  keeping_refused Is May (refused file refusal) may is = may is
  keeping_refused Is May (missing file) may is = may is

  -- what is read of some text
  read_refused : {Y : Type 0} (file : List ℕ) (read : List ℕ → Outcome Y) (o : Outcome Y) → ((text : List ℕ) → IsRefusedBy Numbers (read text)) → MayRead file read o → IsRefusedBy Numbers o
  read_refused file read o each (None, is) = subst (IsRefusedBy Numbers) (sym is) tt
  read_refused file read o each (Some text, is) = subst (IsRefusedBy Numbers) (sym is) (each text)

  -- an outcome alone
  only_refused : {Y : Type 0} (is o : Outcome Y) → IsRefusedBy Numbers is → o ≡ is → IsRefusedBy Numbers o
  only_refused is o first same = subst (IsRefusedBy Numbers) (sym same) first

-- what may come in two steps
then_refused : {X Y : Type 0} (Numbers : ℕ → Type 0) (first : Outcome X → Type 0) (next : X → Outcome Y → Type 0) (o : Outcome Y) → ((step : Outcome X) → first step → IsRefusedBy Numbers step) → ((x : X) → next x o → IsRefusedBy Numbers o) → MayThen first next o → IsRefusedBy Numbers o
then_refused Numbers first next o before behind is = follow_refused Numbers is.0 next o (before is.0 is.1) behind is.2

-- bindings
bind_refused : (bindings : List ℕ) (o : Outcome BoundValue) → MayBind bindings o → IsRefusedBy IsBindingsNumber o
bind_refused bindings o is = keeping_refused IsBindingsNumber IsWellFormed (MayBound bindings) o (bindings_refused bindings o) is

-- a trace
route_refused : (trace : List ℕ) (bound : BoundValue) (o : Outcome RoutedValue) → MayRoute trace bound o → IsRefusedBy IsRunNumber o
route_refused trace bound o is = more_refused IsRoutedNumber IsRunNumber o (λ number of. inr of) (keeping_refused IsRoutedNumber (AreWorksOf bound) (MayRead trace (routed_text trace bound)) o (trace_refused_by trace bound o) is)

module _ (bindings trace : List ℕ) where
  -- bindings, by a number of a run
  bound_refused : (o : Outcome BoundValue) → MayBind bindings o → IsRefusedBy IsRunNumber o
  bound_refused o is = more_refused IsBindingsNumber IsRunNumber o (λ number of. inl of) (bind_refused bindings o is)

  -- bindings and a trace
  input_refused : (o : Outcome InputValue) → MayInput bindings trace o → IsRefusedBy IsRunNumber o
  input_refused o is =
      then_refused IsRunNumber (MayBind bindings) (λ bound. MayThen (MayRoute trace bound) (λ routed. Only (accepted (record { bound = bound; routed = routed; changes = [] })))) o bound_refused
      (λ bound routes.
      then_refused IsRunNumber (MayRoute trace bound) (λ routed. Only (accepted (record { bound = bound; routed = routed; changes = [] }))) o (route_refused trace bound)
      (λ routed same. only_refused IsRunNumber (accepted (record { bound = bound; routed = routed; changes = [] })) o tt same) routes)
      is

  -- by these numbers or by others
  more_input : (Numbers : ℕ → Type 0) → ((number : ℕ) → IsRunNumber number → Numbers number) → (o : Outcome InputValue) → MayInput bindings trace o → IsRefusedBy Numbers o
  more_input Numbers more o is = more_refused IsRunNumber Numbers o more (input_refused o is)

-- a script beside a run
changes_refused : (script : List ℕ) (tree : ControlValue) (text : List ℕ) → IsRefusedBy IsScriptNumber (changes_text script tree text)
changes_refused script tree text =
    reading_refused IsScriptNumber (of_file script (script_of text)) (λ commands. of_file script (changes_of tree commands)) (file_refused IsScriptNumber script (script_of text) (script_by_step text))
    (λ commands. file_refused IsScriptNumber script (changes_of tree commands) (changes_by_step tree commands))

-- a script that prints
session_refused : (script : List ℕ) (bound : BoundValue) (text : List ℕ) → IsRefusedBy IsScriptNumber (session_text script bound text)
session_refused script bound text =
    reading_refused IsScriptNumber (of_file script (script_of text)) (λ commands. accepted (session_of script (control_value bound) commands)) (file_refused IsScriptNumber script (script_of text) (script_by_step text)) (λ commands. tt)

-- a watched slot
slot_refused : (trace : List ℕ) (input : InputValue) (slot : Option ℕ) → IsRefusedBy IsWatchNumber (of_file trace (watched_by input slot))
slot_refused trace input None = inr refl
slot_refused trace input (Some slot) = tt

-- a run that is recorded
record_refused : (bindings : List ℕ) (input : InputValue) (may : Bool) → IsRefusedBy IsJournalNumber (of_file bindings (if may then Ok input else refused_with NOT_NUMBERED))
record_refused bindings input true = tt
record_refused bindings input false = inr refl

-- the law
pub refused_by_step : AreRefusedByStep
refused_by_step = record {
  run = input_refused;
  beside = λ bindings trace script o is.
      then_refused IsBesideNumber (MayInput bindings trace) (λ input. MayThen (MayRead script (changes_text script (control_value input.bound))) (λ changes. Only (accepted (record input { changes = changes })))) o (more_input bindings trace IsBesideNumber (λ number of. inl of))
      (λ input asks.
      then_refused IsBesideNumber (MayRead script (changes_text script (control_value input.bound))) (λ changes. Only (accepted (record input { changes = changes }))) o
      (λ step reads. more_refused IsScriptNumber IsBesideNumber step (λ number of. inr of) (read_refused IsScriptNumber script (changes_text script (control_value input.bound)) step (changes_refused script (control_value input.bound)) reads))
      (λ changes same. only_refused IsBesideNumber (accepted (record input { changes = changes })) o tt same) asks)
      is;
  watch = λ bindings trace monitor instance o is.
      then_refused IsWatchNumber (MayInput bindings trace) (λ input. Only (of_file trace (watched_by input (watched_slot input monitor instance)))) o (more_input bindings trace IsWatchNumber (λ number of. inl of))
      (λ input same. only_refused IsWatchNumber (of_file trace (watched_by input (watched_slot input monitor instance))) o (slot_refused trace input (watched_slot input monitor instance)) same) is;
  journal = λ bindings trace o is.
      then_refused IsJournalNumber (MayInput bindings trace) (λ input. Only (of_file bindings (if_recordable input))) o (more_input bindings trace IsJournalNumber (λ number of. inl of))
      (λ input same. only_refused IsJournalNumber (of_file bindings (if_recordable input)) o (record_refused bindings input (can_record input)) same) is;
  check = λ bindings trace journal o is.
      then_refused IsRunNumber (MayInput bindings trace) (λ input. MayRead journal (λ text. accepted (record { input = input; journal = text }))) o (input_refused bindings trace)
      (λ input reads. read_refused IsRunNumber journal (λ text. accepted (record { input = input; journal = text })) o (λ text. tt) reads) is;
  table = λ kind file o is. read_refused IsBindingsNumber file (λ bytes. of_file file (table_text kind bytes)) o (λ bytes. file_refused IsBindingsNumber file (table_text kind bytes) (table_by_step kind bytes)) is;
  header = λ name file o is. read_refused IsHeaderNumber file (λ bytes. of_file file (header_of_text name bytes)) o (λ bytes. file_refused IsHeaderNumber file (header_of_text name bytes) (header_by_step name bytes)) is;
  control = λ bindings script o is.
      then_refused IsControlNumber (MayBind bindings) (λ bound. MayRead script (session_text script bound)) o (λ step first. more_refused IsBindingsNumber IsControlNumber step (λ number of. inl of) (bind_refused bindings step first))
      (λ bound reads. more_refused IsScriptNumber IsControlNumber o (λ number of. inr of) (read_refused IsScriptNumber script (session_text script bound) o (session_refused script bound) reads)) is;
}

-- ---- on known files

-- what the files come to
run_refused : (files : Files) (bindings trace : List ℕ) → IsRefusedBy IsRunNumber (run_input files bindings trace)
run_refused files bindings trace =
    reading_refused IsRunNumber (bound_of files bindings) (λ bound. reading (routed_in files trace bound) (λ routed. accepted (record { bound = bound; routed = routed; changes = [] })))
    (more_refused IsBindingsNumber IsRunNumber (bound_of files bindings) (λ number of. inl of) (bindings_refused bindings (bound_of files bindings) (bound_known files bindings)))
    (λ bound. reading_refused IsRunNumber (routed_in files trace bound) (λ routed. accepted (record { bound = bound; routed = routed; changes = [] }))
    (more_refused IsRoutedNumber IsRunNumber (routed_in files trace bound) (λ number of. inr of) (trace_refused_by trace bound (routed_in files trace bound) (option_map front_read (files trace), refl))) (λ routed. tt))

-- 37 is no number of a run
not_run : (number : ℕ) → IsRunNumber number → number ≡ NO_INSTANCE → ⊥
not_run number (inl is) same = let high = is.1 in omega arith
not_run number (inr (inl is)) same = let high = is.1 in omega arith
not_run number (inr (inr is)) same = let high = is.1 in omega arith

-- the second law
pub no_instance : NoInstance
no_instance = record {
  run = run_refused;
  only = λ files bindings trace monitor instance file refusal is number. go trace monitor instance file refusal number (run_input files bindings trace) (run_refused files bindings trace) is;
}
  where
    found : (trace file : List ℕ) (refusal : Refusal) (i : InputValue) (slot : Option ℕ) → of_file trace (watched_by i slot) ≡ refused file refusal → slot ≡ None
    found trace file refusal i None is = refl
    found trace file refusal i (Some slot) is = cc

    go : (trace monitor instance file : List ℕ) (refusal : Refusal) → refusal.number ≡ NO_INSTANCE → (o : Outcome InputValue) → IsRefusedBy IsRunNumber o → reading o (λ input. of_file trace (watched_by input (watched_slot input monitor instance))) ≡ refused file refusal
        → (i : InputValue) × (o ≡ accepted i) × (watched_slot i monitor instance ≡ None)
    go trace monitor instance file refusal number (accepted i) by is = (i, refl, found trace file refusal i (watched_slot i monitor instance) is)
    go trace monitor instance file refusal number (refused named given) by is = absurd (not_run given.number by (let same : given ≡ refusal = cc in ap (λ (r : Refusal). r.number) same ∙ number))
    go trace monitor instance file refusal number (missing named) by is = cc
