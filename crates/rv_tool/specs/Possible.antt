-- What the words of a command may come to on any store: each time a file is read there is some text of it, or none, chosen anew.
use Rattle.std.specs.Prelude.{ℕ, List, [], length}
use Rattle.rv_bind.specs.Outcomes.{Outcome, accepted, refused, missing, of_file}
use Rattle.rv_bind.specs.Possible.{Only, MayRead, MayThen, MayBound}
use Rattle.rv_bind.specs.Values.{BoundValue}
use Rattle.rv_bind.specs.WellFormed.{IsWellFormed, kinds_of}
use Rattle.rv_model.specs.declared.kind.SpecKind.{SpecKind}
use Rattle.rv_route.specs.Fitting.{WorksFit, FromRules}
use Rattle.rv_route.specs.Routing.{RoutedValue}
use Rattle.rv_tool.specs.Changes.{changes_text}
use Rattle.rv_tool.specs.Checks.{CheckedValue}
use Rattle.rv_tool.specs.HeaderFiles.{header_of_text}
use Rattle.rv_stream.specs.RoutedTraces.{routed_text}
use Rattle.rv_tool.specs.Inputs.{InputValue}
use Rattle.rv_tool.specs.Journals.{if_recordable}
use Rattle.rv_tool.specs.Sessions.{Printed, control_value, session_text}
use Rattle.rv_tool.specs.Tables.{table_text}
use Rattle.rv_tool.specs.Watched.{WatchValue, watched_slot, watched_by}

-- such an outcome, and what is accepted is such a value
abbrev pub Keeping : {Y : Type 0} → (Y → Type 0) → (Outcome Y → Type 0) → Outcome Y → Type 0
Keeping Is May (accepted y) = May (accepted y) × Is y
Keeping Is May (refused file refusal) = May (refused file refusal)
Keeping Is May (missing file) = May (missing file)

-- ---- runs

-- the works fit the monitors of the bindings and come of their rules
pub record AreWorksOf (bound : BoundValue) (routed : RoutedValue) : Type 0 where
  pub fit : WorksFit (kinds_of bound.monitors) (length routed.tasks) routed.works
  pub rules : FromRules bound.rules routed.works

-- what the bindings may come to; those that are accepted are well formed
abbrev pub MayBind : List ℕ → Outcome BoundValue → Type 0
MayBind bindings = Keeping IsWellFormed (MayBound bindings)

-- what the trace may come to under the bindings
abbrev pub MayRoute : List ℕ → BoundValue → Outcome RoutedValue → Type 0
MayRoute trace bound = Keeping (AreWorksOf bound) (MayRead trace (routed_text trace bound))

-- what the bindings and then the trace may come to
abbrev pub MayInput : List ℕ → List ℕ → Outcome InputValue → Type 0
MayInput bindings trace = MayThen (MayBind bindings) (λ bound. MayThen (MayRoute trace bound) (λ routed. Only (accepted (record { bound = bound; routed = routed; changes = [] }))))

-- the same, and then the script that runs beside the CPUs
abbrev pub MayRunBeside : List ℕ → List ℕ → List ℕ → Outcome InputValue → Type 0
MayRunBeside bindings trace script =
    MayThen (MayInput bindings trace) (λ input. MayThen (MayRead script (changes_text script (control_value input.bound))) (λ changes. Only (accepted (record input { changes = changes }))))

-- the same without a script, and then the words that name the instance
abbrev pub MayWatch : List ℕ → List ℕ → List ℕ → List ℕ → Outcome WatchValue → Type 0
MayWatch bindings trace monitor instance = MayThen (MayInput bindings trace) (λ input. Only (of_file trace (watched_by input (watched_slot input monitor instance))))

-- the same, and then whether the bindings' monitors can be numbered
abbrev pub MayRecord : List ℕ → List ℕ → Outcome InputValue → Type 0
MayRecord bindings trace = MayThen (MayInput bindings trace) (λ input. Only (of_file bindings (if_recordable input)))

-- the same, and then the journal, of which no text is refused
abbrev pub MayCheck : List ℕ → List ℕ → List ℕ → Outcome CheckedValue → Type 0
MayCheck bindings trace journal = MayThen (MayInput bindings trace) (λ input. MayRead journal (λ text. accepted (record { input = input; journal = text })))

-- ---- single files

-- what the table of a specification's file may be
abbrev pub MayTable : SpecKind → List ℕ → Outcome (List ℕ) → Type 0
MayTable kind file = MayRead file (λ bytes. of_file file (table_text kind bytes))

-- what the C tables of an automaton's file may be
abbrev pub MayHeader : List ℕ → List ℕ → Outcome (List ℕ) → Type 0
MayHeader name file = MayRead file (λ bytes. of_file file (header_of_text name bytes))

-- what the bindings and then the script on their control files may come to
abbrev pub MayControl : List ℕ → List ℕ → Outcome Printed → Type 0
MayControl bindings script = MayThen (MayBind bindings) (λ bound. MayRead script (session_text script bound))
