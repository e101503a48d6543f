-- The unread file that a part of a reading names is reached in the whole.
use Rattle.std.proofs.Common.{◌≡◌, ℕ, List, [], refl}
use Rattle.std.specs.Prelude.{Option, Some, Result, Err}
use Rattle.rv_io.specs.Files.{Files}
use Rattle.rv_bind.specs.declared.fault.BindFault.{BindFault}
use Rattle.rv_bind.specs.Values.{BoundValue}
use Rattle.rv_bind.specs.Bound.{bound_of}
use Rattle.rv_bind.specs.Outcomes.{accepted, reading, of_file, front_named, BlamesReached, ReadsOutcome}
use Rattle.rv_bind.proofs.FrontLemmas.{front_named-reading}
use Rattle.rv_bind.proofs.ReachedLemmas.{bound-local, step_named}
use Rattle.rv_bind.proofs.ReadsLemmas.{step_reads, later_reads, behind_reads}
use Rattle.rv_route.specs.Routing.{RoutedValue}
use Rattle.rv_model.specs.declared.kind.SpecKind.{SpecKind}
use Rattle.rv_stream.specs.RoutedTraces.{routed_in}
use Rattle.rv_tool.specs.Inputs.{InputValue, run_input}
use Rattle.rv_tool.specs.Sessions.{Printed, session_text, session_in, control_in}
use Rattle.rv_tool.specs.HeaderFiles.{header_of_text, header_in}
use Rattle.rv_tool.specs.Tables.{table_text, table_in}
use Rattle.rv_tool.proofs.LookLemmas.{table-looks, header-looks, session-looks}

module _ (told : Option Files) where
  -- a specification whose table is asked for is read by its file
  pub table_named : (X Z : Type 0) (kind : SpecKind) (file : List ℕ) (fault : BindFault) → BlamesReached {X = X} told (Err fault) (λ files. front_named files file) → BlamesReached {X = Z} told (Err fault) (λ files. table_in files kind file)
  table_named X Z kind file fault =
      step_named X Z told fault (λ files. front_named files file) (λ files text. of_file file (table_text kind text)) (λ files. table_in files kind file) (λ files. front_named-reading (λ text. of_file file (table_text kind text)) (table-looks kind file) files file)

  -- an automaton whose C tables are asked for is read by its file
  pub header_named : (X Z : Type 0) (name file : List ℕ) (fault : BindFault) → BlamesReached {X = X} told (Err fault) (λ files. front_named files file) → BlamesReached {X = Z} told (Err fault) (λ files. header_in files name file)
  header_named X Z name file fault =
      step_named X Z told fault (λ files. front_named files file) (λ files text. of_file file (header_of_text name text)) (λ files. header_in files name file) (λ files. front_named-reading (λ text. of_file file (header_of_text name text)) (header-looks name file) files file)

  -- an unread script is read by its file
  pub script_named : (X Z : Type 0) (script : List ℕ) (bound : BoundValue) (fault : BindFault) → BlamesReached {X = X} told (Err fault) (λ files. front_named files script) → BlamesReached {X = Z} told (Err fault) (λ files. session_in files script bound)
  script_named X Z script bound fault =
      step_named X Z told fault (λ files. front_named files script) (λ files text. session_text script bound text) (λ files. session_in files script bound) (λ files. front_named-reading (session_text script bound) (session-looks script bound) files script)

  -- what the bindings name, the commands name
  pub control_named : (X Z : Type 0) (bindings script : List ℕ) (fault : BindFault) → BlamesReached {X = X} told (Err fault) (λ files. bound_of files bindings) → BlamesReached {X = Z} told (Err fault) (λ files. control_in files bindings script)
  control_named X Z bindings script fault =
      step_named X Z told fault (λ files. bound_of files bindings) (λ files bound. session_in files script bound) (λ files. control_in files bindings script) (λ files. refl)

  -- what the bindings name, the run names
  pub input_named : (X Z : Type 0) (bindings trace : List ℕ) (fault : BindFault) → BlamesReached {X = X} told (Err fault) (λ files. bound_of files bindings) → BlamesReached {X = Z} told (Err fault) (λ files. run_input files bindings trace)
  input_named X Z bindings trace fault =
      step_named X Z told fault (λ files. bound_of files bindings) (λ files bound. reading (routed_in files trace bound) (λ routed. accepted (record { bound = bound; routed = routed; changes = [] }))) (λ files. run_input files bindings trace) (λ files. refl)

module _ (told mid left : Option Files) (before count now : ℕ) (bindings : List ℕ) (bound : BoundValue) where
  -- where the bindings were read, the commands are what the script is
  pub control_behind_reads : {X : Type 0} (view : X → Printed) (script : List ℕ) (result : Result X BindFault) → mid ≡ told → count ≡ before → ((files : Files) → told ≡ Some files → bound_of files bindings ≡ accepted bound)
      → ReadsOutcome view mid left count now result (λ files. session_in files script bound) → ReadsOutcome view told left before now result (λ files. control_in files bindings script)
  control_behind_reads view script result same le read reads =
      behind_reads view told left before now result (λ files. bound_of files bindings) bound (λ files b. session_in files script b) (bound-local bindings) read
      (later_reads view told mid left before count now result (λ files. session_in files script bound) same le reads)

  -- and the run's fault is the trace's
  pub input_behind_reads : {X Z : Type 0} (view : X → RoutedValue) (whole_view : Z → InputValue) (trace : List ℕ) (fault : BindFault) → mid ≡ told → count ≡ before → ((files : Files) → told ≡ Some files → bound_of files bindings ≡ accepted bound)
      → ReadsOutcome view mid left count now (Err fault) (λ files. routed_in files trace bound) → ReadsOutcome whole_view told left before now (Err fault) (λ files. run_input files bindings trace)
  input_behind_reads view whole_view trace fault same le read reads =
      behind_reads whole_view told left before now (Err fault) (λ files. bound_of files bindings) bound (λ files b. reading (routed_in files trace b) (λ routed. accepted (record { bound = b; routed = routed; changes = [] }))) (bound-local bindings) read
      (step_reads view whole_view told left before now fault (λ files. routed_in files trace bound) (λ files routed. accepted (record { bound = bound; routed = routed; changes = [] }))
      (later_reads view told mid left before count now (Err fault) (λ files. routed_in files trace bound) same le reads))
