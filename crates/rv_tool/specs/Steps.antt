-- By which numbers the words of each command may be refused: those of its steps.
use Rattle.std.specs.Prelude.{◌≡◌, ◌≤◌, ◌⊎◌, ℕ, List, None}
use Rattle.rv_text.specs.declared.numbers.TheConstants.{CONTROL_SYNTAX, INVALID, NOT_NUMBERED, NO_HEADER, NO_INSTANCE}
use Rattle.rv_text.specs.declared.refusals.Refusal.{Refusal}
use Rattle.rv_io.specs.Files.{Files}
use Rattle.rv_model.specs.declared.kind.SpecKind.{SpecKind}
use Rattle.rv_bind.specs.Outcomes.{Outcome, accepted, refused, IsBindingsNumber, IsRefusedBy}
use Rattle.rv_stream.specs.Numbers.{IsRoutedNumber}
use Rattle.rv_tool.specs.Checks.{CheckedValue}
use Rattle.rv_tool.specs.Inputs.{InputValue, run_input}
use Rattle.rv_tool.specs.Possible.{MayInput, MayRunBeside, MayWatch, MayRecord, MayCheck, MayTable, MayHeader, MayControl}
use Rattle.rv_tool.specs.Sessions.{Printed}
use Rattle.rv_tool.specs.Watched.{WatchValue, watched_slot, watched_input}

-- the numbers of the refusals of a control script
abbrev pub IsScriptNumber : ℕ → Type 0
IsScriptNumber number = (CONTROL_SYNTAX ≤ number) × (number ≤ INVALID)

-- of bindings and a trace
abbrev pub IsRunNumber : ℕ → Type 0
IsRunNumber number = IsBindingsNumber number ⊎ IsRoutedNumber number

-- of a script beside a run, an instance that the run lacks, a run that is not recorded, C tables, and a script on control files
abbrev pub IsBesideNumber : ℕ → Type 0
IsBesideNumber number = IsRunNumber number ⊎ IsScriptNumber number

abbrev pub IsWatchNumber : ℕ → Type 0
IsWatchNumber number = IsRunNumber number ⊎ (number ≡ NO_INSTANCE)

abbrev pub IsJournalNumber : ℕ → Type 0
IsJournalNumber number = IsRunNumber number ⊎ (number ≡ NOT_NUMBERED)

abbrev pub IsHeaderNumber : ℕ → Type 0
IsHeaderNumber number = IsBindingsNumber number ⊎ (number ≡ NO_HEADER)

abbrev pub IsControlNumber : ℕ → Type 0
IsControlNumber number = IsBindingsNumber number ⊎ IsScriptNumber number

-- a law: on any store a command is refused by the numbers of its steps
pub record AreRefusedByStep : Type 0 where
  pub run : (bindings trace : List ℕ) (o : Outcome InputValue) → MayInput bindings trace o → IsRefusedBy IsRunNumber o
  pub beside : (bindings trace script : List ℕ) (o : Outcome InputValue) → MayRunBeside bindings trace script o → IsRefusedBy IsBesideNumber o
  pub watch : (bindings trace monitor instance : List ℕ) (o : Outcome WatchValue) → MayWatch bindings trace monitor instance o → IsRefusedBy IsWatchNumber o
  pub journal : (bindings trace : List ℕ) (o : Outcome InputValue) → MayRecord bindings trace o → IsRefusedBy IsJournalNumber o
  pub check : (bindings trace journal : List ℕ) (o : Outcome CheckedValue) → MayCheck bindings trace journal o → IsRefusedBy IsRunNumber o
  pub table : (kind : SpecKind) (file : List ℕ) (o : Outcome (List ℕ)) → MayTable kind file o → IsRefusedBy IsBindingsNumber o
  pub header : (name file : List ℕ) (o : Outcome (List ℕ)) → MayHeader name file o → IsRefusedBy IsHeaderNumber o
  pub control : (bindings script : List ℕ) (o : Outcome Printed) → MayControl bindings script o → IsRefusedBy IsControlNumber o

-- a law: on known files too; so 37 comes only where the run has no such instance
pub record NoInstance : Type 0 where
  pub run : (files : Files) (bindings trace : List ℕ) → IsRefusedBy IsRunNumber (run_input files bindings trace)
  pub only : (files : Files) (bindings trace monitor instance file : List ℕ) (refusal : Refusal) → watched_input files bindings trace monitor instance ≡ refused file refusal → refusal.number ≡ NO_INSTANCE
      → (i : InputValue) × (run_input files bindings trace ≡ accepted i) × (watched_slot i monitor instance ≡ None)
