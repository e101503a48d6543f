-- That what known files come to is what may come on any store, and that nothing that is accepted is left out of it.
use Rattle.std.specs.Prelude.{◌≡◌, ℕ, List}
use Rattle.rv_io.specs.Files.{Files}
use Rattle.rv_model.specs.declared.kind.SpecKind.{SpecKind}
use Rattle.rv_bind.specs.Outcomes.{accepted}
use Rattle.rv_bind.specs.Possible.{MayBound}
use Rattle.rv_bind.specs.Values.{BoundValue}
use Rattle.rv_bind.specs.WellFormed.{IsWellFormed}
use Rattle.rv_route.specs.Routing.{RoutedValue}
use Rattle.rv_stream.specs.RoutedTraces.{routed_text}
use Rattle.rv_tool.specs.Changes.{input_beside}
use Rattle.rv_tool.specs.Checks.{checked_input}
use Rattle.rv_tool.specs.HeaderFiles.{header_in}
use Rattle.rv_tool.specs.Inputs.{run_input}
use Rattle.rv_tool.specs.Journals.{recordable_input}
use Rattle.rv_tool.specs.Possible.{AreWorksOf, MayInput, MayRunBeside, MayWatch, MayRecord, MayCheck, MayTable, MayHeader, MayControl}
use Rattle.rv_tool.specs.Sessions.{control_in}
use Rattle.rv_tool.specs.Tables.{table_in}
use Rattle.rv_tool.specs.Watched.{watched_input}

-- a law: accepted bindings are well formed, whatever their files say; and under such bindings the works of an accepted trace fit the monitors and come of the rules
pub record AcceptedIsWellFormed : Type 0 where
  pub bindings : (here : List ℕ) (bound : BoundValue) → MayBound here (accepted bound) → IsWellFormed bound
  pub works : (trace : List ℕ) (bound : BoundValue) (text : List ℕ) (routed : RoutedValue) → IsWellFormed bound → routed_text trace bound text ≡ accepted routed → AreWorksOf bound routed

-- a law: what the words of a command come to on known files may come on any store
pub record KnownFilesMayCome : Type 0 where
  pub run : (files : Files) (bindings trace : List ℕ) → MayInput bindings trace (run_input files bindings trace)
  pub beside : (files : Files) (bindings trace script : List ℕ) → MayRunBeside bindings trace script (input_beside files bindings trace script)
  pub watch : (files : Files) (bindings trace monitor instance : List ℕ) → MayWatch bindings trace monitor instance (watched_input files bindings trace monitor instance)
  pub journal : (files : Files) (bindings trace : List ℕ) → MayRecord bindings trace (recordable_input files bindings trace)
  pub check : (files : Files) (bindings trace journal : List ℕ) → MayCheck bindings trace journal (checked_input files bindings trace journal)
  pub table : (files : Files) (kind : SpecKind) (file : List ℕ) → MayTable kind file (table_in files kind file)
  pub header : (files : Files) (name file : List ℕ) → MayHeader name file (header_in files name file)
  pub control : (files : Files) (bindings script : List ℕ) → MayControl bindings script (control_in files bindings script)
