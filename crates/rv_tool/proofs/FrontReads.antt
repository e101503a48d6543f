-- What is read of the front of a file, by whoever looks no further, is what is read of the file.
use Rattle.std.proofs.Common.{ℕ, List}
use Rattle.std.specs.Prelude.{Option, Result, Ok, Vec}
use Rattle.std.specs.declared.alloc.Global.{Global}
use Rattle.rv_io.specs.Files.{Files}
use Rattle.rv_model.specs.declared.kind.SpecKind.{SpecKind}
use Rattle.rv_model.specs.declared.work.Change.{Change}
use Rattle.rv_bind.specs.declared.fault.BindFault.{BindFault}
use Rattle.rv_bind.specs.Values.{BoundValue}
use Rattle.rv_bind.specs.Outcomes.{Outcome, ReadsOutcome, of_file, of_name, text_front, front_named}
use Rattle.rv_bind.proofs.FrontLemmas.{LooksAtFront, of_front}
use Rattle.rv_bind.proofs.OutcomeLemmas.{none_counted}
use Rattle.rv_control.specs.Trees.{ControlValue}
use Rattle.rv_stream.specs.inner.Faults.{IsOutcome}
use Rattle.rv_tool.specs.Tables.{table_text, table_in}
use Rattle.rv_tool.specs.HeaderFiles.{header_of_text, header_in}
use Rattle.rv_tool.specs.Sessions.{Printed, session_text, session_in}
use Rattle.rv_tool.specs.Changes.{changes_text, changes_in}
use Rattle.rv_stream.proofs.BlamesLemmas.{tells_named}
use Rattle.rv_tool.proofs.LookLemmas.{table-looks, header-looks, session-looks, changes-looks}
use Rattle.rv_stream.proofs.RefinesLemmas.{tells_comes}

module _ (told left : Option Files) (before now : ℕ) (file : List ℕ) (read : Vec ℕ Global) (reads : ReadsOutcome (λ (text : Vec ℕ Global). text_front text.items) told left before now (Ok read) (λ files. front_named files file)) where
  front_reads : {X Y : Type 0} (view : X → Y) (outcome : List ℕ → Outcome Y) → LooksAtFront outcome → (result : Result X BindFault) → IsOutcome view result (outcome read.items)
      → ReadsOutcome view told left before now result (λ files. of_name files file outcome)
  front_reads view outcome looks result tells = record {
    kept = reads.kept;
    counts = none_counted before now result reads.counts;
    value = tells_comes told view before now (λ files. of_name files file outcome) (outcome read.items) (λ files known. of_front outcome looks files file read.items (reads.value files known)) result tells;
    named = tells_named told view result (outcome read.items) (λ files. of_name files file outcome) tells;
  }

  -- the table of a specification
  pub table_reads : {X : Type 0} (view : X → List ℕ) (kind : SpecKind) (result : Result X BindFault) → IsOutcome view result (of_file file (table_text kind read.items)) → ReadsOutcome view told left before now result (λ files. table_in files kind file)
  table_reads view kind = front_reads view (λ text. of_file file (table_text kind text)) (table-looks kind file)

  -- the C tables of an automaton
  pub header_reads : {X : Type 0} (view : X → List ℕ) (name : List ℕ) (result : Result X BindFault) → IsOutcome view result (of_file file (header_of_text name read.items)) → ReadsOutcome view told left before now result (λ files. header_in files name file)
  header_reads view name = front_reads view (λ text. of_file file (header_of_text name text)) (header-looks name file)

  -- what a script prints
  pub session_reads : {X : Type 0} (view : X → Printed) (bound : BoundValue) (result : Result X BindFault) → IsOutcome view result (session_text file bound read.items) → ReadsOutcome view told left before now result (λ files. session_in files file bound)
  session_reads view bound = front_reads view (session_text file bound) (session-looks file bound)

  -- the changes of a script
  pub changes_reads : {X : Type 0} (view : X → List Change) (tree : ControlValue) (result : Result X BindFault) → IsOutcome view result (changes_text file tree read.items) → ReadsOutcome view told left before now result (λ files. changes_in files file tree)
  changes_reads view tree = front_reads view (changes_text file tree) (changes-looks file tree)
