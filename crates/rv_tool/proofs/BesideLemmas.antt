-- The unread file that a part of a reading with a control script names is reached in the whole.
use Rattle.std.proofs.Common.{◌≡◌, List, ℕ, [], refl, inr}
use Rattle.std.specs.Prelude.{Option, Some, Err}
use Rattle.rv_io.specs.Files.{Files}
use Rattle.rv_bind.specs.declared.fault.BindFault.{BindFault}
use Rattle.rv_bind.specs.Values.{BoundValue}
use Rattle.rv_bind.specs.Bound.{bound_of}
use Rattle.rv_bind.specs.Outcomes.{Outcome, accepted, reading, front_named, BlamesReached, ReadsOutcome}
use Rattle.rv_bind.proofs.FrontLemmas.{front_named-reading}
use Rattle.rv_bind.proofs.ReachedLemmas.{IsLocal, reading-local, of_name-local, bound-local, step_named}
use Rattle.rv_bind.proofs.ReadsLemmas.{step_reads, later_reads, behind_reads}
use Rattle.rv_model.specs.declared.work.Change.{Change}
use Rattle.rv_route.specs.Routing.{RoutedValue}
use Rattle.rv_control.specs.Trees.{ControlValue}
use Rattle.rv_stream.specs.RoutedTraces.{routed_text, routed_in}
use Rattle.rv_tool.specs.Inputs.{InputValue, run_input}
use Rattle.rv_tool.specs.Sessions.{control_value}
use Rattle.rv_tool.specs.Changes.{changes_text, changes_in, input_beside}
use Rattle.rv_tool.proofs.LookLemmas.{changes-looks}

-- what the bindings and a trace make
abbrev made : BoundValue → RoutedValue → Outcome InputValue
made bound routed = accepted (record { bound = bound; routed = routed; changes = [] })

-- without a file the bindings and the trace come to that file, or to what they are
pub input-local : (bindings trace : List ℕ) → IsLocal (λ files. run_input files bindings trace)
input-local bindings trace =
    reading-local (λ files. bound_of files bindings) (λ files bound. reading (routed_in files trace bound) (made bound)) (bound-local bindings)
    (λ bound. reading-local (λ files. routed_in files trace bound) (λ files. made bound) (of_name-local trace (λ files. routed_text trace bound) (λ text files file. inr refl)) (λ routed files file. inr refl))

module _ (told : Option Files) where
  -- an unread script is read by its file
  pub changes_named : (X Z : Type 0) (script : List ℕ) (tree : ControlValue) (fault : BindFault) → BlamesReached {X = X} told (Err fault) (λ files. front_named files script) → BlamesReached {X = Z} told (Err fault) (λ files. changes_in files script tree)
  changes_named X Z script tree fault =
      step_named X Z told fault (λ files. front_named files script) (λ files text. changes_text script tree text) (λ files. changes_in files script tree) (λ files. front_named-reading (changes_text script tree) (changes-looks script tree) files script)

  module _ (bindings trace script : List ℕ) where
    next : Files → InputValue → Outcome InputValue
    next files input = reading (changes_in files script (control_value input.bound)) (λ changes. accepted (record input { changes = changes }))

    -- what the bindings and the trace name, the whole names
    pub beside_named : (X Z : Type 0) (fault : BindFault) → BlamesReached {X = X} told (Err fault) (λ files. run_input files bindings trace) → BlamesReached {X = Z} told (Err fault) (λ files. input_beside files bindings trace script)
    unfolding next
    beside_named X Z fault = step_named X Z told fault (λ files. run_input files bindings trace) next (λ files. input_beside files bindings trace script) (λ files. refl)

-- where the bindings and the trace were read, the whole's fault is the script's
pub beside_behind_reads : {X Z : Type 0} (view : X → List Change) (whole_view : Z → InputValue) (told mid left : Option Files) (before count now : ℕ) (bindings trace script : List ℕ) (input : InputValue) (fault : BindFault) → mid ≡ told → count ≡ before
    → ((files : Files) → told ≡ Some files → run_input files bindings trace ≡ accepted input)
    → ReadsOutcome view mid left count now (Err fault) (λ files. changes_in files script (control_value input.bound)) → ReadsOutcome whole_view told left before now (Err fault) (λ files. input_beside files bindings trace script)
beside_behind_reads view whole_view told mid left before count now bindings trace script input fault same le read reads =
    behind_reads whole_view told left before now (Err fault) (λ files. run_input files bindings trace) input
    (λ files i. reading (changes_in files script (control_value i.bound)) (λ changes. accepted (record i { changes = changes }))) (input-local bindings trace) read
    (step_reads view whole_view told left before now fault (λ files. changes_in files script (control_value input.bound)) (λ files changes. accepted (record input { changes = changes }))
    (later_reads view told mid left before count now (Err fault) (λ files. changes_in files script (control_value input.bound)) same le reads))
