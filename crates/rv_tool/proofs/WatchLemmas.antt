-- What a reading with a watched slot comes to and names.
use Rattle.std.proofs.Common.{List, ℕ, refl}
use Rattle.std.specs.Prelude.{Option, Err}
use Rattle.rv_io.specs.Files.{Files}
use Rattle.rv_bind.specs.declared.fault.BindFault.{BindFault}
use Rattle.rv_bind.specs.Outcomes.{BlamesReached, of_file}
use Rattle.rv_bind.proofs.ReachedLemmas.{step_named}
use Rattle.rv_tool.specs.Inputs.{run_input}
use Rattle.rv_tool.specs.Watched.{watched_slot, watched_by, watched_input}

-- what the bindings and the trace name, the whole names
pub watch_named : (told : Option Files) (X Z : Type 0) (bindings trace monitor instance : List ℕ) (fault : BindFault) → BlamesReached {X = X} told (Err fault) (λ files. run_input files bindings trace)
    → BlamesReached {X = Z} told (Err fault) (λ files. watched_input files bindings trace monitor instance)
watch_named told X Z bindings trace monitor instance fault =
    step_named X Z told fault (λ files. run_input files bindings trace) (λ files input. of_file trace (watched_by input (watched_slot input monitor instance))) (λ files. watched_input files bindings trace monitor instance) (λ files. refl)
