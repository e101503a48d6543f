-- Which slot `watch` reads.
use Rattle.std.specs.Prelude.{ℕ, List, Option, Some, None, Result, Ok}
use Rattle.rv_text.specs.declared.refusals.Refusal.{Refusal}
use Rattle.rv_text.specs.Readings.{refused_with}
use Rattle.rv_io.specs.Files.{Files}
use Rattle.rv_bind.specs.Outcomes.{Outcome, reading, of_file}
use Rattle.rv_watch.specs.Instances.{slot_named}
use Rattle.rv_text.specs.declared.numbers.TheConstants.{NO_INSTANCE}
use Rattle.rv_tool.specs.Inputs.{InputValue, run_input}

-- the slot of the instance that two words name, if the run has it
abbrev pub watched_slot : InputValue → List ℕ → List ℕ → Option ℕ
watched_slot i monitor instance = slot_named i.bound.containers i.bound.monitors i.routed.tasks monitor instance

-- a run, and the slot whose words are read
pub record WatchValue : Type 0 where
  pub input : InputValue
  pub slot : ℕ

-- the run does not have the instance, or it has this slot
abbrev pub watched_by : InputValue → Option ℕ → Result WatchValue Refusal
watched_by i None = refused_with NO_INSTANCE
watched_by i (Some slot) = Ok (record { input = i; slot = slot })

-- the bindings and the trace, and then the words that name the instance
abbrev pub watched_input : Files → List ℕ → List ℕ → List ℕ → List ℕ → Outcome WatchValue
watched_input files bindings trace monitor instance = reading (run_input files bindings trace) (λ input. of_file trace (watched_by input (watched_slot input monitor instance)))
