-- What is read can be recorded where its monitors are narrow and no rule ends an instance, and else the bindings are refused.
use Rattle.std.proofs.Common.{◌≡◌, ℕ, Bool, true, false, List, [], refl, sym, ap, subst, arith}
use Rattle.std.specs.Prelude.{not, Option, Result, Ok, Err, if◌then◌else◌}
use Rattle.std.specs.List.{list_any}
use Rattle.std.proofs.lemmas.Bool.{and_parts, not-true}
use Rattle.rv_io.specs.Files.{Files}
use Rattle.rv_bind.specs.declared.bindings.Monitor.{Monitor}
use Rattle.rv_text.specs.declared.refusals.Refusal.{Refusal}
use Rattle.rv_text.specs.Readings.{refused_with}
use Rattle.rv_bind.specs.declared.fault.BindFault.{BindFault}
use Rattle.rv_bind.specs.declared.fault.BindFault.TheVariants as faults
use Rattle.rv_bind.specs.Outcomes.{BlamesReached, of_file, refused, IsRefusal, IsFaultOf}
use Rattle.rv_bind.proofs.ReachedLemmas.{step_named}
use Rattle.rv_tool.specs.declared.input.Prepared.{Prepared}
use Rattle.rv_tool.specs.Inputs.{InputValue, run_input}
use Rattle.rv_text.specs.declared.numbers.TheConstants.{NOT_NUMBERED}
use Rattle.rv_stream.specs.inner.Faults.{IsOutcome}
use Rattle.rv_tool.specs.Journals.{ends_instances, can_record, if_recordable, recordable_input}
use Rattle.rv_tool.specs.inner.Journals.{IsRecordable}
use Rattle.rv_tool.specs.CountsFit.{monitors_fit_counts}
use Rattle.rv_tool.specs.inner.Prepared.{prepared_value, IsPrepared}

-- ---- which runs are recorded

-- a refusal of the bindings is what is told of it
refused_told : (bindings : List ℕ) (refusal : Refusal) (fault : BindFault) → IsRefusal refusal → IsFaultOf fault bindings refusal → IsOutcome prepared_value (Err fault) (of_file bindings (Err refusal))
refused_told bindings refusal faults.Memory numbered is = tt
refused_told bindings refusal (faults.Refused named given) numbered is = (rw is.1 numbered, λ i. refused (sym is.0 i) (sym is.1 i))
refused_told bindings refusal (faults.Unread named) numbered is = absurd is

module _ (ready : Prepared) where
  -- what is ready where the test passes, and else the refusal of what cannot be recorded
  abbrev by_test : Bool → Result InputValue Refusal
  by_test b = if b then Ok (prepared_value ready) else refused_with NOT_NUMBERED

  -- where the test passes, the run can be recorded
  pub may_record : IsPrepared ready → ready.changes.items ≡ [] → can_record (prepared_value ready) ≡ true → IsRecordable ready
  may_record is unchanged on =
      let monitors : List Monitor = ready.bindings.monitors.items in
      let parts = and_parts (monitors_fit_counts monitors ready.setup.tables) (not (list_any ends_instances ready.bindings.rules.items)) on in
      record {
        ready = is;
        unchanged = unchanged;
        narrow = parts.0;
        no_ends = not-true (list_any ends_instances ready.bindings.rules.items) parts.1;
      }

  -- and what is ready is accepted
  pub ready_told : (bindings : List ℕ) → can_record (prepared_value ready) ≡ true → IsOutcome prepared_value (Ok ready) (of_file bindings (if_recordable (prepared_value ready)))
  ready_told bindings on = ap (λ (b : Bool). of_file bindings (by_test b)) on

  -- and else it is refused
  pub not_told : (bindings : List ℕ) (fault : BindFault) → can_record (prepared_value ready) ≡ false → IsFaultOf fault bindings (record { number = NOT_NUMBERED; line = 0 }) → IsOutcome prepared_value (Err fault) (of_file bindings (if_recordable (prepared_value ready)))
  not_told bindings fault off is =
      subst (λ (r : Result InputValue Refusal). IsOutcome prepared_value (Err fault) (of_file bindings r)) (sym (ap by_test off)) (refused_told bindings (record { number = NOT_NUMBERED; line = 0 }) fault (omega arith, omega arith) is)

-- ---- what a reading comes to

-- what the bindings and the trace name, the whole names
pub numbered_named : (told : Option Files) (X Z : Type 0) (bindings trace : List ℕ) (fault : BindFault) → BlamesReached {X = X} told (Err fault) (λ files. run_input files bindings trace)
    → BlamesReached {X = Z} told (Err fault) (λ files. recordable_input files bindings trace)
numbered_named told X Z bindings trace fault = step_named X Z told fault (λ files. run_input files bindings trace) (λ files input. of_file bindings (if_recordable input)) (λ files. recordable_input files bindings trace) (λ files. refl)
