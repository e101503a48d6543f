-- What a command comes to, by what was read and what was done of it.
use Rattle.std.proofs.Common.{ℕ, List}
use Rattle.std.specs.Prelude.{Option, Result, Ok, Err, IfOk}
use Rattle.std.specs.declared.alloc.AllocError.{AllocError}
use Rattle.rv_io.specs.Files.{Files}
use Rattle.rv_model.specs.declared.entry.Entry.{Entry}
use Rattle.rv_bind.specs.declared.fault.BindFault.{BindFault}
use Rattle.rv_bind.specs.declared.fault.BindFault.TheVariants as faults
use Rattle.rv_bind.specs.Outcomes.{Outcome, accepted, Refines, BlamesReached}
use Rattle.rv_bind.specs.Possible.{MayFault}
use Rattle.rv_check.specs.declared.reading.Verdict.{Verdict}
use Rattle.rv_tool.specs.declared.replay.FinishedRun.{FinishedRun}
use Rattle.rv_tool.specs.Checks.{CheckedValue, IsJudged, IsCheckReport, verdict_text, verdict_status}
use Rattle.rv_tool.specs.inner.Checks.{JudgesRead, JudgesSome}
use Rattle.rv_tool.specs.inner.Commands.{ComesTo, IsFinished, IsText}

module _ {X Y : Type 0} (view : X → Y) (May : Outcome Y → Type 0) (Goes : Y → List Entry → List ℕ → ℕ → Type 0) (outcome : Files → Outcome Y) (told : Option Files) (before now : ℕ) where
  -- what was read was done
  pub done_comes : (x : X) (done : FinishedRun) → Refines view told before now (Ok x) outcome → May (accepted (view x)) → Goes (view x) done.closed done.text.items done.status → ComesTo May Goes outcome told before now (Ok done)
  done_comes x done comes is goes = (λ files known. (view x, comes files known, goes), (view x, is, goes))

  -- or there was no memory for it
  pub run_comes : (x : X) (ran : Result FinishedRun AllocError) (result : Result FinishedRun BindFault) → Refines view told before now (Ok x) outcome → May (accepted (view x))
      → IfOk ran (λ done. Goes (view x) done.closed done.text.items done.status) → IsFinished ran result → ComesTo May Goes outcome told before now result
  run_comes x (Ok done) result comes some goes is = rw is (done_comes x done comes some goes)
  run_comes x (Err none) result comes some goes is = rw is (tt, tt, tt)

  -- the reading has a fault
  pub fault_comes : (Z : Type 0) (fault : BindFault) → Refines view told before now (Err fault) outcome → BlamesReached {X = Z} told (Err fault) outcome → MayFault fault May → ComesTo May Goes outcome told before now (Err fault)
  fault_comes Z faults.Memory comes named may = (tt, tt, tt)
  fault_comes Z (faults.Refused file refusal) comes named may = (comes, tt, may)
  fault_comes Z (faults.Unread file) comes named may = (comes, named, may)

-- the line of a verdict is the report of what it is the verdict on
judged_report : (c : CheckedValue) (verdict : Verdict) (done : FinishedRun) → IsJudged c verdict → IsText (verdict_text verdict) (verdict_status verdict) done.closed done.text.items done.status → IsCheckReport c done.closed done.text.items done.status
judged_report c verdict done is text = record { verdict = verdict; judged = is; text_is = text.0; status_is = text.1; no_history = text.2 }

-- a verdict was said
pub verdict_comes : (May : Outcome CheckedValue → Type 0) (outcome : Files → Outcome CheckedValue) (told : Option Files) (before now : ℕ) (verdict : Verdict) (ran : Result FinishedRun AllocError) (result : Result FinishedRun BindFault) → JudgesRead told before now (Ok verdict) outcome → JudgesSome (Ok verdict) May
    → IfOk ran (λ done. IsText (verdict_text verdict) (verdict_status verdict) done.closed done.text.items done.status) → IsFinished ran result → ComesTo May IsCheckReport outcome told before now result
verdict_comes May outcome told before now verdict (Ok done) result judges some text is =
    rw is (λ files known. let found = judges files known in (found.0, found.1, judged_report found.0 verdict done found.2 text), (some.0, some.1, judged_report some.0 verdict done some.2 text))
verdict_comes May outcome told before now verdict (Err none) result judges some text is = rw is (tt, tt, tt)
